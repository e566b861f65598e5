-- What the contracts cite: little-endian numbers in lists of bytes. Assumes nothing.
pub mod Number
