-- The laws that the crates above cite: writes into lists, lists of bytes, the number that bytes hold, the bytes of a
-- number, that reading and writing undo each other, and std's number of a part's bytes. Assumes nothing.
pub mod Sets
pub mod Bytes
pub mod Number
pub mod Digits
pub mod Inverse
pub mod Parts
pub mod Fields
