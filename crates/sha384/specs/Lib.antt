-- FIPS 180-4 as definitions, in its own order: words and their functions, the constants, the padding, the hash.
pub mod Words
pub mod Constants
pub mod Padding
pub mod Hash
