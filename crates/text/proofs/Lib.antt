-- The laws of digits and of the texts, and texts computed. Assumes nothing.
pub mod Digits
pub mod Decimal
pub mod Hexadecimal
pub mod Bytes
pub mod Texts
pub mod Example
