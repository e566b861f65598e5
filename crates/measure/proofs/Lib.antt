-- The laws of the stream: its length, its blocks by record, the record read from a lent plan, a block's bytes, the digest by
-- blocks, the turns of a measurement, the theorem that a written plan's digest is SHA-384 of the stream, and the theorem that the stream tells what was
-- loaded and no more; and the stream computed. Assumes nothing.
pub mod Example
pub mod Length
pub mod Blocks
pub mod Bytes
pub mod Folded
pub mod Records
pub mod Run
pub mod Quotas
pub mod Held
pub mod Cuts
pub mod Unique
pub mod Alike
pub mod Launch
pub mod Same
