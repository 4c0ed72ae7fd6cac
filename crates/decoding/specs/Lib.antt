-- The bytes of a file (rules F1 to F3).
pub mod Bytes
pub mod File
pub mod Decoding
