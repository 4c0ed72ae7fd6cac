-- The laws of the bytes of a file.
pub mod ByteLaws
pub mod FileLaws
