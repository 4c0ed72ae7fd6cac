-- The file, opened (rule F4).
pub mod Answer
pub mod Tessellated
