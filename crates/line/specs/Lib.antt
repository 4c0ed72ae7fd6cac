-- The definitions that the contracts of the crate cite: what a line is, and its private parts.
pub mod Line
pub mod Points
pub mod Differences
