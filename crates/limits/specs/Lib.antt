-- The limits, and what is off them.
pub mod Limits
pub mod Range
