-- Corners by their numbers.
pub mod Corner
