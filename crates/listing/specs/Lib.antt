-- The whole text of a file, and stretches of it.
pub mod Listing
pub mod Place
