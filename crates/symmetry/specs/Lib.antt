-- The definitions of the crate: lists that go along with a new numbering.
pub mod Carried
