-- What the tests of the entries say.
pub mod Entries
