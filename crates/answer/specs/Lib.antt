-- The definitions of the crate: tables of causes, and answers.
pub mod Listed
pub mod Number
pub mod Table
pub mod Told
