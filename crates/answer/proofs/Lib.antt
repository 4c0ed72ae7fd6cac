-- The laws of the crate.
pub mod NumberLaws
pub mod TableLaws
