-- The laws of the file, opened.
pub mod OpenLaws
