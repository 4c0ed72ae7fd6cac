-- The laws of the text of a line.
pub mod TextLaws
