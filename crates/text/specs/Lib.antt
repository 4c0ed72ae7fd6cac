-- The printed lines (rules F5 to F9).
pub mod Text
pub mod Put
