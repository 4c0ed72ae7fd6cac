-- The masks, and the fraction that the code gives for one.
pub mod Mask
pub mod FractionOf
