-- The laws of ℤ, its ring normaliser, and the laws of rounding.
pub mod Cases
pub mod Difference
pub mod Laws
pub mod Ring
pub mod NearestLaws
pub mod WholeLaws
pub mod Rounding
