-- The laws of the crate.
pub mod ListingLaws
pub mod FittingLaws
pub mod StretchLaws
pub mod RowLaws
pub mod PlaceLaws
pub mod OpenedLaws
