-- The definitions of the control points, from the points of a corner to the list of patches; the last three are cited by private functions only.
pub mod Point
pub mod Patch
pub mod Answer
pub mod Lists
pub mod PatchTables
pub mod Written
pub mod Sources
