-- The laws of the crate.
pub mod FoldLaws
pub mod PermutationLaws
pub mod AnyAll
pub mod Least
pub mod Counting
pub mod Gather
pub mod FilledLaws
pub mod IntegerSum
pub mod Lists
pub mod Flags
