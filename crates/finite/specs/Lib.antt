-- The definitions of the crate: folds over the numbers below n, permutations of them, and lists filled from the front.
pub mod Fold
pub mod Permutation
pub mod Filled
