-- The definitions that the contracts of the crate cite, from the weights to the answers.
pub mod Bernstein
pub mod Refusal
pub mod Answer
pub mod Curve
pub mod Marked
pub mod Blend
