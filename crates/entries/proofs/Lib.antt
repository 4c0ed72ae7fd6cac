-- The laws of the crate's own proofs.
pub mod CornerTests
