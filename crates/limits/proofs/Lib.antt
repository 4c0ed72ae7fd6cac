-- The laws of the crate, for its own proofs and for the layers above.
pub mod RangeLaws
