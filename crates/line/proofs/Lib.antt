-- The laws of the crate, from the sums along a curve to the answer of the line call.
pub mod SizedLaws
pub mod DifferenceLaws
pub mod LineLaws
pub mod LineAnswerLaws
