-- The laws of the crate: the answer of the mirror call, by the first row that is met.
pub mod AnswerLaws
