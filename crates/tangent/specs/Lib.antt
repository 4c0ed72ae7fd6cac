-- The tangent vectors of a face: those of each side, the 24 in their order, each once more as the source writes it, and the answer of the call; the
-- last two are cited by private functions only.
pub mod Vector
pub mod Tangent
pub mod Document
pub mod Answer
pub mod Told
pub mod Lists
