-- The definitions that the contracts of the crate cite, from half-edges up to the answer of the check.
pub mod HalfEdge
pub mod Fan
pub mod IndexedMesh
pub mod Refusal
pub mod Answer
pub mod WellFormed
pub mod Tables
pub mod Phases
pub mod Circulation
pub mod Walk
