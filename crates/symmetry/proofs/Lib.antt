-- The laws of the crate: what two meshes of one shape have in common.
pub mod CarriedLaws
pub mod Sense
pub mod Iso
pub mod VertexMoves
pub mod FanBack
pub mod FanMoves
pub mod WellFormedMoves
