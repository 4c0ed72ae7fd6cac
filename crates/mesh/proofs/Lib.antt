-- The laws of the crate, for its own proofs and for the layers above.
pub mod CornerLaws
pub mod TwinLaws
pub mod CirculationLaws
pub mod FanLaws
pub mod WalkLaws
pub mod BoundaryLaws
pub mod ConnectedLaws
pub mod MetLaws
pub mod EdgeLaws
pub mod SizeLaws
pub mod ChainLaws
pub mod AcceptedLaws
pub mod PhaseLaws
pub mod TurnLaws
pub mod VertexLaws
pub mod ListLaws
