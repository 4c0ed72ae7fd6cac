-- The laws of the crate: the control points of a mesh in either sense, and those of two meshes of one shape.
pub mod PointSense
pub mod PointMoves
