-- What becomes of the samples when a mesh is edited (rules E3 to E5).
pub mod Mirroring
