-- The worked meshes, as examples (rules X1 to X8, X12 to X14, X16 of the tangents, and X17 of the marks).
pub mod Meshes
pub mod Examples
pub mod TangentExamples
pub mod MarkExamples
