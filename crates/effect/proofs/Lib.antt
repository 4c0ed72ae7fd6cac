-- The proof of the claims about edited meshes: from the mirror image of a mesh to the samples of both.
pub mod SampleRelated
pub mod FromMirror
pub mod MirrorLaws
pub mod MirrorMet
