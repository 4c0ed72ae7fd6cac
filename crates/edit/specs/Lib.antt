-- The definitions that the contracts of the crate cite: the mirror image of a mesh, and what the call that writes it answers and leaves.
pub mod Mirror
