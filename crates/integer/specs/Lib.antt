-- What the contracts cite.
pub mod Nearest
