-- What the contracts cite.
pub mod Cosine
pub mod Root
pub mod Weight
pub mod Generator
