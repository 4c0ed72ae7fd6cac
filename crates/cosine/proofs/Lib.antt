-- The laws that other crates use.
pub mod CosineLaws
pub mod UniqueLaws
pub mod RootLaws
pub mod ChainLaws
pub mod WeightLaws
pub mod WeightSize
pub mod SizeLaws
