-- The laws of the masks: what they keep, and their sums as the machine computes them.
pub mod LinearLaws
pub mod MachineLaws
pub mod RuleLaws
