-- The laws of the crate, from the weights to the answers.
pub mod BernsteinLaws
pub mod SampleLaws
pub mod ExactLaws
pub mod BlendLaws
pub mod PatchLaws
pub mod RefusalLaws
pub mod CurveLaws
pub mod MarkedLaws
pub mod MicrometreLaws
