-- The laws of the tangent vectors, and those that the proofs of the functions rest on.
pub mod SeenLaws
pub mod DocumentLaws
pub mod TurnLaws
pub mod InnerLaws
pub mod MachineLaws
pub mod RingLaws
pub mod RingSizeLaws
pub mod RenderLaws
pub mod PartLaws
pub mod SideLaws
pub mod TableLaws
pub mod FaceLaws
pub mod DrawnLaws
pub mod FillLaws
pub mod AnswerLaws
