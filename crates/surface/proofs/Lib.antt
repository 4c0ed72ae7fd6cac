-- The proof of the claim, from what a renumbering is to the theorem.
pub mod FromRenumbering
pub mod RenumberedLaws
pub mod FaceSamples
pub mod MarkLaws
pub mod Seam
pub mod Distance
pub mod Exactness
pub mod AnsweredLaws
pub mod ClaimLaws
pub mod WitnessLaws
