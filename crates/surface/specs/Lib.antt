-- What a renumbering is, and the claim (rules C1 to C11).
pub mod Renumbering
pub mod Renumbered
pub mod Claim
pub mod Witness
