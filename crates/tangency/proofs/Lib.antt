-- The proof of the claims about the tangents: from the roundings of one edge to the numbers of the calls.
pub mod NearLaws
pub mod AcrossLaws
pub mod ListLaws
pub mod VectorMoves
pub mod GivenLaws
pub mod RenumberedLaws
pub mod ClaimLaws
pub mod ClaimMet
