-- The claims about the tangents that the calls hand back (rules D10 and D11).
pub mod Claim
