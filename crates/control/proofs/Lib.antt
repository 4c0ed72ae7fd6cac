-- The laws that the proofs of the functions rest on, and what the table of values tells.
pub mod ControlLaws
pub mod ValuesLaws
