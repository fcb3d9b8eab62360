-- What callers of the tracker may cite beside specs/Promise, and what the proofs of the crate share.
pub mod Promise
mod Advance
mod InTurn
