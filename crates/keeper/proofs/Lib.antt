-- What callers of a keeper may cite beside specs/Promise, and what the proofs of the crate share.
pub mod Checks
pub mod Paths
pub mod Promise
mod Returned
