-- What the proofs of the crate share.
pub mod EventParts
