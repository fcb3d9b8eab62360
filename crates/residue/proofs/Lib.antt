-- Laws that this crate's proofs and its callers share.
mod LineBounds
mod CorridorSum
pub mod ResidueArray
