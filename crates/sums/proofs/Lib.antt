-- How large the sums get: for the proofs of the crate, and for callers that go on with them.
pub mod SumsSize
