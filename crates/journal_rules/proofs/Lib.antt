-- Laws that pin the definitions, what the proofs of the crate share, and for callers what a journal that a read accepts has passed.
pub mod Laws
pub mod Order
pub mod Survivors
pub mod OneByOne
pub mod Accept
pub mod EightDirections
pub mod RoundTrip
pub mod RunInTurn
pub mod Promise
