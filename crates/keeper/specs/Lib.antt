-- Document 02, N11. What each call on a keeper returns, and lists of these calls; what counts as the tracker's history after them, from the calls
-- alone; the claim over lists; and what the calls promise by these words.
pub mod Keeper
pub mod Paths
pub mod Claim
pub mod Promise
pub mod Internal
