-- The listing line by line (N3), in document 02's words.
pub mod NextLine
pub mod Promise
pub mod Internal
