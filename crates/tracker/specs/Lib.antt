-- What the calls promise, and what the functions below them are asked.
pub mod Promise
pub mod Internal
