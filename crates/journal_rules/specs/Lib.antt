-- The journal, in the words of document 01 and of N7.
pub mod Journal
pub mod Survivors
pub mod Run
pub mod Internal
pub mod RoundTrip
pub mod Promise
