-- The listing, in document 01's words.
pub mod Line
pub mod Listing
pub mod Internal
