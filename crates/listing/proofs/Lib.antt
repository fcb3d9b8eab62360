-- How long lines and listings are, which lines each case gives, and examples.
pub mod Examples
pub mod LineLength
pub mod LinesByCase
pub mod ListingLength
pub mod RefusalNumbers
pub mod SameRun
mod SoFar
