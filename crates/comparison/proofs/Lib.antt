-- The figures of two rising lists, part by part, and what follows for them.
pub mod Order
pub mod Parts
pub mod Lowest
pub mod Groups
pub mod Totals
pub mod Passed
pub mod EntriesRise
mod Checks
