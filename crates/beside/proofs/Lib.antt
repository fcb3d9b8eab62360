-- The rows of a run go into the merge in turn, and rise; what the call promises.
pub mod ShownInTurn
pub mod RowsRise
pub mod RunInTurn
pub mod Promise
mod Checks
