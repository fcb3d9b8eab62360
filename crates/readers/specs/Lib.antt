-- Two readers of one row, in the words of N6.
pub mod Views
pub mod Promise
