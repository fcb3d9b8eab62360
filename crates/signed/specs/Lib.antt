-- Words for signed numbers that definitions and contracts use.
pub mod Range
