-- The digits of numbers.
pub mod Decimal
