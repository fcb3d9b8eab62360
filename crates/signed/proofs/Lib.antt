-- Laws on signed numbers, stated once.
pub mod NatParts
pub mod Calc
pub mod EqualBits
pub mod Widening
