-- What C is answered.
pub mod InNumbers
