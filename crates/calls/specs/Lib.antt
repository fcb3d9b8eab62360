-- What the code of this crate needs beyond the rules.
pub mod Internal
