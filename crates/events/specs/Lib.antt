-- What the contracts of the crate cite beyond the rules.
pub mod Event
