-- One proof for all stored lines.
pub mod Computed
