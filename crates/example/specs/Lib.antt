-- What a caller may say of its own list of calls, and of its own two rows (N6).
pub mod Own
