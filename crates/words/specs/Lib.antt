-- Bytes in a buffer, and what the code of this crate needs beyond that.
pub mod Buffer
pub mod Internal
