-- Bytes put into a buffer part by part, and a u32 as it is read and written: for every reader and writer, also of other crates.
pub mod Parts
pub mod Little
