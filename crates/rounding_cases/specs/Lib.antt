-- The records of the journals that are stored for N9, the lines stored with them, and the lines of the definitions.
pub mod Records
pub mod Stored
pub mod Lines
