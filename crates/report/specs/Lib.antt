-- What the programs' reading of bytes gives.
pub mod Settings
