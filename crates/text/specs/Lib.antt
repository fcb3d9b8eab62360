-- Text as lists of bytes.
pub mod Text
pub mod Ascii
