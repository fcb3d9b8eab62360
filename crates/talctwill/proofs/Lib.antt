-- What the numbers of an answer tell.
pub mod Numbers
