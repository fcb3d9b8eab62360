-- Our record beside the published one (N12), in document 02's words.
pub mod Beside
pub mod Promise
