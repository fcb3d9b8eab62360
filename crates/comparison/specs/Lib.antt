-- Our rows beside the published entries (N12), as two lists, in document 02's words.
pub mod Comparison
pub mod Entries
pub mod Internal
