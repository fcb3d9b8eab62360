-- What the proofs of the crate share, and what holds of the table of steps.
mod EachOf
pub mod StepTable
