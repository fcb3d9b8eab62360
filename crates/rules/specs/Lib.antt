-- What document 01 means, in its order. What a request of document 02 changes stands where document 01's sentence stood, marked with the
-- request, as "(N4)". N2's settings, N9's unrounded sum and N10's sets have files of their own: Settings, before the rules that read it, Rounding,
-- after the record that it reads, and Sets, after Tracker, which has the interval call; Calls has the lists of all kinds of calls (N14's among
-- them), of which Claim speaks. Bounds follows from all this.
pub mod Market
pub mod Residue
pub mod Settings
pub mod Interval
pub mod History
pub mod Record
pub mod Rounding
pub mod Refusal
pub mod Tracker
pub mod Sets
pub mod Calls
pub mod Claim
pub mod Bounds
pub mod Figures
