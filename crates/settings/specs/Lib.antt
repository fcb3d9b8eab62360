-- What an entry of the step table stands for.
pub mod Internal
