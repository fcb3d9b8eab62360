-- Sums of money, megawatts and grains, each in its own type.
pub mod Units
