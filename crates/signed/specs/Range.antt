-- Ranges, signs and tests of signed numbers.
use Rattle.std.specs.Prelude.{ℕ, eqb, ℤ, pos, negsuc, neg_ℤ, ◌≤ℤ◌, Bool, true, false, ◌&&◌}
use Rattle.std.specs.Int.Signed.{le_z}

-- a negative number as it is written: `minus 100000`
abbrev pub minus : ℕ → ℤ
minus n = neg_ℤ (pos n)

-- z is below zero
abbrev pub negative : ℤ → Bool
negative (pos n) = false
negative (negsuc n) = true

-- two are equal
abbrev pub eq_z : ℤ → ℤ → Bool
eq_z (pos a) (pos b) = eqb a b
eq_z (pos a) (negsuc b) = false
eq_z (negsuc a) (pos b) = false
eq_z (negsuc a) (negsuc b) = eqb a b

-- z is lo or more and hi or less: as a test, and as a fact
abbrev pub within : ℤ → ℤ → ℤ → Bool
within lo hi z = le_z lo z && le_z z hi

pub record Within (lo hi z : ℤ) : Type 0 where
  pub low : lo ≤ℤ z
  pub high : z ≤ℤ hi
