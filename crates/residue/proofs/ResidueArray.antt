-- For callers of `residues`: the sizes of the eight residues and the loop's sum, over the array that it returns.
-- Assumes nothing.
use mathlib.Core.Path.{◌≡◌, ap}
use mathlib.Core.List.{List}
use Prim.Native.Nat.{ℕ, ◌≤◌, ◌<◌}
use native.Mathlib.Decide.{dec_lt}
use native.Mathlib.Omega.{arith}
use lib.IntN.{nat_abs}
use lib.ListN.{get_or, get_or-eq_default}
use Rattle.units.specs.declared.Cents.{Cents}
use Rattle.rules.specs.declared.Line.{Line}
use Rattle.rules.specs.declared.Residue.{Residue}
use Rattle.rules.specs.Bounds.{highest_next}
use Rattle.rules.specs.Residue.{no_residue, residue_of}
use Rattle.rules.specs.Interval.{loop_sum}
use Rattle.rules.specs.Market.{of_directions}
use Rattle.residue.specs.Internal.{InRange, highest_a, highest_b}
use Rattle.rules.proofs.Directions.{at_direction}
use Rattle.rules.proofs.ResidueBounds.{residue_size}

-- an array of residues is read with none past its end
abbrev pub at : List Residue → ℕ → Residue
at r d = get_or r d no_residue

module _ (f : ℕ → Residue) where
  -- what bounds f of every direction bounds the array
  pub each_size : {n : ℕ} → ((d : ℕ) → nat_abs (f d).cents.0 ≤ n) → {r : List Residue} → r ≡ of_directions f → (d : ℕ) → nat_abs (at r d).cents.0 ≤ n
  each_size {n} h e d = rw e (go (dec_lt d 8))
    where
      go : Dec (d < 8) → nat_abs (at (of_directions f) d).cents.0 ≤ n
      go (yes l) = rw (at_direction f no_residue d l) (h d)
      go (no l) = rw (get_or-eq_default (of_directions f) no_residue {n = d} (omega arith)) (omega arith)

  -- the loop's sum over the array is the sum over f
  pub loop_sum_is : {r : List Residue} → r ≡ of_directions f → loop_sum (λ d. (at r d).cents) ≡ loop_sum (λ d. (f d).cents)
  loop_sum_is e = ap (λ (r : List Residue). loop_sum (λ d. (at r d).cents)) e

-- within the ranges of this crate no residue is above the highest estimate
pub in_range_size : {prices : List Cents} {shares : List ℕ} {lines : List Line} → InRange prices shares lines → (d : ℕ)
    → nat_abs (residue_of prices shares lines d).cents.0 ≤ highest_next
in_range_size {prices} {shares} {lines} h = residue_size prices shares lines highest_a highest_b (record { price = h.price; a = h.flow; b = h.losses }) (λ i _. h.share i)
