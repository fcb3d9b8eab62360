-- How large the grains of a physical interconnector, and the sums over a corridor's, get.
-- Assumes nothing.
use mathlib.Core.List.{List}
use Prim.Native.Nat.{ℕ, ◌≤◌}
use native.Mathlib.Nat as N
use lib.IntN.{ℤ, nat_abs}
use lib.ListN.{get_or}
use Rattle.units.specs.declared.Cents.{Cents}
use Rattle.rules.specs.declared.Line.{Line}
use Rattle.rules.specs.declared.Region.{Region}
use Rattle.rules.specs.Market.{region_number}
use Rattle.rules.specs.Residue.{grains_of, sum_from, price, line}
use Rattle.residue.specs.Internal.{LineInRange, InRange, highest_grains, highest_corridor_grains}
use Rattle.rules.proofs.Corridors.{sum_from_bound}
use Rattle.rules.proofs.ResidueBounds.{grains_size}

-- What is in range as a whole is so line by line.
pub line_in_range : {prices : List Cents} {shares : List ℕ} {lines : List Line} → InRange prices shares lines → (to from : Region) (i : ℕ)
    → LineInRange (price prices shares lines to) (price prices shares lines from) (get_or shares i 0) (line prices shares lines i)
line_in_range h to from i =
    record { to_price = h.price (region_number to); from_price = h.price (region_number from); share = h.share i; flow = h.flow i; losses = h.losses i }

pub line_small : {P Q : Cents} {k : ℕ} {l : Line} → LineInRange P Q k l → nat_abs (grains_of P Q k l).0 ≤ highest_grains
line_small {P} {Q} {k} {l} h = grains_size P Q k l h.to_price h.from_price h.share h.flow h.losses

-- The sum over two lines at most.
pub sum_small : (first n : ℕ) (f : ℕ → ℤ) → n ≤ 2 → ((i : ℕ) → nat_abs (f i) ≤ highest_grains)
    → nat_abs (sum_from first n f) ≤ highest_corridor_grains
sum_small first n f k h = N.le_trans (sum_from_bound first n highest_grains f (λ i _. h i)) (N.mul-le-mul k (N.le_refl highest_grains))
