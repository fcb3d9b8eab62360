-- The corridor table's facts, computed once over the whole of it, and what they say of a sum over a corridor's physical interconnectors.
-- Assumes nothing.
use mathlib.Core.Path.{◌≡◌, refl}
use mathlib.Core.Bool.{Bool, true, ◌&&◌}
use mathlib.Core.List.{List, [], ◌∷◌}
use Prim.Native.Nat.{ℕ, zero, suc, ◌+◌, ◌*◌, ◌≤◌, ◌<◌}
use native.Mathlib.Nat.{mul-le-mul, suc-mul, le_refl, le_trans}
use native.Mathlib.Omega.{arith}
use borrow.Author.Tests.{ltb-true, leb-true}
use lib.Dec.{ltb, leb}
use lib.IntN.{ℤ, nat_abs}
use lib.ListN.{get_or}
use Rattle.signed.proofs.Calc.{abs-add}
use Rattle.rules.specs.declared.Region.TheVariants.{Nsw1}
use Rattle.rules.specs.declared.Corridor.{Corridor}
use Rattle.rules.specs.Market.{region_number, corridors, corridor}
use Rattle.rules.specs.Residue.{sum_from, over_lines}
use Rattle.rules.proofs.EachBelow.{both_true}

-- A corridor's regions are among the four; it has at most two of the six physical interconnectors.
pub record InTable (r : Corridor) : Type 0 where
  pub from : region_number r.from < 4
  pub to : region_number r.to < 4
  pub few : r.lines ≤ 2
  pub last : r.first + r.lines ≤ 6

-- That a corridor is so, and that each of a table is, as tests that compute.
abbrev in_table : Corridor → Bool
in_table r = ltb (region_number r.from) 4 && (ltb (region_number r.to) 4 && (leb r.lines 2 && leb (r.first + r.lines) 6))

abbrev all_in_table : List Corridor → Bool
all_in_table [] = true
all_in_table (r ∷ rs) = in_table r && all_in_table rs

-- A table that passes, read with a corridor that passes past its end, gives one that passes at any number.
at_number : (rs : List Corridor) (default : Corridor) → all_in_table rs ≡ true → in_table default ≡ true → (c : ℕ) → in_table (get_or rs c default) ≡ true
at_number [] default all past c = past
at_number (r ∷ rs) default all past zero = (both_true (in_table r) _ all).0
at_number (r ∷ rs) default all past (suc c) = at_number rs default (both_true (in_table r) _ all).1 past c

pub in_table_lem : (c : ℕ) → InTable (corridor c)
in_table_lem c =
    let r = corridor c in
    let from = both_true (ltb (region_number r.from) 4) _ (at_number corridors (record { from = Nsw1; to = Nsw1; first = 0; lines = 0 }) refl refl c) in
    let to = both_true (ltb (region_number r.to) 4) _ from.1 in
    let few = both_true (leb r.lines 2) _ to.1 in
    record {
      from = ltb-true (region_number r.from) 4 from.0;
      to = ltb-true (region_number r.to) 4 to.0;
      few = leb-true r.lines 2 few.0;
      last = leb-true (r.first + r.lines) 6 few.1;
    }

-- A sum over k numbers from first on, and over the physical interconnectors of a corridor.
pub sum_from_bound : (first k n : ℕ) (f : ℕ → ℤ)
    → ((i : ℕ) → i < first + k → nat_abs (f i) ≤ n)
    → nat_abs (sum_from first k f) ≤ k * n
sum_from_bound first zero n f h = omega arith
sum_from_bound first (suc k) n f h =
    let others = sum_from_bound first k n f (λ i l. h i (omega arith)) in
    omega (arith, suc-mul k n, abs-add (sum_from first k f) (f (first + k)), h (first + k) (omega arith))

pub over_lines_bound : (c n : ℕ) (f : ℕ → ℤ) → ((i : ℕ) → i < 6 → nat_abs (f i) ≤ n) → nat_abs (over_lines c f) ≤ 2 * n
over_lines_bound c n f h =
    let t = in_table_lem c in
    le_trans (sum_from_bound (corridor c).first (corridor c).lines n f (λ i l. h i (omega arith))) (mul-le-mul t.few (le_refl n))
