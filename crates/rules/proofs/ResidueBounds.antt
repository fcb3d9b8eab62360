-- How large a residue can be, from the ranges of prices, a and b.
-- Assumes nothing.
use mathlib.Core.Path.{◌≡◌, refl}
use mathlib.Core.Bool.{Bool, true, false, cond}
use mathlib.Core.List.{List}
use Prim.Native.Nat.{ℕ, zero, suc, ◌+◌, ◌*◌, ◌≤◌, ◌<◌}
use native.Mathlib.Omega.{arith}
use lib.IntN.{ℤ, pos, negsuc, nat_abs, ◌-ℤ◌}
use lib.ListN.{get_or}
use Rattle.signed.specs.Range.{negative}
use Rattle.signed.proofs.NatParts.{diff, abs_by}
use Rattle.signed.proofs.Calc.{Calc, val, num, ◌⊕◌, ◌⊖◌, ◌⊗◌, sized}
use Rattle.units.specs.declared.Cents.{Cents}
use Rattle.units.specs.declared.Grains.{Grains}
use Rattle.units.specs.Units.{cents, lower_of_zero}
use Rattle.rules.specs.declared.Line.{Line}
use Rattle.rules.specs.Market.{region_number, corridor}
use Rattle.rules.specs.Residue.{grains_of, with_sign, rounded, price, line, line_grains, corridor_grains, residue_of}
use Rattle.rules.proofs.Corridors.{over_lines_bound}
use Rattle.rules.proofs.Laws.{of_residue}
use Rattle.rules.proofs.RecordRanges.{Ranged}

-- The other share of the losses is a share too.
rest_size : (k : ℕ) → k ≤ 1000 → nat_abs (pos 1000 -ℤ pos k) ≤ 1000
rest_size k h = abs_by (pos 1000 -ℤ pos k) (omega (arith, diff (pos 1000) (pos k)))

-- The grains of a physical interconnector.
pub grains_size : (P Q : Cents) (k : ℕ) (l : Line) {A B : ℕ} → nat_abs P.0 ≤ 3000000 → nat_abs Q.0 ≤ 3000000 → k ≤ 1000 → nat_abs l.a.0 ≤ A → nat_abs l.b.0 ≤ B
    → nat_abs (grains_of P Q k l).0 ≤ 6000000000 * (A + B)
grains_size P Q k l {A} {B} p q s a b =
    let flow : Calc = num (pos 1000) ⊗ val {z = l.a.0} (record { size = a }) in
    let losses : Calc = val {z = l.b.0} (record { size = b }) in
    let received : Calc = flow ⊖ val {z = pos 1000 -ℤ pos k} (record { size = rest_size k s }) ⊗ losses in
    let sent : Calc = flow ⊕ val {z = pos k} (record { size = s }) ⊗ losses in
    omega (arith, sized (val {z = P.0} (record { size = p }) ⊗ received ⊖ val {z = Q.0} (record { size = q }) ⊗ sent))

with_sign_size : (z : ℤ) (n : ℕ) → nat_abs (with_sign z n) ≡ n
with_sign_size (pos z) n = refl
with_sign_size (negsuc z) zero = refl
with_sign_size (negsuc z) (suc n) = refl

-- At most 2,400,000 times n grains are at most n cents.
pub rounded_size : (g : Grains) (n : ℕ) → nat_abs g.0 ≤ 2400000 * n → nat_abs (rounded g).0 ≤ n
rounded_size g n h = rw with_sign_size (omega arith)

-- An amount that is passed on or left out.
pub cond_size : (t : Bool) (r : Cents) (n : ℕ) → nat_abs r.0 ≤ n → nat_abs (cond t r (cents (pos 0))).0 ≤ n
cond_size true r n h = h
cond_size false r n h = omega arith

module _ (prices : List Cents) (shares : List ℕ) (lines : List Line) (A B : ℕ) (inside : Ranged prices lines A B) (share : (i : ℕ) → i < 6 → get_or shares i 0 ≤ 1000) where
  line_size : (c i : ℕ) → i < 6 → nat_abs (line_grains prices shares lines c i).0 ≤ 6000000000 * (A + B)
  line_size c i l =
      grains_size (price prices shares lines (corridor c).to) (price prices shares lines (corridor c).from) (get_or shares i 0) (line prices shares lines i)
      (inside.price (region_number (corridor c).to)) (inside.price (region_number (corridor c).from)) (share i l) (inside.a i) (inside.b i)

  corridor_size : (c : ℕ) → nat_abs (corridor_grains prices shares lines c).0 ≤ 2400000 * (5000 * (A + B))
  corridor_size c =
      let h = over_lines_bound c (6000000000 * (A + B)) (λ i. (line_grains prices shares lines c i).0) (line_size c) in
      omega arith

  -- a residue is of magnitude 5000 (A + B) at most, in cents
  pub residue_size : (d : ℕ) → nat_abs (residue_of prices shares lines d).cents.0 ≤ 5000 * (A + B)
  residue_size = of_residue prices shares lines (λ r. nat_abs r.cents.0 ≤ 5000 * (A + B)) (λ c. rounded_size (corridor_grains prices shares lines c) (5000 * (A + B)) (corridor_size c)) (omega arith)

pub lower_size : (a : Cents) → nat_abs (lower_of_zero a).0 ≤ nat_abs a.0
lower_size a = cond_size (negative a.0) a (nat_abs a.0) (omega arith)
