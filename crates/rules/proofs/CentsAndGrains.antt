-- Cents and what rounding to them leaves over (N8): together they are the grains, and the leftover is half a cent at most.
-- Assumes nothing.
use mathlib.Core.Path.{◌≡◌, ap}
use Prim.Native.Nat.{ℕ, ◌+◌, ◌*◌, ◌≤◌}
use native.Mathlib.Omega.{arith}
use lib.IntN.{ℤ, pos, negsuc, nat_abs, ◌+ℤ◌, ◌-ℤ◌, ◌*ℤ◌, +ℤ_idl, +ℤ_idr}
use lib.Signed.{le_z_yes}
use Rattle.signed.specs.Range.{minus}
use Rattle.signed.proofs.NatParts.{signed, sum, diff, neg, times}
use Rattle.units.specs.declared.Grains.{Grains}
use Rattle.units.specs.Units.{grains}
use Rattle.rules.specs.Residue.{half_cent, with_sign, in_cents, no_residue, together}
use Rattle.rules.specs.Bounds.{WithinHalfCent}

-- ---- nothing is lost
-- Cents, in grains, and what they leave of g make g.
whole : (c g : ℤ) → pos 2400000 *ℤ c +ℤ (g -ℤ pos 2400000 *ℤ c) ≡ g
whole c g = let w = pos 2400000 *ℤ c in omega (arith, signed, sum w (g -ℤ w), diff g w)

-- Grains in cents beside no residue, in either order, make the grains.
pub alone : (g : Grains) → (together (in_cents g) no_residue ≡ g) × (together no_residue (in_cents g) ≡ g)
alone g =
    let all = ap grains (whole (in_cents g).cents.0 g.0) in
    (simp +ℤ_idr all, simp +ℤ_idl all)

-- ---- how much
pub none_left : WithinHalfCent (grains (pos 0))
none_left = record { low = le_z_yes tt; high = le_z_yes tt }

-- g less k cents on the side of its sign, where k cents are within half a cent of its magnitude
near : (g : ℤ) (k : ℕ) → nat_abs g ≤ 2400000 * k + half_cent → 2400000 * k ≤ nat_abs g + half_cent → WithinHalfCent (grains (g -ℤ pos 2400000 *ℤ with_sign g k))
near (pos n) k h l =
    let left = diff (pos n) (pos (2400000 * k)) in
    record { low = omega (arith, signed, left); high = omega (arith, signed, left) }
near (negsuc n) k h l =
    let left = diff (negsuc n) (pos 2400000 *ℤ minus k) in
    let taken = times 2400000 (minus k) in
    let below = neg (pos k) in
    record { low = omega (arith, signed, left, taken, below); high = omega (arith, signed, left, taken, below) }

-- Between -1,200,000 and 1,200,000, both included.
pub leftover_within : (g : Grains) → WithinHalfCent (in_cents g).leftover
leftover_within g = near g.0 _ (omega arith) (omega arith)
