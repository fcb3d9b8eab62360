-- How large rules 1 and 2 leave the sums.
-- Assumes nothing.
use mathlib.Core.Bool.{Bool, true, false, ◌&&◌}
use Prim.Native.Nat.{◌+◌, ◌≤◌}
use native.Mathlib.Omega.{arith}
use native.Mathlib.Nat.{le_trans}
use lib.IntN.{pos, nat_abs}
use Rattle.signed.specs.Range.{eq_z}
use Rattle.signed.proofs.Calc.{abs-add}
use Rattle.units.specs.declared.Cents.{Cents}
use Rattle.units.specs.Units.{lower_of_zero}
use Rattle.rules.specs.declared.Sums.{Sums}
use Rattle.rules.specs.Interval.{at_half_hour_start, grown, cleared, rule2, amount}
use Rattle.rules.specs.Bounds.{highest_residue, highest_sum}
use Rattle.rules.proofs.ResidueBounds.{lower_size}
use Rattle.sums.specs.Internal.{Countable, Growable, Addable}

pub start_countable : (b : Bool) (s : Sums) → Countable s → Countable (at_half_hour_start b s)
start_countable true s h = record { amount = omega (arith, h.amount, abs-add s.previous.0 s.current.0); net = omega arith }
start_countable false s h = h

grown_addable : (r : Cents) (s : Sums) → Growable r s → Addable (grown r s)
grown_addable r s h = record { amount = omega (arith, h.sums.amount, h.residue, abs-add s.current.0 (lower_of_zero r).0, lower_size r) }

cleared_addable : (b : Bool) (s : Sums) → Addable s → Addable (cleared b s)
cleared_addable true s h = record { amount = omega (arith, h.amount) }
cleared_addable false s h = h

pub rule2_addable : (flag clears : Bool) (r : Cents) (s : Sums) → Growable r s → Addable (rule2 flag clears r s)
rule2_addable false clears r s h = record { amount = omega arith }
rule2_addable true clears r s h = cleared_addable (eq_z (grown r s).current.0 (pos 0) && clears) (grown r s) (grown_addable r s h)

pub amount_size : (s : Sums) → Addable s → nat_abs (amount s).0 ≤ highest_sum + highest_residue
amount_size s h = le_trans (abs-add s.previous.0 s.current.0) h.amount

pub ruleset sizes = (start_countable, rule2_addable, amount_size)
