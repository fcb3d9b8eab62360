-- What is summed so far is small, and after six turns it is the definition's sum.
use Rattle.std.proofs.Common.{◌≡◌, ◌∙◌, List, ℕ, ◌*◌, ◌+◌, ◌<◌, ◌≤◌, ℤ, nat_abs, get_or, take, drop, add-one, arith}
use Rattle.std.proofs.lemmas.List.{get_or-drop, get_or-take}
use native.Mathlib.Nat.{le_trans, mul-le-mul_right}
use lib.IntN.{+ℤ_idl}
use Rattle.signed.proofs.Calc.{sum_fits}
use Rattle.units.specs.declared.Cents.{Cents}
use Rattle.units.specs.Units.{cents}
use Rattle.rules.specs.declared.Residue.{Residue}
use Rattle.rules.specs.Bounds.{highest_next}
use Rattle.rules.specs.Interval.{loop_sum}
use Rattle.rules.specs.Residue.{no_residue, sum_from}
use Rattle.rules.proofs.Corridors.{sum_from_bound}
use Rattle.residue.proofs.loop_sum.Goals as goal

-- the cents of direction d
abbrev cents_of : List Residue → ℕ → ℤ
cents_of r d = (get_or r d no_residue).cents.0

-- the loop's i-th residue is that of direction 2 + i
loop_at : (r : List Residue) (i : ℕ) → i < 6 → get_or (take 6 (drop 2 r)) i no_residue ≡ get_or r (2 + i) no_residue
loop_at r i h = get_or-take 6 (drop 2 r) i no_residue h ∙ get_or-drop 2 r i no_residue

-- the sum of the definition begins with the first
from-the-first : (f : ℕ → ℤ) → cents (sum_from 2 6 f) ≡ loop_sum (λ d. cents (f d))
from-the-first f = simp +ℤ_idl

-- what is summed after k directions
so_far : (r : List Residue) (k : ℕ) (sum : Cents) → ((d : ℕ) → nat_abs (cents_of r d) ≤ highest_next) → k ≤ 6
    → sum ≡ cents (sum_from 2 k (cents_of r)) → nat_abs sum.0 ≤ 6 * highest_next
so_far r k sum small few is =
    rw is (le_trans (sum_from_bound 2 k highest_next (cents_of r) (λ d _. small d)) (mul-le-mul_right highest_next few))

pub add-sum-requires : goal.add-sum-requires
add-sum-requires c =
    let small = so_far c.args.residues c.loop-r.r-index c.loop-r.sum c.requires (omega arith) c.loop-r.invariant in
    sum_fits c.loop-r.sum.0 _ (rw (loop_at c.args.residues c.loop-r.r-index (omega arith)) (omega (arith, small, c.requires (2 + c.loop-r.r-index))))

pub loop-r-preserved : goal.loop-r-preserved
loop-r-preserved c = rw (add-one, c.add-sum.ensures, c.loop-r.invariant, loop_at c.args.residues c.loop-r.r-index (omega arith))

pub returns : goal.returns
returns c =
    let all : c.loop-r.r-index ≡ 6 = omega arith in
    c.loop-r.invariant ∙ rw all (from-the-first (cents_of c.args.residues))
