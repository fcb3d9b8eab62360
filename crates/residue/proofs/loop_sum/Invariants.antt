-- The sum over the first directions of the loop.
use Rattle.std.proofs.Common.{◌≡◌, get_or}
use Rattle.units.specs.Units.{cents}
use Rattle.rules.specs.Residue.{no_residue, sum_from}
use Rattle.residue.proofs.loop_sum.Given as goal

abbrev pub invariant-loop-r : goal.invariant-loop-r
invariant-loop-r l = l.sum ≡ cents (sum_from 2 l.r-index (λ d. (get_or l.fn.residues d no_residue).cents.0))
