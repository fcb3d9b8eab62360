-- The sums are the definition's over the corridor's lines up to line i.
use Rattle.residue.proofs.CorridorSum.{Summed}
use Rattle.residue.proofs.corridor.Given as goal

abbrev pub invariant-loop-i : goal.invariant-loop-i
invariant-loop-i l = Summed l.fn.prices l.fn.shares l.fn.lines l.fn.c l.i l.sum l.flow
