-- The sum so far, and how large it can be.
use Rattle.events.specs.Internal.{IsSumBefore}
use Rattle.events.proofs.corridor_target.Given as goal

abbrev pub invariant-loop-i : goal.invariant-loop-i
invariant-loop-i l = IsSumBefore l.r l.c l.i l.sum
