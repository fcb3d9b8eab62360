-- The records passed are taken.
use Rattle.tracker.proofs.InTurn.{TakenSoFar}
use Rattle.tracker.proofs.after_all.Given as goal

abbrev pub invariant-loop-index : goal.invariant-loop-index
invariant-loop-index l = TakenSoFar l.fn.tracker l.records l.now l.index
