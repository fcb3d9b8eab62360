-- The rows of the records passed are in the merge.
use Rattle.beside.proofs.RunInTurn.{SoFar}
use Rattle.beside.proofs.run.Given as goal

abbrev pub invariant-loop-bytes : goal.invariant-loop-bytes
invariant-loop-bytes l =
    (goal.iterator-loop-bytes).can_next l.bytes-iterator
    × (goal.iterator-loop-bytes).is_finite l.bytes-iterator
    × SoFar l.first l.records l.bytes-iterator l.t l.fn.merge l.merge
