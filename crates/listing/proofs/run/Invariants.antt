-- The lines of the records passed are there.
use Rattle.listing.proofs.SoFar.{SoFar}
use Rattle.listing.proofs.run.Given as goal

abbrev pub invariant-loop-bytes : goal.invariant-loop-bytes
invariant-loop-bytes l =
    (goal.iterator-loop-bytes).can_next l.bytes-iterator
    × (goal.iterator-loop-bytes).is_finite l.bytes-iterator
    × SoFar l.first l.records l.bytes-iterator l.t l.fn.out l.n l.out
