-- The lines of the records passed are passed, and nothing is put.
use Rattle.std.proofs.Common.{◌≡◌}
use Rattle.line_by_line.proofs.RunInTurn.{SoFar}
use Rattle.line_by_line.proofs.run_line.Given as goal

abbrev pub invariant-loop-bytes : goal.invariant-loop-bytes
invariant-loop-bytes l =
    (goal.iterator-loop-bytes).can_next l.bytes-iterator
    × (goal.iterator-loop-bytes).is_finite l.bytes-iterator
    × SoFar l.first l.records l.bytes-iterator l.t l.k l.to_pass
    × (l.out ≡ l.fn.out)
