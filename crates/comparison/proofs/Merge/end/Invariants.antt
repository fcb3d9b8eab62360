-- The same figures will be had, and the same are counted.
use Rattle.std.proofs.Common.{◌≡◌, [], length}
use Rattle.comparison.specs.Internal.{Rises, with_rows, rows_counted, entries_for}
use Rattle.comparison.proofs.Merge.end.Given as goal

abbrev pub invariant-loop-self : goal.invariant-loop-self
invariant-loop-self l =
    (Rises l.fn.self.left → Rises l.self.left × (with_rows l.fn.self [] ≡ with_rows l.self []))
    × (rows_counted l.self.figures ≡ rows_counted l.fn.self.figures)
    × (entries_for l.self ≡ entries_for l.fn.self)

abbrev pub decreases-loop-self : goal.decreases-loop-self
decreases-loop-self l = length l.self.left
