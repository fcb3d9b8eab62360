-- The same figures will be had, with the row and those behind it, and the same are counted.
use Rattle.std.proofs.Common.{◌≡◌, List, ◌∷◌, length}
use Rattle.comparison.specs.declared.Entry.{Entry}
use Rattle.comparison.specs.Internal.{Rises, with_rows, rows_counted, entries_for}
use Rattle.comparison.proofs.Merge.take.Given as goal

abbrev pub invariant-loop-self : goal.invariant-loop-self
invariant-loop-self l =
    ((rows : List Entry) → Rises (l.row ∷ rows) → Rises l.fn.self.left → Rises l.self.left × (with_rows l.fn.self (l.row ∷ rows) ≡ with_rows l.self (l.row ∷ rows)))
    × (rows_counted l.self.figures ≡ rows_counted l.fn.self.figures)
    × (entries_for l.self ≡ entries_for l.fn.self)

abbrev pub decreases-loop-self : goal.decreases-loop-self
decreases-loop-self l = length l.self.left
