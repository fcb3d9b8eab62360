-- The rows of the directions passed are in the merge, and those of the others are to come, before whatever comes then.
use Rattle.std.proofs.Common.{◌≡◌, ◌≤◌, ◌+◌, List, ◌++◌}
use Rattle.comparison.specs.declared.Entry.{Entry}
use Rattle.comparison.specs.Internal.{Rises, with_rows, rows_counted, entries_for}
use Rattle.beside.proofs.ShownInTurn.{shown_from}
use Rattle.beside.proofs.take_rows.Given as goal

abbrev pub invariant-loop-d : goal.invariant-loop-d
invariant-loop-d l =
    ((rows : List Entry)
    → Rises (shown_from l.t 0 ++ rows)
    → Rises l.fn.merge.left
    → Rises (shown_from l.t l.d ++ rows) × Rises l.merge.left × (with_rows l.fn.merge (shown_from l.t 0 ++ rows) ≡ with_rows l.merge (shown_from l.t l.d ++ rows)))
    × (rows_counted l.merge.figures ≤ rows_counted l.fn.merge.figures + l.d)
    × (entries_for l.merge ≡ entries_for l.fn.merge)
