-- The lines of the directions passed are passed, and nothing is put.
use Rattle.std.proofs.Common.{◌≡◌}
use Rattle.line_by_line.specs.Internal.{lines_shown}
use Rattle.line_by_line.proofs.Passed.{Passed}
use Rattle.line_by_line.proofs.ShownInTurn.{shown_from}
use Rattle.line_by_line.proofs.shown_line.Given as goal

abbrev pub invariant-loop-d : goal.invariant-loop-d
invariant-loop-d l = Passed (lines_shown l.t) l.k (shown_from l.t l.d) l.to_pass × (l.out ≡ l.fn.out)
