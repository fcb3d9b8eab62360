-- The lines given are printed; fewer are left to give from turn to turn.
use Rattle.std.proofs.Common.{◌-◌, ◌≤◌, length, take}
use mathlib.Core.List.{flatten}
use Rattle.std.specs.Io.KnownBytes.{Appends}
use Rattle.line_by_line.specs.NextLine.{journal_lines}
use Rattle.example.proofs.print_line_by_line.Given as goal

abbrev pub invariant-loop-scratch : goal.invariant-loop-scratch
invariant-loop-scratch g l =
    (l.given ≤ length (journal_lines l.journal))
    × Appends (g.W.Write.contents l.fn.sink) (g.W.Write.contents l.sink) (flatten (take l.given (journal_lines l.journal)))

abbrev pub decreases-loop-scratch : goal.decreases-loop-scratch
decreases-loop-scratch g l = length (journal_lines l.journal) - l.given
