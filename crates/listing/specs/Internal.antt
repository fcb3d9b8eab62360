-- What the code puts for a row, and for the rows of a tracker. No promise cites this.
use Rattle.std.specs.Prelude.{cond, ℕ}
use mathlib.Core.List.{List, [], map, flatten}
use Rattle.tracker.specs.Promise.{Tracker, Row}
use Rattle.journal_rules.specs.Internal.{rows_shown}
use Rattle.listing.specs.Line.{line_of, listed_of}

-- What the code puts for a row: its line, where the row is printed, and else nothing.
abbrev pub row_text : Row → List ℕ
row_text r = cond (listed_of r) (line_of r) []

-- What it puts for a tracker's rows.
abbrev pub rows_text : Tracker → List ℕ
rows_text t = flatten (map row_text (rows_shown t))
