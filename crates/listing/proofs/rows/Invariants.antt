-- The lines of the directions passed are there.
use Rattle.std.proofs.Common.{take}
use mathlib.Core.List.{map, flatten}
use Rattle.words.specs.Buffer.{Puts}
use Rattle.listing.specs.Internal.{row_text}
use Rattle.journal_rules.specs.Internal.{rows_shown}
use Rattle.listing.proofs.rows.Given as goal

abbrev pub invariant-loop-d : goal.invariant-loop-d
invariant-loop-d l = Puts (flatten (map row_text (take l.d (rows_shown l.t)))) l.fn.out l.n l.out
