-- What the code looks for in lines. No promise cites this.
use Rattle.std.specs.Prelude.{◌≡◌, ℕ, ◌+◌, ◌<◌, length, get_or}
use mathlib.Core.List.{List, [], map, flatten}
use Rattle.words.specs.Buffer.{Puts}
use Rattle.tracker.specs.Promise.{Tracker}
use Rattle.listing.specs.Listing.{if_listed}
use Rattle.journal_rules.specs.Internal.{rows_shown}
use Rattle.line_by_line.specs.declared.Search.{Search}
use Rattle.line_by_line.specs.declared.Search.TheVariants.{Beyond, Found}

-- The lines of a tracker's rows, of those that are printed.
abbrev pub lines_shown : Tracker → List (List ℕ)
lines_shown t = flatten (map if_listed (rows_shown t))

-- A search for line k among lines, with buffer d: the line is among them, and was put into the buffer, or it is beyond them, and so many are to be
-- passed yet.
abbrev pub Sought : List (List ℕ) → ℕ → List ℕ → Search → List ℕ → Type 0
Sought lines k d (Found n) out = (k < length lines) × Puts (get_or lines k []) d n out
Sought lines k d (Beyond more) out = (k ≡ length lines + more) × (out ≡ d)
