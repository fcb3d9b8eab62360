-- Document 02, N3: the listing from a smaller scratch.
use Rattle.std.specs.Prelude.{false, ◌≡◌, ℕ, suc, Result, Ok, Err, ◌≤◌, ltb, length, take, get_or}
use Rattle.std.specs.List.{All}
use mathlib.Core.List.{List, [], ◌∷◌, ◌++◌}
use Rattle.tracker.specs.Promise.{Refusal, SmallScratch, Outcome, Condition, ◌when◌, judged}
use Rattle.words.specs.Buffer.{over}
use Rattle.journal_rules.specs.Journal.{longest_journal}
use Rattle.listing.specs.Listing.{lines_of, listing_in}

-- The lines of a journal's listing, the header first. The journal is lent whole, so that nothing goes on beyond it: above 65,536 bytes the read gives
-- 11, and clampday prints the same of such an input.
abbrev pub journal_lines : List ℕ → List (List ℕ)
journal_lines journal = lines_of journal false

-- Each call takes the journal and the number of lines already given; the next line is the one after these, and none at the end and beyond.
abbrev pub line_after : List ℕ → ℕ → List ℕ
line_after journal given = get_or (journal_lines journal) given []

-- Checks: 21, scratch under 96 bytes, before all other numbers, and returned, not printed. Any other number is a line of the listing, and despite
-- demand 1 no refusal of this call.
abbrev pub least_scratch : ℕ
least_scratch = 96

unfoldable pub next_line_conditions : ℕ → List Condition
next_line_conditions room = SmallScratch when ltb room least_scratch ∷ []

unfoldable pub next_line_outcome : ℕ → Outcome
next_line_outcome room = judged (next_line_conditions room)

-- It gives the line's length, 0 at the end and beyond; a refusal returns only its number.
abbrev pub length_by : Outcome → List ℕ → Result ℕ Refusal
length_by (Ok done) line = Ok (length line)
length_by (Err why) line = Err why

unfoldable pub next_line_of : List ℕ → ℕ → ℕ → Result ℕ Refusal
next_line_of journal given room = length_by (next_line_outcome room) (line_after journal given)

-- The values of each of its answers, beside its number: the length, or none.
abbrev pub line_values : Result ℕ Refusal → List ℕ
line_values (Ok n) = n ∷ []
line_values (Err why) = []

-- The lent scratch afterwards: the line at its start, and unused bytes keep their values; on a refusal all do.
abbrev pub scratch_by : Outcome → List ℕ → List ℕ → List ℕ
scratch_by (Ok done) line d = over line d
scratch_by (Err why) line d = d

unfoldable pub scratch_after : List ℕ → ℕ → List ℕ → List ℕ
scratch_after journal given d = scratch_by (next_line_outcome (length d)) (line_after journal given) d

-- ---- the listing, by calls with 0, 1, 2, … lines already given
-- The bytes that a host has from a call: so many from the scratch's start as it answers; none where it is refused.
abbrev pub bytes_of_call : Result ℕ Refusal → List ℕ → List ℕ
bytes_of_call (Ok n) left = take n left
bytes_of_call (Err why) left = []

-- Calls in turn, each lent a scratch d, the first with so many lines already given, each other with one more: their bytes, end to end.
unfoldable pub bytes_from : List ℕ → ℕ → List (List ℕ) → List ℕ
bytes_from journal given [] = []
bytes_from journal given (d ∷ ds) =
    bytes_of_call (next_line_of journal given (length d)) (scratch_after journal given d) ++ bytes_from journal (suc given) ds

-- Scratches of 96 bytes or more, as many as there are lines, or more of them.
pub record Enough (journal : List ℕ) (ds : List (List ℕ)) : Type 0 where
  pub long : All (λ d. least_scratch ≤ length d) ds
  pub many : length (journal_lines journal) ≤ length ds

-- From any such scratches, whatever they hold, comes the listing that clampday prints of the journal, byte for byte: also from a single one that is
-- lent again each time, as the call before has left it.
abbrev pub EndToEnd : List ℕ → Type 0
EndToEnd journal = (ds : List (List ℕ)) → Enough journal ds → bytes_from journal 0 ds ≡ listing_in longest_journal journal
