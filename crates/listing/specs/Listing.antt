-- Document 01, `clampday`: the listing of its input, line by line, from the opening and the surviving records (N7) alone. Nothing here reads a
-- tracker.
use Rattle.std.specs.Prelude.{◌≡◌, Bool, cond, Result, Ok, Err, ℕ, ◌+◌, ◌*◌, ◌≤◌, nat_lt, length, take}
use mathlib.Core.List.{List, [], ◌∷◌, ◌++◌, map, flatten}
use Rattle.std.proofs.Math.Option.{Option, none, some}
use Rattle.text.specs.Ascii.{ascii}
use Rattle.text.specs.Text.{number_cell}
use Rattle.tracker.specs.Promise.{Row, Refusal, number, Opening, number_met, open_conditions, interval_conditions, awaited_from, of_directions, worked_from, Call, Interval}
use Rattle.journal_rules.specs.declared.Contents.{Contents}
use Rattle.journal_rules.specs.Journal.{most_records, read_of, records_of}
use Rattle.journal_rules.specs.Survivors.{survivors}
use Rattle.journal_rules.specs.Run.{opened_at}
use Rattle.listing.specs.Line.{newline, line_of, listed_of}

-- The header always comes first.
unfoldable pub header : List ℕ
header = ascii "interval,direction,applies,amount,previous,current,next,clamp\n"

-- A refusal prints `refused,` and its number, and ends the listing.
unfoldable pub refused_line : ℕ → List ℕ
refused_line k = ascii "refused," ++ number_cell k newline

abbrev pub ended_by : ℕ → List (List ℕ)
ended_by k = refused_line k ∷ []

-- What a call gives, by its number: its own lines and those that follow, or the refusal.
abbrev pub call_lines : Option ℕ → List (List ℕ) → List (List ℕ) → List (List ℕ)
call_lines none own following = own ++ following
call_lines (some k) own following = ended_by k

-- A row's line, where the row is printed, and else none.
abbrev pub if_listed : Row → List (List ℕ)
if_listed r = cond (listed_of r) (line_of r ∷ []) []

-- By interval, then direction: the lines of the printed ones of the eight rows.
abbrev pub eight_rows : (ℕ → Row) → List (List ℕ)
eight_rows rows = flatten (map if_listed (of_directions rows))

-- Records in their turn, each in an interval call, after the calls that have passed: for each the printed ones of the eight rows worked out from the
-- opening and the calls up to it. The first refused one, at the number which those before it await, ends the listing with its number.
unfoldable pub run_lines : Opening → List Call → List (List ℕ) → List (List ℕ)
run_lines o passed [] = []
run_lines o passed (b ∷ bs) =
    let upto = passed ++ (Interval b ∷ []) in
    call_lines (number_met (interval_conditions (awaited_from o passed) b)) (eight_rows (worked_from o upto)) (run_lines o upto bs)

abbrev pub opening_number : Opening → Option ℕ
opening_number o = number_met (open_conditions o.first o.shares o.settings)

-- After the opening: what the records give, or its number.
unfoldable pub opened_lines : ℕ → List (List ℕ) → List (List ℕ)
opened_lines first bs =
    let o = opened_at first in
    call_lines (opening_number o) [] (run_lines o [] bs)

-- An empty journal prints the header alone: it is not opened.
unfoldable pub record_lines : ℕ → List (List ℕ) → List (List ℕ)
record_lines first [] = []
record_lines first (b ∷ bs) = opened_lines first (b ∷ bs)

-- After the read: what the records give, or its number. They are the surviving ones, for each n that of highest issue: sums and periods for a
-- journal are theirs, and a superseded record is not run (N7).
abbrev pub read_lines : Result Contents Refusal → List (List ℕ) → List (List ℕ)
read_lines (Ok held) bs = record_lines held.first bs
read_lines (Err why) bs = ended_by (number why)

unfoldable pub body_lines : List ℕ → List (List ℕ)
body_lines journal = read_lines (read_of journal) (survivors (records_of journal))

-- `input` is what the program's buffer holds, `more` whether input goes on beyond it: that is 11, whatever the buffer holds.
unfoldable pub input_lines : List ℕ → Bool → List (List ℕ)
input_lines input more = cond more (ended_by 11) (body_lines input)

-- The whole listing of input: all lines, end to end.
unfoldable pub lines_of : List ℕ → Bool → List (List ℕ)
lines_of input more = header ∷ input_lines input more

abbrev pub listing_of : List ℕ → Bool → List ℕ
listing_of input more = flatten (lines_of input more)

-- The listing of all bytes of an input, read into a buffer that has room for so many of them.
abbrev pub listing_in : ℕ → List ℕ → List ℕ
listing_in room bytes = listing_of (take room bytes) (nat_lt room (length bytes))

-- No line is longer than 95 bytes, and no listing than the header's 62 and 288 times eight lines.
abbrev pub longest_line : ℕ
longest_line = 95

abbrev pub longest_listing : ℕ
longest_listing = 62 + most_records * (8 * longest_line)

-- The first n bytes of a buffer are n bytes: they lie within it.
abbrev pub IsPrefixLen : ℕ → List ℕ → Type 0
IsPrefixLen n xs = (n ≤ length xs) × (n ≡ length (take n xs))
