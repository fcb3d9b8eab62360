-- How long each line of a journal's listing is: none is empty, and none is longer than the longest.
-- Assumes nothing.
use Rattle.std.proofs.Common.{◌≡◌, ℕ, suc, ◌<◌, ◌≤◌, Bool, true, false, cond, List, [], ◌∷◌, ◌++◌, Result, Ok, Err, length, get_or, refl, arith, length-append}
use Rattle.std.specs.List.{All}
use Rattle.std.proofs.lemmas.List.Elements.{All-nil, All-cons, All-head, All-tail, All-append}
use mathlib.Core.List.{map, flatten}
use mathlib.Core.Option.{Option, none, some}
use Rattle.text.specs.Text.{number_cell}
use Rattle.tracker.specs.Promise.{Refusal, Row, RowBounds, no_row, Opening, number, number_met, open_conditions, interval_conditions, awaited_from, of_directions, worked_from, Call, Interval}
use Rattle.journal_rules.specs.declared.Contents.{Contents}
use Rattle.journal_rules.specs.Journal.{read_of, records_of}
use Rattle.journal_rules.specs.Survivors.{survivors}
use Rattle.listing.specs.Line.{line_of, listed_of}
use Rattle.listing.specs.Listing.{header, if_listed, eight_rows, call_lines, refused_line, ended_by, run_lines, opening_number, opened_lines, record_lines, read_lines, body_lines, input_lines, lines_of, longest_line, longest_listing}
use Rattle.journal_rules.specs.Run.{opened_at}
use Rattle.journal_rules.proofs.EightDirections.{worked_bounded}
use Rattle.listing.proofs.LineLength.{line_parts, line_short}
use Rattle.listing.proofs.ListingLength.{ended_parts, ended_short, listing_short}
use Rattle.listing.proofs.RefusalNumbers.{two_digits, met_two_digits}
use Rattle.line_by_line.specs.NextLine.{journal_lines}

abbrev pub Proper : List ℕ → Type 0
Proper line = (0 < length line) × (length line ≤ longest_line)

alone : (line : List ℕ) → Proper line → All Proper (line ∷ [])
alone line h = All-cons Proper line [] h (All-nil Proper)

ended : (k : ℕ) → k ≤ 99 → All Proper (ended_by k)
unfolding refused_line
ended k h = let b = rw (ended_parts k) at (ended_short k h) in alone (refused_line k) (simp length-append (omega arith), omega (arith, b))

row_line : (r : Row) → RowBounds r → Proper (line_of r)
unfolding number_cell
row_line r h = (rw (line_parts r) (simp length-append (omega arith)), line_short r h)

rows_fit : (rows : List Row) → ((d : ℕ) → d < length rows → RowBounds (get_or rows d no_row)) → All Proper (flatten (map if_listed rows))
unfolding flatten
rows_fit [] bounds = All-nil Proper
rows_fit (r ∷ rows) bounds = All-append Proper (if_listed r) (flatten (map if_listed rows)) (own (listed_of r)) (rows_fit rows (λ d h. bounds (suc d) (omega arith)))
  where
    own : (b : Bool) → All Proper (cond b (line_of r ∷ []) [])
    own true = alone (line_of r) (row_line r (bounds 0 (omega arith)))
    own false = All-nil Proper

eight_fit : (o : Opening) (calls : List Call) → All Proper (eight_rows (worked_from o calls))
eight_fit o calls = rows_fit (of_directions (worked_from o calls)) (worked_bounded o calls)

-- a call's own lines and those that follow, or a refusal's
call_fits : (m : Option ℕ) → ((k : ℕ) → m ≡ some k → k ≤ 99) → (own following : List (List ℕ)) → All Proper own → All Proper following
    → All Proper (call_lines m own following)
call_fits none small own following h l = All-append Proper own following h l
call_fits (some k) small own following h l = ended k (small k refl)

run_fits : (o : Opening) (passed : List Call) (bs : List (List ℕ)) → All Proper (run_lines o passed bs)
unfolding run_lines
run_fits o passed [] = All-nil Proper
run_fits o passed (b ∷ bs) =
    let upto = passed ++ (Interval b ∷ []) in
    let asked = interval_conditions (awaited_from o passed) b in
    call_fits (number_met asked) (met_two_digits asked) (eight_rows (worked_from o upto)) (run_lines o upto bs) (eight_fit o upto) (run_fits o upto bs)

opened_fits : (first : ℕ) (bs : List (List ℕ)) → All Proper (opened_lines first bs)
unfolding opened_lines
opened_fits first bs =
    let o = opened_at first in
    call_fits (opening_number o) (met_two_digits (open_conditions o.first o.shares o.settings)) [] (run_lines o [] bs) (All-nil Proper) (run_fits o [] bs)

records_fit : (first : ℕ) (bs : List (List ℕ)) → All Proper (record_lines first bs)
unfolding record_lines
records_fit first [] = All-nil Proper
records_fit first (b ∷ bs) = opened_fits first (b ∷ bs)

read_fits : (found : Result Contents Refusal) (bs : List (List ℕ)) → All Proper (read_lines found bs)
read_fits (Ok held) bs = records_fit held.first bs
read_fits (Err why) bs = ended (number why) (two_digits why)

pub each_fits : (journal : List ℕ) → All Proper (journal_lines journal)
unfolding lines_of input_lines body_lines header
each_fits journal = All-cons Proper header (body_lines journal) (omega arith, omega arith) (read_fits (read_of journal) (survivors (records_of journal)))

-- so there are no more lines than bytes
no_more : (lines : List (List ℕ)) → All Proper lines → length lines ≤ length (flatten lines)
unfolding flatten
no_more [] fits = omega arith
no_more (line ∷ lines) fits =
    omega (arith, length-append line (flatten lines), (All-head Proper line lines fits).0, no_more lines (All-tail Proper line lines fits))

pub few_lines : (journal : List ℕ) → length (journal_lines journal) ≤ longest_listing
few_lines journal = omega (arith, no_more (journal_lines journal) (each_fits journal), listing_short journal false)
