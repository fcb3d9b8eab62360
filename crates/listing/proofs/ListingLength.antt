-- How long a listing is: the header and at most 288 times 8 lines. A refusal comes in the place of the rows that would follow.
-- Assumes nothing.
use mathlib.Core.Path.{◌≡◌, refl}
use mathlib.Core.Bool.{Bool, true, false, cond}
use mathlib.Core.List.{List, [], ◌∷◌, ◌++◌, map, flatten, append-nil}
use mathlib.Core.Option.{Option, none, some}
use Prim.Native.Nat.{ℕ, suc, ◌+◌, ◌*◌, ◌<◌, ◌≤◌}
use native.Mathlib.Omega.{arith}
use lib.ListN.{length, get_or, length-append}
use Rattle.words.proofs.Parts.{flatten-append}
use Rattle.text.specs.Ascii.{ascii}
use Rattle.text.specs.Text.{number_cell}
use Rattle.text.proofs.Decimal.{short_count}
use Rattle.std.specs.Prelude.{Result, Ok, Err}
use Rattle.journal_rules.specs.declared.Contents.{Contents}
use Rattle.journal_rules.specs.Journal.{read_of, records_of}
use Rattle.journal_rules.specs.Survivors.{survivors}
use Rattle.journal_rules.proofs.Accept.{records_whole}
use Rattle.journal_rules.proofs.Survivors.{no_more}
use Rattle.tracker.specs.Promise.{Refusal, Row, RowBounds, no_row, Opening, number, number_met, open_conditions, interval_conditions, awaited_from, of_directions, worked_from, Call, Interval}
use Rattle.listing.specs.Line.{newline, line_of, listed_of}
use Rattle.listing.specs.Internal.{row_text}
use Rattle.listing.specs.Listing.{header, eight_rows, call_lines, refused_line, ended_by, run_lines, opening_number, opened_lines, record_lines, read_lines, body_lines, input_lines, lines_of, listing_of, longest_line, longest_listing}
use Rattle.journal_rules.specs.Run.{opened_at}
use Rattle.listing.proofs.LinesByCase.{printed}
use Rattle.listing.proofs.LineLength.{line_short}
use Rattle.journal_rules.proofs.EightDirections.{worked_bounded}
use Rattle.listing.proofs.RefusalNumbers.{two_digits, met_two_digits}

-- all records of a journal, eight lines for each
abbrev most : ℕ
most = 288 * (8 * longest_line)

-- a refusal's line: its number has at most two digits
pub ended_parts : (k : ℕ) → flatten (ended_by k) ≡ ascii "refused," ++ number_cell k newline
unfolding flatten refused_line
ended_parts k = simp append-nil

pub refusal_short : (why : Refusal) → length (number_cell (number why) newline) ≤ 3
refusal_short why = let h = two_digits why in short_count 1 (number why) newline (omega arith)

pub ended_short : (k : ℕ) → k ≤ 99 → length (flatten (ended_by k)) ≤ 11
ended_short k h = rw (ended_parts k) (simp length-append (omega (arith, short_count 1 k newline (omega arith))))

row_short : (r : Row) → length (line_of r) ≤ longest_line → (t : Bool) → length (cond t (line_of r) []) ≤ longest_line
row_short r h true = h
row_short r h false = omega arith

rows_short : (rows : List Row) → ((d : ℕ) → d < length rows → RowBounds (get_or rows d no_row)) → length (flatten (map row_text rows)) ≤ longest_line * length rows
unfolding flatten
rows_short [] bounds = omega arith
rows_short (r ∷ rows) bounds =
    let a = row_short r (line_short r (bounds 0 (omega arith))) (listed_of r) in
    let b = rows_short rows (λ d h. bounds (suc d) (omega arith)) in
    omega (arith, length-append (row_text r) (flatten (map row_text rows)))

-- a call's own lines and those that follow; a refusal's line is shorter than eight rows
call_short : (m : Option ℕ)
    → ((k : ℕ) → m ≡ some k → k ≤ 99)
    → (own following : List (List ℕ)) {a b : ℕ}
    → length (flatten own) ≤ a
    → length (flatten following) ≤ b
    → (n : ℕ) → a + b ≤ n → 11 ≤ n
    → length (flatten (call_lines m own following)) ≤ n
call_short none small own following h l n fits room = rw (flatten-append own following) (omega (arith, length-append (flatten own) (flatten following)))
call_short (some k) small own following h l n fits room = let e = ended_short k (small k refl) in omega arith

eight_short : (o : Opening) (calls : List Call) → length (flatten (eight_rows (worked_from o calls))) ≤ 8 * longest_line
eight_short o calls = rw (printed (of_directions (worked_from o calls))) (rows_short (of_directions (worked_from o calls)) (worked_bounded o calls))

run_short : (o : Opening) (passed : List Call) (bs : List (List ℕ)) → length (flatten (run_lines o passed bs)) ≤ 8 * longest_line * length bs
unfolding run_lines flatten
run_short o passed [] = omega arith
run_short o passed (b ∷ bs) =
    let upto = passed ++ (Interval b ∷ []) in
    let awaited = awaited_from o passed in
    call_short (number_met (interval_conditions awaited b)) (met_two_digits (interval_conditions awaited b)) _ _ (eight_short o _) (run_short o upto bs) (8 * longest_line * suc (length bs)) (omega arith) (omega arith)

opened_short : (first : ℕ) (bs : List (List ℕ)) → length bs ≤ 288 → length (flatten (opened_lines first bs)) ≤ most
unfolding opened_lines flatten
opened_short first bs few =
    let o = opened_at first in
    call_short (opening_number o) (met_two_digits (open_conditions o.first o.shares o.settings)) [] (run_lines o [] bs) {a = 0} (omega arith) (run_short o [] bs) most (omega arith) (omega arith)

records_short : (first : ℕ) (bs : List (List ℕ)) → length bs ≤ 288 → length (flatten (record_lines first bs)) ≤ most
unfolding record_lines flatten
records_short first [] few = omega arith
records_short first (b ∷ bs) few = opened_short first (b ∷ bs) few

read_short : (found : Result Contents Refusal) → (bs : List (List ℕ)) → length bs ≤ 288 → length (flatten (read_lines found bs)) ≤ most
read_short (Ok held) bs few = records_short held.first bs few
read_short (Err why) bs few = let b = ended_short (number why) (two_digits why) in omega arith

pub body_short : (s : List ℕ) → length (flatten (body_lines s)) ≤ most
unfolding body_lines
body_short s = read_short (read_of s) (survivors (records_of s)) (omega (arith, no_more (records_of s), (records_whole s).few))

input_short : (s : List ℕ) (more : Bool) → length (flatten (input_lines s more)) ≤ most
unfolding input_lines
input_short s true = let b = ended_short 11 (omega arith) in omega arith
input_short s false = body_short s

-- with the header's 62 bytes
pub listing_parts : (s : List ℕ) (more : Bool) → listing_of s more ≡ header ++ flatten (input_lines s more)
unfolding lines_of flatten
listing_parts s more = refl

pub listing_short : (s : List ℕ) (more : Bool) → length (listing_of s more) ≤ longest_listing
unfolding header
listing_short s more = rw (listing_parts s more) (omega (arith, input_short s more, length-append header (flatten (input_lines s more))))
