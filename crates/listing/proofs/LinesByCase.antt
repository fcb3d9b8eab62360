-- The lines of records and of what follows the header, case by case.
-- Assumes nothing.
use mathlib.Core.Path.{◌≡◌, refl, ap, sym, ◌∙◌}
use mathlib.Core.Bool.{Bool, true, false, cond}
use mathlib.Core.List.{List, [], ◌∷◌, ◌++◌, map, flatten}
use mathlib.Core.Option.{Option}
use Prim.Native.Nat.{ℕ, ◌<◌, ◌≤◌}
use native.Mathlib.Omega.{arith}
use lib.ListN.{length}
use Rattle.std.specs.Prelude.{Result, Ok, Err}
use Rattle.journal_rules.specs.declared.Contents.{Contents}
use Rattle.journal_rules.specs.Journal.{in_order, read_of, records_of}
use Rattle.journal_rules.specs.Survivors.{survivors}
use Rattle.journal_rules.specs.Internal.{last_records, counted_records}
use Rattle.journal_rules.proofs.Accept.{counted_records_lem}
use Rattle.journal_rules.proofs.RunInTurn.{none_survive}
use Rattle.journal_rules.proofs.Survivors.{some_survive}
use Rattle.tracker.specs.Promise.{Refusal, number, Row, Answer, Opening, OpenPromise, IntervalAfter, number_of, worked_from, Call, Interval}
use Rattle.listing.specs.Line.{line_of, listed_of}
use Rattle.listing.specs.Internal.{row_text}
use Rattle.listing.specs.Listing.{if_listed, eight_rows, call_lines, ended_by, run_lines, opened_lines, record_lines, body_lines}
use Rattle.journal_rules.specs.Run.{opened_at}

-- the lines of the printed ones of rows, end to end, are what the code puts for each
pub printed : (rows : List Row) → flatten (flatten (map if_listed rows)) ≡ flatten (map row_text rows)
unfolding flatten
printed [] = refl
printed (r ∷ rows) = go (listed_of r) (printed rows)
  where
    go : (t : Bool)
        → flatten (flatten (map if_listed rows)) ≡ flatten (map row_text rows)
        → flatten (cond t (line_of r ∷ []) [] ++ flatten (map if_listed rows)) ≡ cond t (line_of r) [] ++ flatten (map row_text rows)
    go true e = ap (λ (l : List ℕ). line_of r ++ l) e
    go false e = e

-- one record's turn, by its call
module _ (o : Opening) (passed : List Call) (bs : List (List ℕ)) {b : List ℕ} {a : Answer} (call : IntervalAfter Interval o passed b a) where
  abbrev upto : List Call
  upto = passed ++ (Interval b ∷ [])

  turn : {m : Option ℕ} → number_of a.outcome ≡ m → run_lines o passed (b ∷ bs) ≡ call_lines m (eight_rows (worked_from o upto)) (run_lines o upto bs)
  unfolding run_lines
  turn e = rw (sym call.number ∙ e) refl

  pub go_on : a.outcome ≡ Ok tt → run_lines o passed (b ∷ bs) ≡ eight_rows (worked_from o upto) ++ run_lines o upto bs
  go_on e = turn (ap number_of e)

  pub go_off : (why : Refusal) → a.outcome ≡ Err why → run_lines o passed (b ∷ bs) ≡ ended_by (number why)
  go_off why e = turn (ap number_of e)

-- what the records give, by the opening's outcome
module _ (first : ℕ) (bs : List (List ℕ)) {a : Answer} (p : OpenPromise (opened_at first) a) where
  by_number : {m : Option ℕ} → number_of a.outcome ≡ m → opened_lines first bs ≡ call_lines m [] (run_lines (opened_at first) [] bs)
  unfolding opened_lines
  by_number e = rw (sym p.number ∙ e)

  pub opened : a.outcome ≡ Ok tt → opened_lines first bs ≡ run_lines (opened_at first) [] bs
  opened e = by_number (ap number_of e)

  pub unopened : (why : Refusal) → a.outcome ≡ Err why → opened_lines first bs ≡ ended_by (number why)
  unopened why e = by_number (ap number_of e)

pub no_records : (first : ℕ) (r : List ℕ) → length r < 168 → record_lines first (survivors r) ≡ []
unfolding record_lines
no_records first r l = rw (none_survive r l)

pub no_text : (first : ℕ) (r : List ℕ) → length r < 168 → flatten (record_lines first (survivors r)) ≡ []
unfolding flatten
no_text first r l = rw (no_records first r l)

pub some_records : (first : ℕ) (r : List ℕ) → in_order r ≡ true → 168 ≤ length r → record_lines first (survivors r) ≡ opened_lines first (survivors r)
unfolding record_lines
some_records first r order l = go (survivors r) (some_survive r order (omega arith))
  where
    go : (bs : List (List ℕ)) → 0 < length bs → record_lines first bs ≡ opened_lines first bs
    go [] h = absurd (omega arith)
    go (b ∷ bs) h = refl

-- what follows the header, by what a read finds
module _ (s : List ℕ) where
  pub read_some : (held : Contents) → Ok held ≡ read_of s → body_lines s ≡ record_lines held.first (survivors (last_records held.count s))
  unfolding body_lines
  read_some held e =
      let records : records_of s ≡ last_records held.count s = sym (counted_records_lem s) ∙ ap (λ (found : Result Contents Refusal). counted_records found s) (sym e) in
      rw (← e, records)

  pub read_none : (why : Refusal) → Err why ≡ read_of s → body_lines s ≡ ended_by (number why)
  unfolding body_lines
  read_none why e = rw (← e)
