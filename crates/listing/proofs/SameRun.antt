-- The listing agrees with the run: where no number refuses the run, its lines are those of the run's rows that are printed, and else its last line has
-- the run's number.
-- Assumes nothing.
use Rattle.std.proofs.Common.{◌≡◌, refl, sym, ap, ◌∙◌, ℕ, Bool, true, false, cond, Ok, Err, List, [], ◌∷◌, ◌++◌, append_assoc}
use mathlib.Core.List.{map, flatten}
use mathlib.Core.Option.{Option, none, some}
use Rattle.tracker.specs.Promise.{Row, Opening, Outcome, Condition, number, number_met, number_of, judged, open_conditions, interval_conditions, awaited_from, of_directions, worked_from, Call, Interval}
use Rattle.tracker.proofs.Promise.{number_met_lem}
use Rattle.journal_rules.specs.Journal.{first, part, read_conditions, read_outcome, found_by, read_of, records_by, records_of}
use Rattle.journal_rules.specs.Survivors.{survivors}
use Rattle.journal_rules.specs.Run.{opened_at, turn_conditions, opened_conditions, run_conditions, rows_in_turn, rows_of}
use Rattle.listing.specs.Listing.{if_listed, call_lines, ended_by, run_lines, opened_lines, record_lines, read_lines, body_lines}

-- lines of a run that has such rows, or ends at a number
abbrev pub AsRun : List (List ℕ) → Option ℕ → List Row → Type 0
AsRun lines none rows = lines ≡ flatten (map if_listed rows)
AsRun lines (some k) rows = (own : List (List ℕ)) × (lines ≡ own ++ ended_by k)

-- conditions after others
abbrev first_of_both : Option ℕ → Option ℕ → Option ℕ
first_of_both none n = n
first_of_both (some k) n = some k

both_met : (cs ds : List Condition) → number_met (cs ++ ds) ≡ first_of_both (number_met cs) (number_met ds)
both_met [] ds = refl
both_met (c ∷ cs) ds = go c.met (both_met cs ds)
  where
    go : (b : Bool) → number_met (cs ++ ds) ≡ first_of_both (number_met cs) (number_met ds)
        → cond b (some (number c.refusal)) (number_met (cs ++ ds)) ≡ first_of_both (cond b (some (number c.refusal)) (number_met cs)) (number_met ds)
    go true e = refl
    go false e = e

-- lines that go before others, of rows that do
listed_append : (own rows : List Row) → flatten (map if_listed (own ++ rows)) ≡ flatten (map if_listed own) ++ flatten (map if_listed rows)
unfolding flatten
listed_append [] rows = refl
listed_append (r ∷ own) rows =
    ap (λ (l : List (List ℕ)). if_listed r ++ l) (listed_append own rows) ∙ sym (append_assoc (if_listed r) (flatten (map if_listed own)) (flatten (map if_listed rows)))

before : (own : List Row) (lines : List (List ℕ)) (n : Option ℕ) (rows : List Row) → AsRun lines n rows → AsRun (flatten (map if_listed own) ++ lines) n (own ++ rows)
before own lines none rows h = ap (λ (l : List (List ℕ)). flatten (map if_listed own) ++ l) h ∙ sym (listed_append own rows)
before own lines (some k) rows h = (flatten (map if_listed own) ++ h.0, ap (λ (l : List (List ℕ)). flatten (map if_listed own) ++ l) h.1 ∙ sym (append_assoc (flatten (map if_listed own)) h.0 (ended_by k)))

-- after a call that gives own lines, or a number
after : (m : Option ℕ) (own : List Row) (lines : List (List ℕ)) (n : Option ℕ) (rows : List Row) → AsRun lines n rows
    → AsRun (call_lines m (flatten (map if_listed own)) lines) (first_of_both m n) (own ++ rows)
after none own lines n rows h = before own lines n rows h
after (some k) own lines n rows h = ([], refl)

in_turn : (o : Opening) (passed : List Call) (bs : List (List ℕ)) → AsRun (run_lines o passed bs) (number_met (turn_conditions o passed bs)) (rows_in_turn o passed bs)
unfolding run_lines turn_conditions rows_in_turn flatten
in_turn o passed [] = refl
in_turn o passed (b ∷ bs) =
    let upto = passed ++ (Interval b ∷ []) in
    let tests = interval_conditions (awaited_from o passed) b in
    rw (both_met tests (turn_conditions o upto bs))
    (after (number_met tests) (of_directions (worked_from o upto)) (run_lines o upto bs) (number_met (turn_conditions o upto bs)) (rows_in_turn o upto bs) (in_turn o upto bs))

opened_as : (first : ℕ) (bs : List (List ℕ)) → AsRun (record_lines first bs) (number_met (opened_conditions first bs)) (rows_in_turn (opened_at first) [] bs)
unfolding record_lines opened_lines opened_conditions rows_in_turn flatten
opened_as first [] = refl
opened_as first (b ∷ bs) =
    let o = opened_at first in
    let tests = open_conditions o.first o.shares o.settings in
    rw (both_met tests (turn_conditions o [] (b ∷ bs)))
    (after (number_met tests) [] (run_lines o [] (b ∷ bs)) (number_met (turn_conditions o [] (b ∷ bs))) (rows_in_turn o [] (b ∷ bs)) (in_turn o [] (b ∷ bs)))

-- of any journal
pub same_run : (s : List ℕ) → AsRun (body_lines s) (number_met (run_conditions s)) (rows_of s)
unfolding body_lines run_conditions read_of records_of read_outcome
same_run s = go (judged (read_conditions s)) (number_met_lem (read_conditions s))
  where
    go : (o : Outcome) → number_of o ≡ number_met (read_conditions s)
        → AsRun (read_lines (found_by o s) (survivors (records_by o s))) (number_met (read_conditions s ++ opened_conditions (first s) (survivors (part s)))) (rows_of s)
    go (Ok done) e = rw (both_met (read_conditions s) (opened_conditions (first s) (survivors (part s))), ← e) (opened_as (first s) (survivors (part s)))
    go (Err why) e = rw (both_met (read_conditions s) (opened_conditions (first s) (survivors (part s))), ← e) ([], refl)
