-- A journal's run, step by step: by what the read gives, by the opening, and by each record's call.
-- Assumes nothing.
use Rattle.std.proofs.Common.{◌≡◌, sym, ap, ◌∙◌, ℕ, ◌<◌, ◌≤◌, List, [], ◌∷◌, ◌++◌, Result, Ok, Err, length, true, arith}
use Rattle.tracker.specs.Promise.{Refusal, Answer, Opening, OpenPromise, IntervalAfter, Condition, judged, open_conditions, interval_conditions, awaited_from, Call, Interval}
use Rattle.tracker.proofs.Promise.{open_outcome_lem}
use Rattle.journal_rules.specs.declared.Contents.{Contents}
use Rattle.journal_rules.specs.Journal.{record_count, in_order, read_of, first, part, read_outcome, read_conditions}
use Rattle.journal_rules.specs.Survivors.{survivors}
use Rattle.journal_rules.specs.Internal.{last_records}
use Rattle.journal_rules.specs.Run.{opened_at, turn_conditions, opened_conditions, run_conditions, rows_in_turn, rows_of}
use Rattle.journal_rules.proofs.Accept.{none_before, one_before, read_as, outcome_of, held_lem}
use Rattle.journal_rules.proofs.Survivors as S

-- records too few for one
pub none_survive : (r : List ℕ) → length r < 168 → survivors r ≡ []
none_survive r l = let none : record_count r ≤ 0 = omega arith in S.rest_all r ∙ S.rest_none r 0 none

-- ---- the opening
abbrev pub tests : Opening → List Condition
tests o = open_conditions o.first o.shares o.settings

module _ (first : ℕ) {a : Answer} (p : OpenPromise (opened_at first) a) where
  pub unopened : {why : Refusal} → a.outcome ≡ Err why → (bs : List (List ℕ)) → 0 < length bs → judged (opened_conditions first bs) ≡ Err why
  unfolding opened_conditions
  unopened e [] h = absurd (omega arith)
  unopened e (b ∷ bs) h = one_before (tests (opened_at first)) (turn_conditions (opened_at first) [] (b ∷ bs)) (sym (open_outcome_lem p) ∙ e)

  pub opened : a.outcome ≡ Ok tt → (bs : List (List ℕ)) → 0 < length bs → judged (opened_conditions first bs) ≡ judged (turn_conditions (opened_at first) [] bs)
  unfolding opened_conditions
  opened e [] h = absurd (omega arith)
  opened e (b ∷ bs) h = none_before (tests (opened_at first)) (turn_conditions (opened_at first) [] (b ∷ bs)) (sym (open_outcome_lem p) ∙ e)

-- ---- one record's turn, by its call
module _ (o : Opening) (passed : List Call) (bs : List (List ℕ)) {b : List ℕ} {a : Answer} (call : IntervalAfter Interval o passed b a) where
  pub refused_in_turn : {why : Refusal} → a.outcome ≡ Err why → judged (turn_conditions o passed (b ∷ bs)) ≡ Err why
  unfolding turn_conditions
  refused_in_turn e = one_before (interval_conditions (awaited_from o passed) b) (turn_conditions o (passed ++ (Interval b ∷ [])) bs) (sym call.outcome ∙ e)

  pub accepted_in_turn : a.outcome ≡ Ok tt → judged (turn_conditions o passed (b ∷ bs)) ≡ judged (turn_conditions o (passed ++ (Interval b ∷ [])) bs)
  unfolding turn_conditions
  accepted_in_turn e = none_before (interval_conditions (awaited_from o passed) b) (turn_conditions o (passed ++ (Interval b ∷ [])) bs) (sym call.outcome ∙ e)

-- ---- what the read gives
abbrev first_in : Result Contents Refusal → ℕ
first_in (Ok held) = held.first
first_in (Err why) = 0

module _ (s : List ℕ) where
  pub unread : {why : Refusal} → Err why ≡ read_of s → judged (run_conditions s) ≡ Err why
  unfolding run_conditions read_outcome
  unread e = one_before (read_conditions s) (opened_conditions (first s) (survivors (part s))) (read_as s ∙ ap outcome_of (sym e))

  module _ {held : Contents} (e : Ok held ≡ read_of s) where
    first_read : held.first ≡ first s
    unfolding read_of
    first_read = ap first_in e ∙ rw (held_lem s e).accepted

    pub read_run : judged (run_conditions s) ≡ judged (opened_conditions held.first (survivors (last_records held.count s)))
    unfolding run_conditions read_outcome
    read_run =
        let l = held_lem s e in
        none_before (read_conditions s) (opened_conditions (first s) (survivors (part s))) l.accepted
        ∙ sym (λ i. judged (opened_conditions (first_read i) (survivors (l.records i))))

    pub read_rows : rows_of s ≡ rows_in_turn (opened_at held.first) [] (survivors (last_records held.count s))
    read_rows = sym (λ i. rows_in_turn (opened_at (first_read i)) [] (survivors ((held_lem s e).records i)))

    pub read_order : in_order (last_records held.count s) ≡ true
    read_order = let l = held_lem s e in rw l.records l.passed.order
