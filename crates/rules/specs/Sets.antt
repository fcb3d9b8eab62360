-- Document 02, N10: a set of intervals, all or none.
use Rattle.std.specs.Prelude.{Bool, true, false, cond, ◌≡◌, ◌↔◌, ℕ, suc, ◌<◌, Result, Ok, Err, get_or, take}
use Rattle.std.proofs.Math.Option.{Option, none, some}
use mathlib.Core.List.{List, [], ◌∷◌, foldl}
use Rattle.rules.specs.declared.Refusal.TheVariants.{BadRecords}
use Rattle.rules.specs.declared.SetRefusal.{SetRefusal}
use Rattle.rules.specs.declared.SetAnswer.{SetAnswer}
use Rattle.rules.specs.declared.Tracker.{Tracker}
use Rattle.rules.specs.Record.{record_number, record_count, records_in}
use Rattle.rules.specs.Refusal.{number, Outcome, number_of, is_accepted, Condition, ◌when◌, judged, bad_records, interval_outcome}
use Rattle.rules.specs.Tracker.{interval_of, after}

-- How a set ends: accepted, or refused with a number and an index.
abbrev pub SetOutcome : Type 0
SetOutcome = Result (Unit {0}) SetRefusal

-- The number and the index of each of its cases: an acceptance has none.
abbrev pub number_and_index : SetOutcome → Option (ℕ × ℕ)
number_and_index (Ok done) = none
number_and_index (Err r) = some (number r.why, r.index)

-- What is refused at an index refuses the set; what is accepted leaves it to the rest.
abbrev pub else_rest : Outcome → ℕ → SetOutcome → SetOutcome
else_rest (Ok done) index rest = rest
else_rest (Err why) index rest = Err (record { why = why; index = index })

-- Records in their turn, from an awaited number on; the first of them has the index given. After an accepted one the next n is awaited, and the
-- first that would not be accepted refuses the set.
unfoldable pub outcome_in_turn : ℕ → ℕ → List (List ℕ) → SetOutcome
outcome_in_turn awaited index [] = Ok tt
outcome_in_turn awaited index (b ∷ bs) = else_rest (interval_outcome awaited b) index (outcome_in_turn (suc (record_number b)) (suc index) bs)

-- 15 for the set's length, with index 0, before any record is looked at; then its records, with an index that is counted from 0. An empty set has
-- none that would not be accepted.
unfoldable pub set_conditions : List ℕ → List Condition
set_conditions s = BadRecords when bad_records s ∷ []

unfoldable pub set_outcome : ℕ → List ℕ → SetOutcome
set_outcome awaited s = else_rest (judged (set_conditions s)) 0 (outcome_in_turn awaited 0 (records_in s))

-- Of 0 to 288 records the set is accepted exactly if each record would have been accepted in its turn; then its tracker is that of the single calls
-- in order. If not, the tracker is as before.
abbrev pub accepts_set : ℕ → List ℕ → Bool
accepts_set awaited s = is_accepted (set_outcome awaited s)

unfoldable pub set_of : Tracker → List ℕ → SetAnswer
set_of t s = record { outcome = set_outcome t.awaited s; tracker = cond (accepts_set t.awaited s) (foldl after t (records_in s)) t }

-- ---- the same, said by the single calls
-- How the single call of record i of bs ends, on the tracker that the single calls of the records before it left.
abbrev pub single_outcome : Tracker → List (List ℕ) → ℕ → Outcome
single_outcome t bs i = (interval_of (foldl after t (take i bs)) (get_or bs i [])).outcome

-- Each of the first k records would have been accepted in its turn.
abbrev pub AcceptedInTurn : Tracker → List (List ℕ) → ℕ → Type 0
AcceptedInTurn t bs k = (i : ℕ) → i < k → single_outcome t bs i ≡ Ok tt

-- The answer to set s on tracker t.
pub record BySingleCalls (t : Tracker) (s : List ℕ) (answer : SetAnswer) : Type 0 where
  -- 15 for the set's length, with index 0;
  pub wrong_length : bad_records s ≡ true → number_and_index answer.outcome ≡ some (15, 0)
  -- else the set is accepted exactly if each record would have been accepted in its turn,
  pub all_or_none : bad_records s ≡ false → (answer.outcome ≡ Ok tt) ↔ AcceptedInTurn t (records_in s) (record_count s)
  -- and otherwise it gives the number and the index of the first that would not.
  pub first_refused : bad_records s ≡ false
      → (i k : ℕ) → i < record_count s
      → AcceptedInTurn t (records_in s) i
      → number_of (single_outcome t (records_in s) i) ≡ some k
      → number_and_index answer.outcome ≡ some (k, i)
  -- An accepted set's result equals that of the single calls in order,
  pub in_order : answer.outcome ≡ Ok tt → answer.tracker ≡ foldl after t (records_in s)
  -- and beside a refusal the tracker is as before.
  pub as_before : {r : SetRefusal} → answer.outcome ≡ Err r → answer.tracker ≡ t
