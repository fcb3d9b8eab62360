-- Which rows are ours, which numbers are asked last, and an empty journal.
-- Assumes nothing.
use Rattle.std.proofs.Common.{◌≡◌, refl, ◌∙◌, ℕ, Ok, Err, List, [], ◌∷◌, arith}
use Rattle.std.specs.Prelude.{pos}
use Rattle.std.specs.Prelude.{map, Some, None}
use Rattle.tracker.specs.Promise.{minus, cents, Row, Refusal, judged}
use Rattle.tracker.proofs.Promise.{numbers}
use Rattle.journal_rules.specs.Journal.{first, part, count, read_conditions, read_outcome}
use Rattle.journal_rules.specs.Survivors.{survivors}
use Rattle.journal_rules.specs.Run.{opened_at, opened_conditions, run_conditions, rows_in_turn}
use Rattle.journal_rules.proofs.Accept.{none_before, one_before, sound, part_length}
use Rattle.journal_rules.proofs.RunInTurn.{none_survive}
use Rattle.comparison.specs.Entries.{key}
use Rattle.beside.specs.Beside.{as_entry, ours, our_rows, entry_conditions, beside_conditions, values_of}

-- a row of a cent below 0 is ours, one of amount 0 is not
module _ (r : Row) where
  one_cent : r.amount ≡ cents (minus 1) → ours (r ∷ []) ≡ as_entry r ∷ []
  one_cent e = rw e refl

  amount_0 : r.amount ≡ cents (pos 0) → ours (r ∷ []) ≡ []
  amount_0 e = rw e refl

  as_shown : ((as_entry r).key.n ≡ r.n) × ((as_entry r).key.direction ≡ r.direction) × ((as_entry r).amount ≡ r.amount)
  as_shown = (refl, refl, refl)

-- shares of 500, all six
shares : (first : ℕ) → (opened_at first).shares ≡ 500 ∷ 500 ∷ 500 ∷ 500 ∷ 500 ∷ 500 ∷ []
shares first = refl

-- the run's numbers come before those of the entries,
run_first : (s b : List ℕ) {why : Refusal} → judged (run_conditions s) ≡ Err why → judged (beside_conditions s b) ≡ Err why
unfolding beside_conditions
run_first s b e = one_before (run_conditions s) (entry_conditions b) e

-- and 24 before 25
in_this_order : (b : List ℕ) → numbers (entry_conditions b) ≡ 24 ∷ 25 ∷ []
unfolding entry_conditions
in_this_order b = refl

-- the values are those of the answer, in document 02's order, and none has no n and direction
in_order : (n direction : ℕ)
    → map (λ lowest. values_of (record { equal = 1; different = 2; only_there = 3; only_here = 4; lowest = lowest })) (Some (key n direction) ∷ None ∷ [])
    ≡ (1 ∷ 2 ∷ 3 ∷ 4 ∷ n ∷ direction ∷ []) ∷ (1 ∷ 2 ∷ 3 ∷ 4 ∷ []) ∷ []
in_order n direction = refl

-- an empty journal is not opened, at whatever n, and has no rows
module _ (s : List ℕ) (read : read_outcome s ≡ Ok tt) (empty : count s ≡ 0) where
  none_left : survivors (part s) ≡ []
  none_left = let shape = (sound s read).shape in none_survive (part s) (omega (arith, part_length s shape, shape.back, empty))

  not_refused : judged (run_conditions s) ≡ Ok tt
  unfolding run_conditions read_outcome opened_conditions
  not_refused = none_before (read_conditions s) (opened_conditions (first s) (survivors (part s))) read ∙ rw none_left refl

  no_rows : our_rows s ≡ []
  unfolding our_rows rows_in_turn
  no_rows = rw none_left refl
