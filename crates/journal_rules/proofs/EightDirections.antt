-- What stands at each of the eight directions; the rows of a tracker are those worked out from an opening and calls, and bounded.
-- Assumes nothing.
use mathlib.Core.Path.{◌≡◌, refl, ap, sym, ◌∙◌}
use mathlib.Core.List.{List}
use Prim.Native.Nat.{ℕ, ◌<◌}
use native.Mathlib.Omega.{arith}
use lib.ListN.{get_or}
use Rattle.tracker.specs.Promise.{Tracker, RowAnswer, RowPromise, RowBounds, no_row, Opening, Came, Call, run_calls, row_answer, of_directions, worked_from}
use Rattle.tracker.proofs.Promise.{at_direction, row_promise, worked_bounds}
use Rattle.journal_rules.specs.Internal.{rows_shown}

-- what is the same for the eight, one after the other, is the same at each
pub each_direction : {A : Type 0} (f g : ℕ → A) (default : A) → of_directions f ≡ of_directions g → (d : ℕ) → d < 8 → f d ≡ g d
each_direction {A} f g default e d h = sym (at_direction f default d h) ∙ ap (λ (l : List A). get_or l d default) e ∙ at_direction g default d h

pub worked_bounded : (o : Opening) (calls : List Call) (d : ℕ) → d < 8 → RowBounds (get_or (of_directions (worked_from o calls)) d no_row)
worked_bounded o calls d h = rw (at_direction (worked_from o calls) no_row d h) (worked_bounds o calls d h)

pub shown_at : {t : Tracker} {d : ℕ} {a : RowAnswer} → RowPromise t d a → d < 8 → get_or (rows_shown t) d no_row ≡ a.row
shown_at {t} {d} p h = at_direction (λ d. (row_answer t d).row) no_row d h ∙ ap (λ (a : RowAnswer). a.row) (sym p.is)

pub shown_worked : (t : Tracker) → Came t → (o : Opening) (calls : List Call) → t ≡ run_calls o calls → rows_shown t ≡ of_directions (worked_from o calls)
shown_worked t came o calls q =
    rw (at 0 (omega arith), at 1 (omega arith), at 2 (omega arith), at 3 (omega arith), at 4 (omega arith), at 5 (omega arith), at 6 (omega arith), at 7 (omega arith))
  where
    at : (d : ℕ) → d < 8 → (row_answer t d).row ≡ worked_from o calls d
    at d h = ((row_promise t came d {r = row_answer t d} refl).claim o calls q h).is_worked
