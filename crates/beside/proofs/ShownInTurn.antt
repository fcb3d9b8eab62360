-- A tracker's rows with a negative amount, direction by direction.
-- Assumes nothing.
use Rattle.std.proofs.Common.{◌≡◌, refl, ℕ, ◌+◌, ◌<◌, Bool, true, false, List, [], ◌∷◌, ◌++◌, map, drop, cond}
use Rattle.std.proofs.lemmas.List.{drop_more}
use Rattle.tracker.specs.Promise.{negative, Tracker, RowAnswer, RowPromise, no_row}
use Rattle.journal_rules.specs.Internal.{rows_shown}
use Rattle.journal_rules.proofs.EightDirections.{shown_at}
use Rattle.comparison.specs.declared.Entry.{Entry}
use Rattle.beside.specs.Beside.{as_entry, ours}

-- those of the rows from direction d on
abbrev pub shown_from : Tracker → ℕ → List Entry
shown_from t d = ours (drop d (rows_shown t))

-- a row's, or none, and those of the rows behind it
module _ {t : Tracker} {d : ℕ} {a : RowAnswer} (p : RowPromise t d a) (h : d < 8) where
  in_turn : (b : Bool) → negative a.row.amount.0 ≡ b → shown_from t d ≡ map as_entry (cond b (a.row ∷ []) []) ++ shown_from t (d + 1)
  in_turn true e = rw (drop_more (rows_shown t) d no_row h, shown_at p h, e) refl
  in_turn false e = rw (drop_more (rows_shown t) d no_row h, shown_at p h, e) refl

  pub negative_first : negative a.row.amount.0 ≡ true → shown_from t d ≡ as_entry a.row ∷ shown_from t (d + 1)
  negative_first = in_turn true

  pub passed_over : negative a.row.amount.0 ≡ false → shown_from t d ≡ shown_from t (d + 1)
  passed_over = in_turn false
