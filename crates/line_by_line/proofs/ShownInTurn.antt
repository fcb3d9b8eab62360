-- The lines of a tracker's rows, direction by direction.
-- Assumes nothing.
use Rattle.std.proofs.Common.{◌≡◌, ℕ, ◌+◌, ◌<◌, Bool, true, false, List, [], ◌∷◌, ◌++◌, drop, cond, refl, sym}
use Rattle.std.proofs.lemmas.List.{drop_more}
use mathlib.Core.List.{map, flatten}
use Rattle.tracker.specs.Promise.{Tracker, RowAnswer, RowPromise, no_row}
use Rattle.listing.specs.Line.{line_of, listed_of}
use Rattle.listing.specs.Listing.{if_listed}
use Rattle.journal_rules.specs.Internal.{rows_shown}
use Rattle.journal_rules.proofs.EightDirections.{shown_at}

-- those of the rows from direction d on
abbrev pub shown_from : Tracker → ℕ → List (List ℕ)
shown_from t d = flatten (map if_listed (drop d (rows_shown t)))

-- a row's line, or none, and those of the rows behind it
module _ {t : Tracker} {d : ℕ} {a : RowAnswer} (p : RowPromise t d a) (h : d < 8) where
  in_turn : (b : Bool) → listed_of a.row ≡ b → shown_from t d ≡ cond b (line_of a.row ∷ []) [] ++ shown_from t (d + 1)
  unfolding flatten
  in_turn b e = rw (drop_more (rows_shown t) d no_row h, shown_at p h, e)

  pub listed_first : true ≡ listed_of a.row → shown_from t d ≡ (line_of a.row ∷ []) ++ shown_from t (d + 1)
  listed_first e = in_turn true (sym e)

  pub passed_over : false ≡ listed_of a.row → shown_from t d ≡ [] ++ shown_from t (d + 1)
  passed_over e = in_turn false (sym e)

pub all_shown : (t : Tracker) → shown_from t 8 ≡ []
unfolding flatten
all_shown t = refl
