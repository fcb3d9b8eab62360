-- Document 01, the words of demand 3 about one direction: what follows from its accepted intervals alone. Nothing here reads a tracker.
-- A history is the accepted intervals of a direction, the latest first, so that the history as it stood i intervals ago is `drop i`.
use Rattle.std.specs.Prelude.{Bool, false, not, cond, ◌&&◌, ◌||◌, List, [], ◌∷◌, ℕ, ◌<◌, T, eqb, leb, pos, length, drop}
use Rattle.std.specs.Int.Signed.{le_z}
use Rattle.signed.specs.Range.{negative}
use Rattle.units.specs.declared.Cents.{Cents}
use Rattle.units.specs.Units.{cents, ◌+ᶜ◌}
use Rattle.rules.specs.declared.Event.{Event}
use Rattle.rules.specs.declared.Period.{Period}
use Rattle.rules.specs.declared.Period.TheVariants.{None, Held}
use Rattle.rules.specs.declared.Direction.{Direction}
use Rattle.rules.specs.declared.Settings.{Settings}
use Rattle.rules.specs.Interval.{half_hour, place, fresh, step_of}

-- The intervals of half-hour h, and those of the latest interval's half-hour up to and including itself.
unfoldable pub in_half_hour : ℕ → List Event → List Event
in_half_hour h [] = []
in_half_hour h (e ∷ es) = cond (eqb (half_hour e.n) h) (e ∷ in_half_hour h es) (in_half_hour h es)

unfoldable pub latest_half_hour : List Event → List Event
latest_half_hour [] = []
latest_half_hour (e ∷ es) = in_half_hour (half_hour e.n) (e ∷ es)

-- One of them has a negative r.
unfoldable pub any_negative : List Event → Bool
any_negative [] = false
any_negative (e ∷ es) = negative e.residue.0 || any_negative es

-- A clearing interval of a direction is one with flag 0, or one with q = 5 and no negative r in its half-hour (N4).
unfoldable pub clearing : List Event → Bool
clearing [] = false
clearing (e ∷ es) = not e.flag || (eqb (place e.n) 5 && not (any_negative (latest_half_hour (e ∷ es))))

-- A direction's sum after an accepted interval adds its negative r over the accepted intervals after the latest clearing one, up to
-- and including that interval; the clearing one itself adds nothing, and if that interval is clearing the sum is 0. If none came, the sum
-- runs from the opening.
unfoldable pub since_clearing : List Event → List Event
since_clearing [] = []
since_clearing (e ∷ es) = cond (clearing (e ∷ es)) [] (e ∷ since_clearing es)

unfoldable pub sum_negative : List Event → Cents
sum_negative [] = cents (pos 0)
sum_negative (e ∷ es) = cond (negative e.residue.0) (sum_negative es +ᶜ e.residue) (sum_negative es)

abbrev pub sum_since : List Event → Cents
sum_since es = sum_negative (since_clearing es)

-- Its estimate is next; under review means that bit 0 is set in its record. Before any accepted interval, sum and estimate are 0.
abbrev pub estimate : List Event → Cents
estimate [] = cents (pos 0)
estimate (e ∷ es) = e.next

abbrev pub under_review : List Event → Bool
under_review [] = false
under_review (e ∷ es) = e.review

-- An interval got there if sum plus estimate after it are at or below the threshold of rule 3, which is the settings' (N2).
abbrev pub got_there : Settings → List Event → Bool
got_there set es = le_z (sum_since es +ᶜ estimate es).0 set.threshold.0

-- One of the last k accepted intervals (with fewer, of all) got there without review: sum and estimate as they stood after it.
pub record GotThereWithin (k : ℕ) (set : Settings) (es : List Event) : Type 0 where
  pub ago : ℕ
  pub recent : ago < k
  pub accepted : ago < length es
  pub got : T (got_there set (drop ago es))
  pub unreviewed : T (not (under_review (drop ago es)))

-- A number lies in a period if it is not below first and not above last.
abbrev pub lies_in : ℕ → Period → Bool
lies_in n None = false
lies_in n (Held first last extended) = leb first n && leb n last

-- The state of direction d that the rules make of its history.
unfoldable pub state_after : Settings → ℕ → List Event → Direction
state_after set d [] = fresh
state_after set d (e ∷ es) = step_of set d e (state_after set d es)
