-- The part of a cent left over (N8), of a corridor, a record and a row: cents and leftovers of both directions make the grains, a direction's
-- leftover is half a cent at most, and no rule reads it.
-- Assumes nothing.
use mathlib.Core.Path.{◌≡◌, refl, ap, ap₂, ◌∙◌}
use mathlib.Core.Bool.{Bool, true, false}
use mathlib.Core.List.{List, [], ◌∷◌, map}
use Prim.Native.Nat.{ℕ, ◌+◌, ◌*◌}
use lib.IntN.{pos}
use Rattle.units.specs.declared.Cents.{Cents}
use Rattle.units.specs.declared.Grains.{Grains}
use Rattle.units.specs.Units.{grains}
use Rattle.rules.specs.declared.Line.{Line}
use Rattle.rules.specs.declared.Event.{Event}
use Rattle.rules.specs.declared.Direction.{Direction}
use Rattle.rules.specs.declared.Row.{Row}
use Rattle.rules.specs.Residue.{together, corridor_grains, residue_of}
use Rattle.rules.specs.declared.Settings.{Settings}
use Rattle.rules.specs.Interval.{step_of}
use Rattle.rules.specs.History.{state_after}
use Rattle.rules.specs.Record.{prices, lines, pre_dispatch_prices, pre_dispatch_lines, residue, pre_dispatch_residue, grains_in, pre_dispatch_grains_in, event_of}
use Rattle.rules.specs.Tracker.{Opening, shares_of, residue_shown}
use Rattle.rules.specs.Calls.{Call}
use Rattle.rules.specs.Claim.{accepted, history, worked_row, worked_from}
use Rattle.rules.specs.Bounds.{WithinHalfCent}
use Rattle.rules.proofs.CentsAndGrains.{alone, none_left, leftover_within}
use Rattle.rules.proofs.Laws.{flows_back, residue_from_to, residue_to_from, of_residue}

-- ---- nothing is lost
module _ (prices : List Cents) (shares : List ℕ) (lines : List Line) where
  -- of the two directions of corridor c
  abbrev both_ways : ℕ → Grains
  both_ways c = together (residue_of prices shares lines (2 * c)) (residue_of prices shares lines (2 * c + 1))

  -- Forward plus reverse cents, with their leftovers, make the corridor's grains exactly.
  pub corridor_together : (c : ℕ) → both_ways c ≡ corridor_grains prices shares lines c
  corridor_together c = go (flows_back prices shares lines c) refl
    where
      go : (t : Bool) → flows_back prices shares lines c ≡ t → both_ways c ≡ corridor_grains prices shares lines c
      go false e = let r = residue_from_to prices shares lines c e in ap₂ together r.0 r.1 ∙ (alone (corridor_grains prices shares lines c)).0
      go true e = let r = residue_to_from prices shares lines c e in ap₂ together r.0 r.1 ∙ (alone (corridor_grains prices shares lines c)).1

-- The same of a record: of the interval, and of the pre-dispatch half-hour.
pub record_together : (shares b : List ℕ) (c : ℕ)
    → (together (residue shares b (2 * c)) (residue shares b (2 * c + 1)) ≡ grains_in shares b c)
    × (together (pre_dispatch_residue shares b (2 * c)) (pre_dispatch_residue shares b (2 * c + 1)) ≡ pre_dispatch_grains_in shares b c)
record_together shares b c = (corridor_together (prices b) shares (lines b) c, corridor_together (pre_dispatch_prices b) shares (pre_dispatch_lines b) c)

-- The rows of a corridor's two directions, worked out from one list: forward plus reverse cents, with their leftovers, make the grains that its
-- lines have in the latest accepted record b (N8).
module _ (o : Opening) (calls : List Call) (b : List ℕ) (bs : List (List ℕ)) (latest : accepted o calls ≡ b ∷ bs) where
  shown_residue : (d : ℕ) {r : Row} → r ≡ worked_from o calls d → residue_shown r ≡ residue (shares_of o) b d
  unfolding history worked_row event_of
  shown_residue d is = ap residue_shown (rw latest at is)

  pub rows_together : (c : ℕ) {forward back : Row}
      → forward ≡ worked_from o calls (2 * c)
      → back ≡ worked_from o calls (2 * c + 1)
      → together (residue_shown forward) (residue_shown back) ≡ grains_in (shares_of o) b c
  rows_together c f g = ap₂ together (shown_residue (2 * c) f) (shown_residue (2 * c + 1) g) ∙ (record_together (shares_of o) b c).0

-- ---- how much
-- Of every direction, in an interval and in a pre-dispatch half-hour.
pub residue_leftover : (prices : List Cents) (shares : List ℕ) (lines : List Line) (d : ℕ) → WithinHalfCent (residue_of prices shares lines d).leftover
residue_leftover prices shares lines = of_residue prices shares lines (λ r. WithinHalfCent r.leftover) (λ c. leftover_within (corridor_grains prices shares lines c)) none_left

-- ---- nothing else moves
-- An interval and a state without their leftovers.
abbrev pub event_apart : Event → Event
event_apart e = record {
  n = e.n;
  flag = e.flag;
  residue = e.residue;
  leftover = grains (pos 0);
  next = e.next;
  review = e.review;
  status = e.status;
  blocked = e.blocked;
  target = e.target;
}

abbrev pub state_apart : Direction → Direction
state_apart s = record {
  sums = s.sums;
  period = s.period;
  clamp = s.clamp;
  counts = s.counts;
  suspended = s.suspended;
  residue = s.residue;
  leftover = grains (pos 0);
  next = s.next;
  blocked = s.blocked;
  flag = s.flag;
  notice = s.notice;
}

-- Of a history without its leftovers the rules make the state without its leftover: no sum, period, count or clamp reads one.
pub leftover_apart : (set : Settings) (d : ℕ) (es : List Event) → state_after set d (map event_apart es) ≡ state_apart (state_after set d es)
unfolding state_after step_of
leftover_apart set d [] = refl
leftover_apart set d (e ∷ es) = ap (step_of set d (event_apart e)) (leftover_apart set d es)
