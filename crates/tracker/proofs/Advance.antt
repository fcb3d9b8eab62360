-- A tracker that came from an opening and calls takes an accepted record: its numbers are in range, and each direction can be stepped.
-- Assumes nothing.
use mathlib.Core.Bool.{true}
use mathlib.Core.List.{List}
use mathlib.Core.Path.{◌≡◌, refl, sym, subst}
use Prim.Native.Nat.{ℕ, ◌≤◌, ◌<◌}
use native.Mathlib.Decide.{dec_lt}
use native.Mathlib.Omega.{arith}
use lib.ListN.{length, get_or, get_or-eq_default}
use Rattle.std.specs.Prelude.{Ok, Err}
use Rattle.std.specs.Result.{result_and}
use Rattle.rules.specs.declared.Refusal.{Refusal}
use Rattle.rules.specs.Refusal.{Outcome}
use Rattle.rules.specs.declared.Event.{Event}
use Rattle.rules.specs.declared.Tracker.{Tracker}
use Rattle.rules.specs.Interval.{step_of}
use Rattle.rules.specs.Record.{record_number, target_sum, event_of}
use Rattle.rules.specs.Tracker.{shares_of, accepts, blank, direction_of, step_all}
use Rattle.rules.specs.Claim.{Came}
use Rattle.rules.proofs.Accepted.{Sound, accepted_is}
use Rattle.rules.proofs.AcceptedSettings.{direction_ok_lem}
use Rattle.rules.proofs.Came.{replayed, settings_settled}
use Rattle.rules.proofs.Directions.{at_direction, same_directions}
use Rattle.rules.proofs.StateBounds.{event_size, bounds}
use Rattle.rules.proofs.Replay.{event_number}
use Rattle.rules.proofs.RecordRanges.{target_sum_bound, share_bound}
use Rattle.rules.specs.Market.{of_directions}
use Rattle.events.specs.Internal.{Readable}
use Rattle.step.specs.Internal.{Steppable}
use Rattle.tracker.specs.Internal.{no_event, AllSteppable, stepped, all_stepped}

-- What is accepted is the record of the bytes; what is refused is refused for that reason.
pub is_record : (o : Outcome) {b r : List ℕ} → result_and o (Ok b) ≡ Ok r → (o ≡ Ok tt) × (r ≡ b)
is_record (Ok done) e = (refl, cc)
is_record (Err why) e = absurd cc

pub is_refusal : (o : Outcome) (b : List ℕ) {why : Refusal} → result_and o (Ok b) ≡ Err why → o ≡ Err why
is_refusal (Ok done) b e = absurd cc
is_refusal (Err other) b e = cc

event_target : (shares : List ℕ) (d : ℕ) (b : List ℕ) → (event_of shares d b).target ≡ target_sum b d
unfolding event_of
event_target shares d b = refl

module _ (t : Tracker) (came : Came t) (b : List ℕ) (ok : accepts t.awaited b ≡ true) where
  sound : Sound t.awaited b
  sound = accepted_is t.awaited b ok

  -- the record is accepted at its own number
  own : Sound (record_number b) b
  own = subst (λ (n : ℕ). Sound n b) (sym sound.in_turn) sound

  shares_are : t.shares ≡ shares_of came.opening
  shares_are = (replayed t came).shares

  pub readable : length t.shares ≡ 6 → Readable t.shares b
  readable six = record { accepted = rw sound.in_turn ok; in_range = λ i. go i (dec_lt i 6) }
    where
      go : (i : ℕ) → Dec (i < 6) → get_or t.shares i 0 ≤ 1000
      go i (yes l) = rw shares_are (share_bound came.opening i l)
      go i (no l) = rw (get_or-eq_default t.shares 0 {n = i} (omega arith)) (omega arith)

  steppable : (d : ℕ) → d < 8 → Steppable t.settings d (event_of t.shares d b) (direction_of t d)
  steppable d l =
      let sizes = event_size came.opening d b own in
      record {
        own = direction_ok_lem t.settings (settings_settled t came) d l;
        number = rw (event_number t.shares d b) (omega (arith, own.in_range));
        residue = rw shares_are sizes.0;
        next = rw shares_are sizes.1;
        target = rw (event_target t.shares d b) (target_sum_bound (record_number b) b own d);
        state = rw (event_number t.shares d b, sound.in_turn) ((bounds t came).each d l);
      }

  module _ {events : List Event} (is : events ≡ of_directions (λ d. event_of t.shares d b)) where
    says : (d : ℕ) → d < 8 → get_or events d no_event ≡ event_of t.shares d b
    says d l = rw is (at_direction (λ d. event_of t.shares d b) no_event d l)

    pub all_steppable : AllSteppable t.settings events t.directions
    all_steppable = record { each = λ d l. rw (says d l) (steppable d l) }

    pub stepped_is : all_stepped t.settings events t.directions ≡ step_all t.settings t.shares b t.directions
    unfolding step_all
    stepped_is = same_directions (stepped t.settings events t.directions) (λ d. step_of t.settings d (event_of t.shares d b) (direction_of t d)) blank (λ d l. rw (says d l))
