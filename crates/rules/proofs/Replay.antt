-- The tracker is the accepted records replayed: what it keeps of a direction is what the rules make of that direction's history.
-- Assumes nothing.
use mathlib.Core.Path.{◌≡◌, refl, sym, ap, ◌∙◌, subst}
use mathlib.Core.Bool.{Bool, true, false, not}
use mathlib.Core.List.{List, [], ◌∷◌}
use Prim.Native.Nat.{ℕ, suc, ◌≤◌, ◌<◌}
use native.Mathlib.Omega.{arith}
use lib.Dec.{T}
use lib.IntN.{pos}
use lib.ListN.{length, get_or, get_or-replicate}
use Rattle.units.specs.declared.Cents.{Cents}
use Rattle.rules.specs.declared.Direction.{Direction}
use Rattle.rules.specs.declared.Settings.{Settings}
use Rattle.rules.specs.declared.Tracker.{Tracker}
use Rattle.rules.specs.Interval.{fresh, next_of, step_of}
use Rattle.rules.specs.History.{state_after}
use Rattle.rules.specs.Record.{record_number, present, pre_dispatch_residue, flag, event_of}
use Rattle.rules.specs.Refusal.{highest_number}
use Rattle.rules.specs.Tracker.{Opening, opens, first_of, shares_of, settings_of, open_of, blank, direction_of, step_all, advanced, accepts}
use Rattle.rules.specs.Calls.{Call, run_calls}
use Rattle.rules.specs.Claim.{awaited_after, accepted, history}
use Rattle.rules.proofs.Accepted.{Sound, accepted_is, opened_is}
use Rattle.rules.proofs.Directions.{at_direction}
use Rattle.rules.proofs.Lists.{after_every_list}
use Rattle.rules.proofs.Consecutive.{next_number, InTurn}

-- the eight directions are stepped alike
module _ (set : Settings) (shares b : List ℕ) (ss : List Direction) where
  eight_stepped : length (step_all set shares b ss) ≡ 8
  unfolding step_all
  eight_stepped = refl

  step_at_lem : (d : ℕ) → d < 8 → get_or (step_all set shares b ss) d blank ≡ step_of set d (event_of shares d b) (get_or ss d blank)
  unfolding step_all
  step_at_lem d h = at_direction (λ d. step_of set d (event_of shares d b) (get_or ss d blank)) blank d h

-- at flag 0 there is no estimate
silent : (shares : List ℕ) (d : ℕ) (b : List ℕ) → T (not (event_of shares d b).flag) → (event_of shares d b).next.0 ≡ pos 0
unfolding event_of next_of
silent shares d b n = at_flag (flag shares b d) (record_number b) (present b) (pre_dispatch_residue shares b d).cents n
  where
    at_flag : (f : Bool) (n : ℕ) (p : Bool) (r : Cents) → T (not f) → (next_of f n p r).0 ≡ pos 0
    at_flag true n p r t = absurd t
    at_flag false n p r t = refl

pub event_number : (shares : List ℕ) (d : ℕ) (b : List ℕ) → (event_of shares d b).n ≡ record_number b
unfolding event_of
event_number shares d b = refl

module _ (o : Opening) where
  -- the number that rows show
  abbrev pub shown_after : List (List ℕ) → ℕ
  shown_after [] = first_of o
  shown_after (b ∷ bs) = record_number b

  -- each accepted record met none of the conditions 1 to 8
  abbrev pub AllSound : List (List ℕ) → Type 0
  AllSound [] = Unit {0}
  AllSound (b ∷ bs) = Sound (record_number b) b × AllSound bs

  -- the tracker t beside the accepted records bs, the latest first
  pub record Replays (t : Tracker) (bs : List (List ℕ)) : Type 0 where
    pub awaits : t.awaited ≡ awaited_after o bs
    pub shows : t.shown ≡ shown_after bs
    pub early : awaited_after o bs ≤ suc highest_number
    pub shares : t.shares ≡ shares_of o
    pub settings : t.settings ≡ settings_of o
    pub eight : length t.directions ≡ 8
    pub each : (d : ℕ) → d < 8 → direction_of t d ≡ state_after (settings_of o) d (history o d bs)
    pub turns : (d : ℕ) → InTurn (first_of o) (history o d bs)
    pub sound : AllSound bs

  pub next_is : (d : ℕ) (bs : List (List ℕ)) → next_number (first_of o) (history o d bs) ≡ awaited_after o bs
  unfolding history
  next_is d [] = refl
  next_is d (b ∷ bs) = ap suc (event_number (shares_of o) d b)

  pub first_early : first_of o ≤ highest_number
  first_early = go (opens o) refl
    where
      go : (y : Bool) → opens o ≡ y → first_of o ≤ highest_number
      go true e = rw e (omega (arith, (opened_is o e).in_range))
      go false e = rw e (omega arith)

  start : Replays (open_of o).tracker []
  unfolding open_of history state_after
  start = record { awaits = refl; shows = refl; early = omega (arith, first_early); shares = refl; settings = refl; eight = refl; each = λ d h. get_or-replicate 8 d fresh blank h; turns = λ _. tt; sound = tt }

  -- after one accepted record more
  one_more : (t : Tracker) (bs : List (List ℕ)) (b : List ℕ) → t.awaited ≡ awaited_after o bs → Replays t bs → accepts t.awaited b ≡ true → Replays (advanced t b) (b ∷ bs)
  unfolding history state_after advanced
  one_more t bs b _ r e =
      let sound = accepted_is t.awaited b e in
      record {
        awaits = refl;
        shows = refl;
        early = omega (arith, sound.in_range);
        shares = r.shares;
        settings = r.settings;
        eight = eight_stepped t.settings t.shares b t.directions;
        each = λ d lt. rw (step_at_lem t.settings t.shares b t.directions d lt, r.each d lt, r.shares, r.settings);
        turns = λ d. (event_number (shares_of o) d b ∙ sound.in_turn ∙ r.awaits ∙ sym (next_is d bs), silent (shares_of o) d b, r.turns d);
        sound = (subst (λ (a : ℕ). Sound a b) (sym sound.in_turn) sound, r.sound);
      }

  pub replays : (calls : List Call) → Replays (run_calls o calls) (accepted o calls)
  replays = after_every_list o Replays one_more start
