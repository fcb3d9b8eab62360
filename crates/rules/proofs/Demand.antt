-- Demand 3, for every opening, with any settings (N2), every list of calls, on a lent tracker (N14) and of sets (N10) among them, and every
-- direction.
-- Assumes nothing.
use mathlib.Core.Path.{◌≡◌, refl, sym, ap, subst}
use mathlib.Core.Bool.{Bool, true, false, not, cond}
use mathlib.Core.List.{List, [], ◌∷◌}
use Prim.Native.Nat.{ℕ, ◌<◌}
use native.Mathlib.Omega.{arith}
use lib.Dec.{T}
use lib.IntN.{ℤ}
use Rattle.units.specs.Units.{cents}
use Rattle.rules.specs.declared.Direction.{Direction}
use Rattle.rules.specs.declared.Tracker.{Tracker}
use Rattle.rules.specs.declared.Row.{Row}
use Rattle.rules.specs.Interval.{step_of}
use Rattle.rules.specs.History.{state_after}
use Rattle.rules.specs.Record.{event_of}
use Rattle.rules.specs.Rounding.{Rounding}
use Rattle.rules.specs.Tracker.{Opening, first_of, shares_of, settings_of, accepts, advanced, interval_of, after, row, row_of}
use Rattle.rules.specs.Calls.{Call, run_calls}
use Rattle.rules.specs.Claim.{accepted, history, worked_row, DirectionClaim, ClaimOf, Claim}
use Rattle.rules.proofs.AcceptedSettings.{settled, threshold_below}
use Rattle.rules.proofs.PeriodInvariant.{recent_of}
use Rattle.rules.proofs.Consecutive.{next_number}
use Rattle.rules.proofs.OneDirection.{sum_of, kept_of, inside_of, Got}
use Rattle.rules.proofs.Rounding.{direction_rounding}
use Rattle.rules.proofs.Replay.{Replays, replays, shown_after, next_is}

refused : (t : Tracker) (b : List ℕ) → T (not (accepts t.awaited b)) → after t b ≡ t
unfolding interval_of
refused t b n = go (accepts t.awaited b) n
  where
    go : (y : Bool) → T (not y) → cond y (advanced t b) t ≡ t
    go true n = absurd n
    go false n = refl

abbrev row_with : ℕ → ℕ → Direction → Row
row_with n d s = row n d s.residue s.next s.blocked s.flag s.leftover s

-- the row shown of a history replayed is the one worked out
worked : (o : Opening) (d : ℕ) (bs : List (List ℕ)) → row_with (shown_after o bs) d (state_after (settings_of o) d (history o d bs)) ≡ worked_row (settings_of o) (first_of o) d (history o d bs)
unfolding history state_after step_of worked_row event_of
worked o d [] = refl
worked o d (b ∷ bs) = refl

module _ (o : Opening) (t : Tracker) (bs : List (List ℕ)) (r : Replays o t bs) where
  row_is : (d : ℕ) → d < 8 → row_of t d ≡ row_with (shown_after o bs) d (state_after (settings_of o) d (history o d bs))
  unfolding row_of
  row_is d lt = rw (r.shows, r.each d lt)

  direction : (d : ℕ) → d < 8 → DirectionClaim o d bs (row_of t d)
  unfolding history
  direction d lt =
      let es = history o d bs in
      let turn = r.turns d in
      let set = settings_of o in
      let below = threshold_below set (settled o) in
      let recent = recent_of (Got set es) (next_number (first_of o) es) (state_after set d es).period (kept_of set d below (first_of o) es turn) in
      let total = ap (λ (z : ℤ). cents z) (sum_of set d (first_of o) es turn).total in
      rw (row_is d lt) (record {
        is_worked = worked o d bs;
        sum = total;
        clamped = rw (← next_is o d bs) (inside_of set d below (first_of o) es turn);
        caused = rw (← next_is o d bs) (λ inside.
            let w = recent inside in
            record { ago = w.0; recent = omega (arith, w.1, w.2.0); accepted = w.2.0; got = w.2.1; unreviewed = w.2.2 });
        rounding = subst (Rounding (shares_of o) d bs) (sym total) (direction_rounding (shares_of o) d bs);
      })

  pub claim_of : ClaimOf o bs t
  claim_of = record { awaits = r.awaits; eight = r.eight; hands_on = λ b n. refused t b (rw r.awaits n); each = λ d lt. direction d (omega arith) }

pub demand3 : (o : Opening) (calls : List Call) → Claim o calls (run_calls o calls)
demand3 o calls = claim_of o (run_calls o calls) (accepted o calls) (replays o calls)
