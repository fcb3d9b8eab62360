-- What follows from the claim alone, of each of the eight directions: a weaker claim would not give it.
-- Assumes nothing.
use mathlib.Core.Path.{◌≡◌, ap}
use mathlib.Core.Bool.{not}
use mathlib.Core.List.{List, [], ◌∷◌}
use Prim.Native.Nat.{ℕ, ◌*◌, ◌≤◌, ◌<◌}
use native.Mathlib.Omega.{arith}
use lib.Dec.{T, not_T}
use lib.IntN.{pos, nat_abs, ◌+ℤ◌, ◌-ℤ◌, ◌*ℤ◌}
use lib.ListN.{length, drop}
use lib.Signed.{le_z}
use Rattle.units.specs.Units.{cents, grains, ◌+ᶜ◌}
use Rattle.rules.specs.declared.Event.{Event}
use Rattle.rules.specs.declared.Settings.{Settings}
use Rattle.rules.specs.declared.Tracker.{Tracker}
use Rattle.rules.specs.declared.Row.{Row}
use Rattle.rules.specs.History.{sum_since, estimate, under_review, got_there, lies_in}
use Rattle.rules.specs.Record.{record_number, residue, flag, next, event_of}
use Rattle.rules.specs.Rounding.{span, assigned_of, assigned_span, unrounded}
use Rattle.rules.specs.Tracker.{Opening, first_of, shares_of, settings_of, row_of}
use Rattle.rules.specs.Calls.{Call}
use Rattle.rules.specs.Claim.{awaited_after, accepted, history, worked_row, awaited_from, DirectionClaim, Claim}

-- None of the last twelve accepted intervals of a history got there without review, under these settings.
abbrev pub NoCause : Settings → List Event → Type 0
NoCause set es = (i : ℕ) → i < 12 → i < length es → T (got_there set (drop i es)) → T (not (under_review (drop i es))) → ⊥

-- What follows of a row r of which the five parts hold, after an opening o and the accepted records bs, in direction d.
module _ {o : Opening} {d : ℕ} {bs : List (List ℕ)} {r : Row} (claim : DirectionClaim o d bs r) where
  -- With no cause in the last twelve the next interval does not lie in the row's period.
  pub not_without_cause : NoCause (settings_of o) (history o d bs) → T (not (lies_in (awaited_after o bs) r.period))
  not_without_cause no-cause = not_T (lies_in (awaited_after o bs) r.period) (λ inside.
      let cause = claim.caused inside in
      no-cause cause.ago (omega (arith, cause.recent)) cause.accepted cause.got cause.unreviewed)

  -- At the threshold or less, and not under review, the next interval lies in the row's period.
  pub clamped_at : T (le_z ((sum_since (history o d bs)).0 +ℤ (estimate (history o d bs)).0) (settings_of o).threshold.0)
      → T (not (under_review (history o d bs)))
      → T (lies_in (awaited_after o bs) r.period)
  clamped_at low unreviewed = claim.clamped low unreviewed

  -- The row's amount is the sum.
  pub amount_is : r.amount ≡ sum_since (history o d bs)
  amount_is = claim.sum

  -- With 2,400,000 grains for each of its cents the row's amount differs from the unrounded sum by at most 1,200,000 for each interval in the span in
  -- which the grains were assigned to the direction (N9).
  pub amount_near : nat_abs ((unrounded (shares_of o) d bs).0 -ℤ pos 2400000 *ℤ r.amount.0) ≤ 1200000 * length (assigned_span (shares_of o) d bs)
  amount_near = omega (arith, claim.rounding.near)

  -- The row's amount and the unrounded sum are 0.
  abbrev BothZero : Type 0
  BothZero = (r.amount ≡ cents (pos 0)) × (unrounded (shares_of o) d bs ≡ grains (pos 0))

  -- They are so with no interval in the span in which the grains were assigned to the direction.
  pub none_assigned : assigned_span (shares_of o) d bs ≡ [] → BothZero
  none_assigned e = claim.rounding.both_zero e

  -- They are so with no interval in the span at all.
  pub none_in_span : span (shares_of o) d bs ≡ [] → BothZero
  unfolding assigned_of
  none_in_span e = none_assigned (ap (assigned_of (shares_of o) d) e)

-- The same of each of the eight rows of a tracker, from the claim of an opening and any list of calls.
module _ (o : Opening) (calls : List Call) (t : Tracker) (claim : Claim o calls t) (d : ℕ) (below : d < 8) where
  abbrev own : List Event
  own = history o d (accepted o calls)

  abbrev its_row : Row
  its_row = row_of t d

  of_direction : DirectionClaim o d (accepted o calls) its_row
  of_direction = claim.each d (omega arith)

  -- With no cause in the last twelve the next interval does not lie in the row's period.
  pub tracker_not_without_cause : NoCause (settings_of o) own → T (not (lies_in (awaited_from o calls) its_row.period))
  tracker_not_without_cause = not_without_cause of_direction

  -- At the threshold or less, and not under review, the next interval lies in the row's period.
  pub tracker_clamped_at : T (le_z ((sum_since own).0 +ℤ (estimate own).0) (settings_of o).threshold.0) → T (not (under_review own)) → T (lies_in (awaited_from o calls) its_row.period)
  tracker_clamped_at = clamped_at of_direction

  -- The row's amount is as near the unrounded sum as N9 says.
  pub tracker_near : nat_abs ((unrounded (shares_of o) d (accepted o calls)).0 -ℤ pos 2400000 *ℤ its_row.amount.0) ≤ 1200000 * length (assigned_span (shares_of o) d (accepted o calls))
  tracker_near = amount_near of_direction

  -- Previous and current together are the sum.
  pub sum_in_two : its_row.previous +ᶜ its_row.current ≡ sum_since own
  unfolding row_of
  sum_in_two = amount_is of_direction

  -- The row shows the latest accepted interval: n, r, next, flag and the leftover (N8) follow from its record b and the shares.
  pub shows_latest : (b : List ℕ) (bs : List (List ℕ)) → accepted o calls ≡ b ∷ bs
      → (its_row.n ≡ record_number b) × (its_row.residue ≡ (residue (shares_of o) b d).cents) × (its_row.next ≡ next (shares_of o) b d) × (its_row.flag ≡ flag (shares_of o) b d) × (its_row.leftover ≡ (residue (shares_of o) b d).leftover)
  unfolding history worked_row event_of
  shows_latest b bs e =
      let is : its_row ≡ worked_row (settings_of o) (first_of o) d (history o d (b ∷ bs)) = rw e at of_direction.is_worked in
      (ap (λ (r : Row). r.n) is, ap (λ (r : Row). r.residue) is, ap (λ (r : Row). r.next) is, ap (λ (r : Row). r.flag) is, ap (λ (r : Row). r.leftover) is)
