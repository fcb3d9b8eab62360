-- The bounds of what a tracker keeps, for any that came from an opening and calls: its amount is the claim's sum, and the rest follows
-- from the rules, direction by direction.
-- Assumes nothing.
use mathlib.Core.Path.{◌≡◌, refl, sym, ap, ◌∙◌}
use mathlib.Core.Bool.{Bool, true, false, not, cond, ◌&&◌, ◌||◌}
use mathlib.Core.List.{List, [], ◌∷◌}
use Prim.Native.Nat.{ℕ, suc, ◌+◌, ◌*◌, ◌≤◌, ◌<◌}
use native.Mathlib.Nat.{suc-mul, mul-le-mul_right, le_trans}
use native.Mathlib.Omega.{arith}
use lib.Dec.{eqb}
use lib.IntN.{ℤ, pos, negsuc, nat_abs, ◌+ℤ◌, +ℤ_idl, +ℤ_idr}
use lib.ListN.{length}
use lib.Signed.{lt_z, le_z_yes}
use Rattle.signed.specs.Range.{eq_z, Within}
use Rattle.signed.proofs.NatParts.{signed, below_zero, lt_z_no}
use Rattle.signed.proofs.Calc.{abs-add, inside}
use Rattle.units.specs.declared.Cents.{Cents}
use Rattle.units.specs.declared.Hundredths.{Hundredths}
use Rattle.units.specs.Units.{lower_of_zero, ◌+ʰ◌}
use Rattle.rules.specs.declared.Status.{Status}
use Rattle.rules.specs.declared.Event.{Event}
use Rattle.rules.specs.declared.Sums.{Sums}
use Rattle.rules.specs.declared.Period.{Period}
use Rattle.rules.specs.declared.Period.TheVariants.{None, Held}
use Rattle.rules.specs.declared.Counts.{Counts}
use Rattle.rules.specs.declared.Tracker.{Tracker}
use Rattle.rules.specs.declared.DirectionSettings.{DirectionSettings}
use Rattle.rules.specs.declared.Settings.{Settings}
use Rattle.rules.specs.Settings.{step_for, own_at}
use Rattle.rules.specs.Interval.{place, clears_at, swamped, is_swamped, at_half_hour_start, cleared, grown, rule2, next_of, held, counted, is_unbound, is_violated, quiet, rule5, lower, higher, highest_clamp, clamp_from, band, rule7, sums_after, managed_after, suspended_after, step_of}
use Rattle.rules.specs.History.{clearing, since_clearing, sum_negative, sum_since, state_after}
use Rattle.rules.specs.Record.{record_number, present, prices, lines, pre_dispatch_prices, pre_dispatch_lines, flag, pre_dispatch_residue, event_of}
use Rattle.rules.specs.Refusal.{highest_number, direction_ok}
use Rattle.rules.specs.Tracker.{Opening, first_of, shares_of, settings_of, direction_of, row_of}
use Rattle.rules.specs.Calls.{singly}
use Rattle.rules.specs.Claim.{awaited_after, accepted, history, Came}
use Rattle.rules.specs.Bounds.{highest_residue, highest_next, highest_sum, WithinHalfCent, BoundedPeriod, Bounds, RowBounds}
use Rattle.rules.proofs.Accepted.{Sound}
use Rattle.rules.proofs.AcceptedSettings.{settled, offset_within, threshold_below, direction_ok_lem}
use Rattle.rules.proofs.RecordRanges.{interval_ranged, pre_dispatch_ranged, share_bound}
use Rattle.rules.proofs.CentsAndGrains.{none_left}
use Rattle.rules.proofs.Leftover.{residue_leftover}
use Rattle.rules.proofs.ResidueBounds.{residue_size, lower_size, cond_size}
use Rattle.rules.proofs.SumInvariant.{NonPos, none, some, nonpos_plus, nonpos_low, SumInvariant}
use Rattle.rules.proofs.PeriodInvariant.{Kept}
use Rattle.rules.proofs.Consecutive.{next_number, InTurn}
use Rattle.rules.proofs.OneDirection.{sum_grows, sum_of, kept_of, Got}
use Rattle.rules.proofs.Replay.{Replays, AllSound, shown_after, first_early, next_is}
use Rattle.rules.proofs.Came.{replayed}

-- ---- sums
abs-plus : {a b : ℤ} → NonPos a → NonPos b → nat_abs (a +ℤ b) ≡ nat_abs a + nat_abs b
abs-plus none none = refl
abs-plus none (some k) = ap nat_abs (+ℤ_idl (negsuc k)) ∙ (omega arith)
abs-plus (some k) none = ap nat_abs (+ℤ_idr (negsuc k)) ∙ (omega arith)
abs-plus (some k) (some l) = omega arith

-- no residue of the history is above R either way
abbrev Small : ℕ → List Event → Type 0
Small R [] = Unit {0}
Small R (e ∷ es) = (nat_abs e.residue.0 ≤ R) × Small R es

sum_size : (R : ℕ) (es : List Event) → Small R es → NonPos (sum_since es).0 × (nat_abs (sum_since es).0 ≤ length es * R)
unfolding since_clearing sum_negative
sum_size R [] s = (none, omega arith)
sum_size R (e ∷ es) s = go (clearing (e ∷ es)) (sum_size R es s.1)
  where
    left_over : Bool → Cents
    left_over y = sum_negative (cond y [] (e ∷ since_clearing es))

    go : (y : Bool) → NonPos (sum_since es).0 × (nat_abs (sum_since es).0 ≤ length es * R) → NonPos (left_over y).0 × (nat_abs (left_over y).0 ≤ suc (length es) * R)
    go true k = (none, omega arith)
    go false k =
        let l = nonpos_low e.residue.0 in
        rw (sum_grows e (since_clearing es)) (nonpos_plus k.0 l, omega (arith, abs-plus k.0 l, lower_size e.residue, s.0, k.1, suc-mul (length es) R))

-- rules 1 and 2 let net grow by r at most
net_at_start : (b : Bool) (s : Sums) → nat_abs (at_half_hour_start b s).net.0 ≤ nat_abs s.net.0
net_at_start true s = omega arith
net_at_start false s = omega arith

net_cleared : (b : Bool) (s : Sums) → (cleared b s).net ≡ s.net
net_cleared true s = refl
net_cleared false s = refl

net_rule2 : (flag clears : Bool) (r : Cents) (s : Sums) → nat_abs (rule2 flag clears r s).net.0 ≤ nat_abs s.net.0 + nat_abs r.0
net_rule2 false clears r s = omega arith
net_rule2 true clears r s = rw (net_cleared (eq_z (grown r s).current.0 (pos 0) && clears) (grown r s)) (abs-add s.net.0 r.0)

net_size : (set : Settings) (d R : ℕ) (es : List Event) → Small R es → nat_abs (state_after set d es).sums.net.0 ≤ length es * R
unfolding state_after step_of
net_size set d R [] s = omega arith
net_size set d R (e ∷ es) s =
    let old = (state_after set d es).sums in
    let begins = eqb (place e.n) 0 in
    omega (arith, net_rule2 e.flag (clears_at (place e.n)) e.residue (at_half_hour_start begins old), net_at_start begins old, net_size set d R es s.1, s.0, suc-mul (length es) R)

-- ---- counts and clamp
counted_size : (b : Bool) (count : ℕ) → counted b count ≤ 3
counted_size true count = omega arith
counted_size false count = omega arith

pub record CountsBounds (c : Counts) : Type 0 where
  pub unbound : c.unbound ≤ 3
  pub violated : c.violated ≤ 3

rule5_size : (before : Bool) (status : Status) (clamp : Hundredths) (current : Cents) (after : Period) (counts : Counts) → CountsBounds (rule5 before status clamp current after counts)
rule5_size before status clamp current after counts = record {
  unbound = counted_size (quiet before clamp current after && is_unbound status) counts.unbound;
  violated = counted_size (quiet before clamp current after && is_violated status) counts.violated;
}

counts_size : (set : Settings) (d : ℕ) (es : List Event) → CountsBounds (state_after set d es).counts
unfolding state_after step_of
counts_size set d [] = record { unbound = omega arith; violated = omega arith }
counts_size set d (e ∷ es) =
    let s = state_after set d es in
    rule5_size (held s.period) e.status s.clamp (sums_after e s).current (managed_after set e s).period s.counts

lower_most : (a b : Hundredths) → Within (pos 0) (pos 1000000) b.0 → Within (pos 0) (pos 1000000) (higher b (lower a highest_clamp)).0
lower_most a b w = go (lt_z a.0 (pos 1000000)) refl
  where
    top : (x : Hundredths) (t : Bool) → lt_z b.0 x.0 ≡ t → lt_z (pos 1000000) x.0 ≡ false → Within (pos 0) (pos 1000000) (cond t x b).0
    top x true e l = record { low = omega (arith, signed, w.low); high = omega (arith, signed) }
    top x false e l = w

    go : (t : Bool) → lt_z a.0 (pos 1000000) ≡ t → Within (pos 0) (pos 1000000) (higher b (cond t a highest_clamp)).0
    go true e = top a (lt_z b.0 a.0) refl (omega (arith, signed))
    go false e = top highest_clamp (lt_z b.0 (pos 1000000)) refl (omega (arith, signed))

wider : {z : ℤ} → Within (pos 0) (pos 1000000) z → Within (pos 0) (pos 2000000) z
wider w = record { low = w.low; high = omega (arith, signed, w.high) }

below_cap : {z : ℤ} → Within (pos 0) (pos 100000) z → Within (pos 0) (pos 1000000) z
below_cap w = record { low = w.low; high = omega (arith, signed, w.high) }

clamp_cond : (t : Bool) (x : Hundredths) → Within (pos 0) (pos 2000000) x.0 → Within (pos 0) (pos 2000000) (cond t swamped x).0
clamp_cond true x w = record { low = le_z_yes tt; high = le_z_yes tt }
clamp_cond false x w = w

-- of a direction whose steps and offset are accepted
rule7_size : (edges : List Cents) (own : DirectionSettings) → direction_ok own ≡ true → (blocked : Bool) (target : Hundredths) (p : Period) (suspended : Bool) (net : Cents) (clamp : Hundredths) → Within (pos 0) (pos 2000000) (rule7 edges own blocked target p suspended net clamp).0
rule7_size edges own ok blocked target p suspended net clamp =
    let base = cond (is_swamped clamp) target clamp in
    let step = step_for own.steps (band edges net) in
    clamp_cond (not (held p) || (suspended || blocked)) (clamp_from base step own.offset) (wider (lower_most (base +ʰ step) own.offset (below_cap (offset_within own ok))))

clamp_size : (set : Settings) (d : ℕ) → direction_ok (own_at set.directions d) ≡ true → (es : List Event) → Within (pos 0) (pos 2000000) (state_after set d es).clamp.0
unfolding state_after step_of
clamp_size set d ok [] = record { low = le_z_yes tt; high = le_z_yes tt }
clamp_size set d ok (e ∷ es) =
    let s = state_after set d es in
    rule7_size set.edges (own_at set.directions d) ok e.blocked e.target (managed_after set e s).period (suspended_after set e s) (sums_after e s).net s.clamp

-- ---- the period, and how many intervals there are
period_size : (Was : ℕ → Type 0) (a : ℕ) (p : Period) → Kept Was a p → BoundedPeriod a p
period_size Was a None s = tt
period_size Was a (Held first last x) s = record { begun = s.from; ends = omega (arith, s.recent) }

counted_on : (first : ℕ) (es : List Event) → InTurn first es → length es + first ≡ next_number first es
counted_on first [] t = omega arith
counted_on first (e ∷ es) t = omega (arith, counted_on first es t.2, t.0)

-- ---- of the tracker
module _ (o : Opening) (d : ℕ) where
  pub event_size : (b : List ℕ) → Sound (record_number b) b
      → (nat_abs (event_of (shares_of o) d b).residue.0 ≤ highest_residue) × (nat_abs (event_of (shares_of o) d b).next.0 ≤ highest_next)
      × WithinHalfCent (event_of (shares_of o) d b).leftover
  unfolding event_of next_of
  event_size b s =
      let shares = share_bound o in (
        residue_size (prices b) (shares_of o) (lines b) 1000000 200000 (interval_ranged (record_number b) b s) shares d,
        cond_size (flag (shares_of o) b d && (eqb (place (record_number b)) 5 && present b)) (lower_of_zero (pre_dispatch_residue (shares_of o) b d).cents) highest_next
            (le_trans (lower_size (pre_dispatch_residue (shares_of o) b d).cents) (residue_size (pre_dispatch_prices b) (shares_of o) (pre_dispatch_lines b) 6000000 1200000 (pre_dispatch_ranged (record_number b) b s) shares d)),
        residue_leftover (prices b) (shares_of o) (lines b) d,
      )

  small : (bs : List (List ℕ)) → AllSound o bs → Small highest_residue (history o d bs)
  unfolding history
  small [] s = tt
  small (b ∷ bs) s = ((event_size b s.0).0, small bs s.1)

  latest_size : (bs : List (List ℕ)) → AllSound o bs → (nat_abs (state_after (settings_of o) d (history o d bs)).residue.0 ≤ highest_residue) × (nat_abs (state_after (settings_of o) d (history o d bs)).next.0 ≤ highest_next) × WithinHalfCent (state_after (settings_of o) d (history o d bs)).leftover
  unfolding history state_after step_of
  latest_size [] s = (omega arith, omega arith, none_left)
  latest_size (b ∷ bs) s = event_size b s.0

  state_bounds : d < 8 → (t : Tracker) (bs : List (List ℕ)) → Replays o t bs → Bounds (awaited_after o bs) (state_after (settings_of o) d (history o d bs))
  state_bounds lt t bs r =
      let set = settings_of o in
      let ok = settled o in
      let es = history o d bs in
      let turn = r.turns d in
      let b : SumInvariant (sum_since es).0 _ (state_after set d es).sums = sum_of set d (first_of o) es turn in
      let few : length es ≤ suc highest_number = omega (arith, counted_on (first_of o) es turn, next_is o d bs, r.early) in
      let most : length es * highest_residue ≤ highest_sum = mul-le-mul_right highest_residue few in
      let whole = abs-plus b.old b.below in
      let total = ap nat_abs b.total in
      let size = (sum_size highest_residue es (small bs r.sound)).1 in
      let counts = counts_size set d es in
      let latest = latest_size bs r.sound in
      record {
        previous = omega arith;
        current = omega arith;
        amount = omega arith;
        net = le_trans (net_size set d highest_residue es (small bs r.sound)) most;
        residue = latest.0;
        next = latest.1;
        leftover = latest.2;
        period = rw (← next_is o d bs) (period_size (Got set es) (next_number (first_of o) es) (state_after set d es).period (kept_of set d (threshold_below set ok) (first_of o) es turn));
        unbound = counts.unbound;
        violated = counts.violated;
        clamp = clamp_size set d (direction_ok_lem set ok d lt) es;
      }

-- Any tracker that came from an opening and calls: its numbers, and what it keeps of each direction.
pub record TrackerBounds (t : Tracker) : Type 0 where
  pub shown : t.shown ≤ highest_number
  pub awaited : t.awaited ≤ suc highest_number
  pub each : (d : ℕ) → d < 8 → Bounds t.awaited (direction_of t d)

shown_size : (o : Opening) (bs : List (List ℕ)) → AllSound o bs → shown_after o bs ≤ highest_number
shown_size o [] s = first_early o
shown_size o (b ∷ bs) s = s.0.in_range

pub bounds : (t : Tracker) → Came t → TrackerBounds t
bounds t came =
    let o = came.opening in
    let bs = accepted o (singly came.calls) in
    let r = replayed t came in
    record {
      shown = rw r.shows (shown_size o bs r.sound);
      awaited = rw r.awaits r.early;
      each = λ d lt. rw (r.each d lt, r.awaits) (state_bounds o d lt t bs r);
    }

-- and its rows
pub row_bounds : (t : Tracker) → Came t → (d : ℕ) → d < 8 → RowBounds (row_of t d)
unfolding row_of
row_bounds t came d l =
    let all = bounds t came in
    let b = all.each d l in
    let s = (direction_of t d).sums in
    let z = (direction_of t d).clamp.0 in
    record {
      n = all.shown;
      direction = l;
      residue = b.residue;
      previous = b.previous;
      current = b.current;
      amount = le_trans (abs-add s.previous.0 s.current.0) b.amount;
      next = b.next;
      net = b.net;
      clamp = (inside b.clamp).size;
      unsigned = sym (below_zero z) ∙ lt_z_no z (pos 0) (omega (arith, signed, b.clamp.low));
      leftover = b.leftover;
    }
