-- Settings that an opening accepts (N2): each value is inside its span, and the edges rise strictly. A tracker's settings are such: those of an
-- accepted opening or, beside a refused one, document 01's.
-- Assumes nothing.
use mathlib.Core.Path.{◌≡◌, refl}
use mathlib.Core.Bool.{Bool, true, false, cond, false≢true}
use mathlib.Core.List.{List}
use Prim.Native.Nat.{ℕ, zero, suc, ◌≤◌, ◌<◌}
use native.Mathlib.Omega.{arith}
use borrow.Author.Tests.{leb-true}
use lib.Dec.{T}
use lib.IntN.{ℤ, pos, negsuc, nat_abs}
use lib.ListN.{take}
use Rattle.signed.specs.Range.{negative, Within}
use Rattle.signed.proofs.NatParts.{signed, passed, lt_z_yes, lt_z_no}
use Rattle.units.specs.declared.Cents.{Cents}
use Rattle.units.specs.Units.{cents, hundredths}
use Rattle.rules.specs.declared.DirectionSettings.{DirectionSettings}
use Rattle.rules.specs.declared.Settings.{Settings}
use Rattle.rules.specs.Market.{of_directions}
use Rattle.rules.specs.Settings.{threshold_ok, edge_at, step_for, step_ok, offset_ok, own_at, document01}
use Rattle.rules.specs.Interval.{band}
use Rattle.rules.specs.Refusal.{judged, each, edges_ok, steps_ok, direction_ok, inside_spans, rises_at, rising, open_conditions, open_outcome}
use Rattle.rules.specs.Tracker.{Opening, opens, opening, settings_of}
use Rattle.rules.proofs.EachBelow.{both_true, each_at}
use Rattle.rules.proofs.Directions.{at_direction}
use Rattle.rules.proofs.Accepted.{Settled, opened_is}

pub document01_settled : Settled document01
unfolding each inside_spans rising
document01_settled = record { inside = refl; rises = refl }

-- The settings of every opening, accepted or refused.
pub settled : (o : Opening) → Settled (settings_of o)
settled o = go (opens o) refl
  where
    go : (y : Bool) → opens o ≡ y → Settled (settings_of o)
    go true e = rw e (search ((opened_is o e).settings, document01_settled))
    go false e = rw e (search document01_settled)

-- ---- none given
-- Document 01's numbers are the settings when none are given.
pub none_given : (first : ℕ) (shares : List ℕ) → settings_of (opening first shares) ≡ document01
none_given first shares = go (opens (opening first shares))
  where
    go : (y : Bool) → cond y document01 document01 ≡ document01
    go true = refl
    go false = refl

-- With them an opening is judged by 9 and 10 alone.
pub nine_or_ten : (first : ℕ) (shares : List ℕ) → open_outcome first shares document01 ≡ judged (take 2 (open_conditions first shares document01))
unfolding open_outcome open_conditions
nine_or_ten first shares = rw (document01_settled.inside, document01_settled.rises)

-- ---- what the spans give
below_zero : (z : ℤ) → threshold_ok (cents z) ≡ true → T (negative z)
below_zero (pos n) e = absurd (false≢true e)
below_zero (negsuc n) e = tt

module _ (set : Settings) (ok : Settled set) where
  -- The threshold is below zero: at zero, a direction without any residue would be at it.
  pub threshold_below : T (negative set.threshold.0)
  unfolding inside_spans
  threshold_below = below_zero set.threshold.0 (both_true (threshold_ok set.threshold) _ ok.inside).0

  pub direction_ok_lem : (d : ℕ) → d < 8 → direction_ok (own_at set.directions d) ≡ true
  unfolding inside_spans
  direction_ok_lem d l =
      let spans = both_true (edges_ok set.edges) _ (both_true (threshold_ok set.threshold) _ ok.inside).1 in
      each_at (λ d. direction_ok (own_at set.directions d)) 8 spans.1 d l

-- Of a direction's steps and offset.
step_bound : (z : ℤ) → step_ok (hundredths z) ≡ true → nat_abs z ≤ 100000
step_bound (negsuc n) e = omega (arith, leb-true n _ (both_true _ _ e).0)
step_bound (pos n) e = omega (arith, leb-true n _ e)

offset_bound : (z : ℤ) → offset_ok (hundredths z) ≡ true → Within (pos 0) (pos 100000) z
offset_bound (negsuc n) e = absurd (false≢true e)
offset_bound (pos n) e = passed (pos 0) (pos 100000) (pos n) e

module _ (own : DirectionSettings) (ok : direction_ok own ≡ true) where
  -- A step is 100,000 at most, either way;
  pub step_size : (band : ℕ) → band < 4 → nat_abs (step_for own.steps band).0 ≤ 100000
  step_size band l = step_bound (step_for own.steps band).0 (each_at (λ band. step_ok (step_for own.steps band)) 4 (both_true (steps_ok own.steps) _ ok).0 band l)

  -- an offset is from 0 to 100,000.
  pub offset_within : Within (pos 0) (pos 100000) own.offset.0
  offset_within = offset_bound own.offset.0 (both_true (steps_ok own.steps) _ ok).1

-- ---- what rising edges give
-- Each edge begins the band after it, so that there is a net for each band above the first.
pub begins_band : (edges : List Cents) → rising edges ≡ true → (i : ℕ) → i < 3 → band edges (edge_at edges i) ≡ suc i
unfolding each rising
begins_band edges rises zero l =
    let a = (edge_at edges 0).0 in
    let b = (edge_at edges 1).0 in
    let two = both_true (rises_at edges 0) (rises_at edges 1) rises in
    rw (lt_z_no a a (omega arith), lt_z_yes a b (omega (arith, signed, two.0)))
begins_band edges rises (suc zero) l =
    let a = (edge_at edges 0).0 in
    let b = (edge_at edges 1).0 in
    let c = (edge_at edges 2).0 in
    let two = both_true (rises_at edges 0) (rises_at edges 1) rises in
    rw (lt_z_no b a (omega (arith, signed, two.0)), lt_z_no b b (omega arith), lt_z_yes b c (omega (arith, signed, two.1)))
begins_band edges rises (suc (suc zero)) l =
    let a = (edge_at edges 0).0 in
    let b = (edge_at edges 1).0 in
    let c = (edge_at edges 2).0 in
    let two = both_true (rises_at edges 0) (rises_at edges 1) rises in
    rw (lt_z_no c a (omega (arith, signed, two.0, two.1)), lt_z_no c b (omega (arith, signed, two.1)), lt_z_no c c (omega arith))
begins_band edges rises (suc (suc (suc i))) l = absurd (omega arith)

-- ---- the settings of each direction are its own
pub own_settings : (f : ℕ → DirectionSettings) (d : ℕ) → d < 8 → own_at (of_directions f) d ≡ f d
own_settings f d l = at_direction f _ d l
