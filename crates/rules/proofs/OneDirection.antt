-- The claim of one direction's history: what the rules make of a list of accepted intervals, by recursion on that list, the latest first.
-- It holds under all settings whose threshold is below zero.
-- Assumes nothing.
use mathlib.Core.Path.{◌≡◌, refl, sym, ◌∙◌, subst}
use mathlib.Core.Bool.{Bool, true, false, not, cond, ◌&&◌, ◌||◌}
use mathlib.Core.List.{List, [], ◌∷◌}
use Prim.Native.Nat.{ℕ, suc, ◌<◌}
use native.Mathlib.Omega.{arith}
use lib.Dec.{T, eqb}
use lib.IntN.{ℤ, pos, negsuc, ◌+ℤ◌, +ℤ_idr}
use lib.ListN.{length, drop}
use lib.Signed.{lt_z}
use mir.Facts.{and_yes, yes_and}
use Rattle.signed.specs.Range.{negative}
use Rattle.signed.proofs.NatParts.{signed, below_zero}
use Rattle.units.specs.declared.Cents.{Cents}
use Rattle.units.specs.Units.{cents, ◌+ᶜ◌}
use Rattle.rules.specs.declared.Event.{Event}
use Rattle.rules.specs.declared.Sums.{Sums}
use Rattle.rules.specs.declared.Settings.{Settings}
use Rattle.rules.specs.Interval.{place, clears_at, at_half_hour_start, rule1, rule2, amount, at_threshold, reached, step_of}
use Rattle.rules.specs.History.{latest_half_hour, any_negative, clearing, since_clearing, sum_negative, sum_since, under_review, got_there, lies_in, state_after}
use Rattle.rules.proofs.SumInvariant.{SumInvariant, invariant_fresh, invariant_at_start, invariant_rule2, low}
use Rattle.rules.proofs.PeriodInvariant.{Kept, T_true, advance}
use Rattle.rules.proofs.Consecutive.{next_number, InTurn, latest_half_hour_lem}

-- ---- the sum
-- One interval more adds the lower of its r and 0: that is its negative r, or nothing.
pub sum_grows : (e : Event) (es : List Event) → (sum_negative (e ∷ es)).0 ≡ (sum_negative es).0 +ℤ low e.residue.0
unfolding sum_negative
sum_grows e es = go e.residue.0 refl
  where
    go : (r : ℤ) → e.residue.0 ≡ r → (sum_negative (e ∷ es)).0 ≡ (sum_negative es).0 +ℤ low r
    go (pos k) is = rw is (sym (+ℤ_idr _))
    go (negsuc k) is = rw is

sum_cond : (c : Bool) (e : Event) (es : List Event) → (sum_negative (cond c [] (e ∷ es))).0 ≡ cond c (pos 0) ((sum_negative es).0 +ℤ low e.residue.0)
unfolding sum_negative
sum_cond true e es = refl
sum_cond false e es = sum_grows e es

history_at_start : (begins : Bool) (es : List Event) {sum : ℤ} {s : Sums} → SumInvariant sum (any_negative es) s → SumInvariant sum (any_negative (cond begins [] es)) (at_half_hour_start begins s)
unfolding any_negative
history_at_start true es b = invariant_at_start true b
history_at_start false es b = b

seen_next : (first : ℕ) (e : Event) (es : List Event) → InTurn first (e ∷ es) → any_negative (latest_half_hour (e ∷ es)) ≡ (negative e.residue.0 || any_negative (cond (eqb (place e.n) 0) [] (latest_half_hour es)))
unfolding any_negative
seen_next first e es t = rw (latest_half_hour_lem first e es t)

-- ---- the period
-- i intervals ago the direction got there, without review
abbrev pub Got : Settings → List Event → ℕ → Type 0
Got set es i = (i < length es) × T (got_there set (drop i es)) × T (not (under_review (drop i es)))

-- nothing at all does not get there: the threshold is below zero
zero_above : (set : Settings) → T (negative set.threshold.0) → T (at_threshold set.threshold (cents (pos 0))) → ⊥
zero_above set below t =
    let th = set.threshold.0 in
    let e : at_threshold set.threshold (cents (pos 0)) ≡ true = T_true (at_threshold set.threshold (cents (pos 0))) t in
    let n : lt_z th (pos 0) ≡ true = below_zero th ∙ T_true (negative th) below in
    omega (arith, signed)

-- an interval gets there only at flag 1
applied : (set : Settings) → T (negative set.threshold.0) → (flag clears v : Bool) (r next : Cents) (s : Sums) → (T (not flag) → next.0 ≡ pos 0) → T (at_threshold set.threshold (amount (rule2 flag clears r s) +ᶜ next) && not v) → T flag
applied set below true clears v r next s z t = tt
applied set below false clears v r next s z t =
    absurd (zero_above set below (and_yes (at_threshold set.threshold (cents (pos 0))) (not v) (subst (λ (x : ℤ). T (at_threshold set.threshold (cents (pos 0 +ℤ x)) && not v)) (z tt) t)).0)

module _ (set : Settings) (d : ℕ) where
  sum_fresh : SumInvariant (sum_since []).0 (any_negative (latest_half_hour [])) (state_after set d []).sums
  unfolding latest_half_hour any_negative since_clearing sum_negative state_after
  sum_fresh = invariant_fresh

  pub sum_of : (first : ℕ) (es : List Event) → InTurn first es → SumInvariant (sum_since es).0 (any_negative (latest_half_hour es)) (state_after set d es).sums
  unfolding clearing since_clearing state_after step_of
  sum_of first [] t = sum_fresh
  sum_of first (e ∷ es) t =
      let begins = eqb (place e.n) 0 in
      let seen = any_negative (cond begins [] (latest_half_hour es)) in
      rw (sum_cond (clearing (e ∷ es)) e (since_clearing es), seen_next first e es t)
      (invariant_rule2 e.flag (place e.n) e.residue.0 seen (history_at_start begins (latest_half_hour es) (sum_of first es t.2)))

  module _ (below : T (negative set.threshold.0)) (first : ℕ) where
    -- one interval, and all
    step : (e : Event) (es : List Event) → InTurn first (e ∷ es) → Kept (Got set es) e.n (state_after set d es).period
        → Kept (Got set (e ∷ es)) (suc e.n) (state_after set d (e ∷ es)).period
        × (T (reached set.threshold e (amount (state_after set d (e ∷ es)).sums)) → T (lies_in (suc e.n) (state_after set d (e ∷ es)).period))
    unfolding state_after step_of
    step e es turn s =
        let old = rule1 e.n (state_after set d es).sums in
        let sums = rule2 e.flag (clears_at (place e.n)) e.residue old in
        let got : Bool = reached set.threshold e (amount sums) in
        advance (Got set es) (Got set (e ∷ es)) (λ i w. (omega (arith, w.0), w.1, w.2)) e.n e.flag got (state_after set d es).period
        (applied set below e.flag (clears_at (place e.n)) e.review e.residue e.next old turn.1)
        (λ t. let u : T (reached set.threshold e (sum_since (e ∷ es))) = subst (λ (z : ℤ). T (reached set.threshold e (cents z))) (sum_of first (e ∷ es) turn).total t in
        let both = and_yes (got_there set (e ∷ es)) (not e.review) u in (omega arith, both.0, both.1))
        s

    pub kept_of : (es : List Event) → InTurn first es → Kept (Got set es) (next_number first es) (state_after set d es).period
    unfolding state_after
    kept_of [] t = tt
    kept_of (e ∷ es) t = (step e es t (rw t.0 (kept_of es t.2))).0

    pub inside_of : (es : List Event) → InTurn first es → T (got_there set es) → T (not (under_review es)) → T (lies_in (next_number first es) (state_after set d es).period)
    unfolding since_clearing sum_negative
    inside_of [] t g v = absurd (zero_above set below g)
    inside_of (e ∷ es) t g v = (step e es t (rw t.0 (kept_of es t.2))).1
        (subst (λ (z : ℤ). T (reached set.threshold e (cents z))) (sym (sum_of first (e ∷ es) t).total) (yes_and (got_there set (e ∷ es)) (not e.review) g v))
