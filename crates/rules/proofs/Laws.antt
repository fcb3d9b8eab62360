-- Laws that pin half-hour and place, flags, residue, loop flag and next from outside, since they serve the calls and the claim alike, so that neither
-- would show a wrong one; rule 2's clearing; and what ends a suspension.
-- Assumes nothing.
use mathlib.Core.Path.{◌≡◌, refl, sym, ap, ap₂, ◌∙◌}
use mathlib.Core.Bool.{Bool, true, false, not, cond, ◌&&◌, ◌||◌, beq, false≢true, and-false}
use mathlib.Core.List.{List, [], ◌∷◌, ◌++◌, map}
use mathlib.Core.Logic.{◌↔◌, ◌≢◌}
use Prim.Native.Nat.{ℕ, ◌+◌, ◌*◌, ◌%◌, ◌≤◌, ◌<◌}
use native.Mathlib.Omega.{arith}
use borrow.Author.Tests.{le-leb, lt-leb, eq-eqb, ne_eqb}
use lib.Dec.{eqb}
use lib.IntN.{ℤ, pos, negsuc, ◌+ℤ◌, ◌-ℤ◌, ◌*ℤ◌, +ℤ_idl, +ℤ_idr, zero-*ℤ}
use lib.ListN.{get_or, replicate}
use lib.Signed.{lt_z, ◌≤ℤ◌}
use Rattle.signed.specs.Range.{minus, negative}
use Rattle.units.specs.declared.Cents.{Cents}
use Rattle.units.specs.declared.Grains.{Grains}
use Rattle.units.specs.declared.Hundredths.{Hundredths}
use Rattle.units.specs.Units.{cents, ◌+ᶜ◌, lower_of_zero, ◌+ʰ◌, grains, ◌+ᵍ◌}
use Rattle.rules.specs.declared.Status.{Status}
use Rattle.rules.specs.declared.Status.TheVariants.{Unbound, Bound, Violated}
use Rattle.rules.specs.declared.Line.{Line}
use Rattle.rules.specs.declared.Residue.{Residue}
use Rattle.rules.specs.declared.Event.{Event}
use Rattle.rules.specs.declared.Sums.{Sums}
use Rattle.rules.specs.declared.Period.{Period}
use Rattle.rules.specs.declared.Counts.{Counts}
use Rattle.rules.specs.declared.Direction.{Direction}
use Rattle.rules.specs.declared.Settings.{Settings}
use Rattle.rules.specs.Market.{corridor_of, reverse, of_directions}
use Rattle.rules.specs.Residue.{grains_of, in_cents, no_residue, line, corridor_grains, corridor_flow, residue_of, along}
use Rattle.rules.specs.Interval.{half_hour, place, clears_at, rule1, rule2, flag_of, next_of, held, rule6, sums_after, managed_after, counts_after, suspended_after}
use Rattle.rules.specs.Record.{record_number, reviewed, operating, present, status_number, status, blocked, prices, lines, pre_dispatch_prices, pre_dispatch_lines, residue, pre_dispatch_residue, flag, next}

-- ---- Interval n = 6h+q, q from 0 to 5.
pub half_hours : (n : ℕ) → (n ≡ 6 * half_hour n + place n) × (place n < 6)
half_hours n = (omega arith, omega arith)

-- ---- flags and statuses, bit by bit
-- Of a flags byte x: review, loop operating, pre-dispatch present. They are bits 0, 1 and 2.
abbrev flags_in : ℕ → List Bool
flags_in x = let b = replicate 4 0 ++ (x ∷ []) in reviewed b ∷ operating b ∷ present b ∷ []

-- Each bit alone is its own flag alone.
pub flag_bits : map flags_in (1 ∷ 2 ∷ 4 ∷ []) ≡ (true ∷ false ∷ false ∷ []) ∷ (false ∷ true ∷ false ∷ []) ∷ (false ∷ false ∷ true ∷ []) ∷ []
flag_bits = refl

-- Of a status byte x, in each direction: 0 unbound, 1 bound, 2 violated, plus 4 if blocked.
abbrev states_in : ℕ → List (Status × Bool)
states_in x = of_directions (λ d. let b = replicate (5 + d) 0 ++ (x ∷ []) in (status b d, blocked b d))

-- The six, in each of the eight directions.
pub status_bits : map states_in (0 ∷ 1 ∷ 2 ∷ 4 ∷ 5 ∷ 6 ∷ [])
    ≡ map (replicate 8) ((Unbound, false) ∷ (Bound, false) ∷ (Violated, false) ∷ (Unbound, true) ∷ (Bound, true) ∷ (Violated, true) ∷ [])
status_bits = refl

-- The same by the status's number.
abbrev numbers_in : ℕ → List (ℕ × Bool)
numbers_in x = of_directions (λ d. let b = replicate (5 + d) 0 ++ (x ∷ []) in (status_number b d, blocked b d))

pub status_number_bits : map numbers_in (0 ∷ 1 ∷ 2 ∷ 4 ∷ 5 ∷ 6 ∷ [])
    ≡ map (replicate 8) ((0, false) ∷ (1, false) ∷ (2, false) ∷ (0, true) ∷ (1, true) ∷ (2, true) ∷ [])
status_number_bits = refl

-- ---- the loop flag
-- 1 for directions 0 and 1, always;
pub flag_outside : (op : Bool) (sum : Cents) (d : ℕ) → d < 2 → flag_of op sum d ≡ true
unfolding flag_of
flag_outside op sum d l = rw (lt-leb 2 d l)

-- 0 for directions 2-7 if the loop is operating and the sum is zero or more; else 1.
pub flag_inside : (op : Bool) (sum : Cents) (d : ℕ) → 2 ≤ d → flag_of op sum d ≡ not (op && not (negative sum.0))
unfolding flag_of
flag_inside op sum d l = rw (le-leb 2 d l)

module _ (shares b : List ℕ) where
  abbrev r : ℕ → Cents
  r d = (residue shares b d).cents

  -- The residues of directions 2-7, added.
  abbrev pub loop_residues : Cents
  loop_residues = r 2 +ᶜ r 3 +ᶜ r 4 +ᶜ r 5 +ᶜ r 6 +ᶜ r 7

  -- Of a record, directions 0 and 1 have flag 1, always.
  pub record_flag_outside : (d : ℕ) → d < 2 → flag shares b d ≡ true
  record_flag_outside = flag_outside (operating b) loop_residues

  -- Directions 2-7 have one flag between them,
  pub record_flag_inside : (d : ℕ) → 2 ≤ d → flag shares b d ≡ not (operating b && not (negative loop_residues.0))
  record_flag_inside = flag_inside (operating b) loop_residues

  -- 0 exactly if bit 1 is set and their residues sum to zero or more.
  pub record_flag_zero : (d : ℕ) → 2 ≤ d → (flag shares b d ≡ false) ↔ ((operating b ≡ true) × (negative loop_residues.0 ≡ false))
  record_flag_zero d l = rw (record_flag_inside d l) (go (operating b) (negative loop_residues.0))
    where
      go : (op low : Bool) → (not (op && not low) ≡ false) ↔ ((op ≡ true) × (low ≡ false))
      go true true = (λ e. absurd (false≢true (sym e)), λ h. absurd (false≢true (sym h.1)))
      go true false = (λ _. (refl, refl), λ _. refl)
      go false low = (λ e. absurd (false≢true (sym e)), λ h. absurd (false≢true h.0))

-- ---- rule 2 (N4)
-- At flag 1 and q other than 5, previous stays as it was, whatever current is.
pub previous_stands : (q : ℕ) → q ≢ 5 → (r : Cents) (s : Sums) → (rule2 true (clears_at q) r s).previous ≡ s.previous
unfolding clears_at
previous_stands q other r s = simp (ne_eqb q 5 other, and-false)

-- So an interval with flag 1 and q other than 5 leaves previous as rule 1 left it.
pub interval_previous : (e : Event) (s : Direction) → e.flag ≡ true → place e.n ≢ 5 → (sums_after e s).previous ≡ (rule1 e.n s.sums).previous
interval_previous e s flag other = rw flag (previous_stands (place e.n) other e.residue (rule1 e.n s.sums))

-- ---- rule 6 (N2)
module _ (before : Bool) (after : Period) (net : Cents) (counts : Counts) (was : Bool) where
  low_ends : lt_z net.0 (minus 100000) ≡ true → rule6 before after net counts was ≡ false
  low_ends low = rw low (go (held after && before))
    where
      go : (t : Bool) → cond (not t) false false ≡ false
      go true = refl
      go false = refl

  high_stands : lt_z net.0 (minus 100000) ≡ false → (held after && before) ≡ true → was ≡ true → rule6 before after net counts was ≡ true
  high_stands high still suspended = rw (still, high, suspended) (go (eqb counts.unbound 3 || eqb counts.violated 3))
    where
      go : (t : Bool) → cond t true true ≡ true
      go true = refl
      go false = refl

-- The -100,000 that ends a suspension is no setting. Whatever the settings,
module _ (set : Settings) (e : Event) (s : Direction) where
  -- net below it ends one;
  pub suspension_ends_lem : lt_z (sums_after e s).net.0 (minus 100000) ≡ true → suspended_after set e s ≡ false
  suspension_ends_lem = low_ends (held s.period) (managed_after set e s).period (sums_after e s).net (counts_after set e s) s.suspended

  -- net at it or above ends none, in a period held before and still.
  pub suspension_stands : lt_z (sums_after e s).net.0 (minus 100000) ≡ false → (held (managed_after set e s).period && held s.period) ≡ true → s.suspended ≡ true → suspended_after set e s ≡ true
  suspension_stands = high_stands (held s.period) (managed_after set e s).period (sums_after e s).net (counts_after set e s) s.suspended

-- ---- r of a record: by all six shares of the opening
pub record_residue : (shares b : List ℕ) (d : ℕ) → residue shares b d ≡ residue_of (prices b) shares (lines b) d
record_residue shares b d = refl

-- ---- next
lower_of_zero_low : (z : ℤ) → (lower_of_zero (cents z)).0 ≤ℤ pos 0
lower_of_zero_low (pos n) = record { le = tt }
lower_of_zero_low (negsuc n) = record { le = tt }

-- What next is, of an interval n with its loop flag, whether pre-dispatch is present, and the pre-dispatch residue.
pub record NextLaw (flag : Bool) (n : ℕ) (present : Bool) (pre_dispatch next : Cents) : Type 0 where
  -- Next is the lower of the pre-dispatch residue and 0 if q = 5, pre-dispatch is present and the flag is 1;
  pub estimate : flag ≡ true → place n ≡ 5 → present ≡ true → next ≡ lower_of_zero pre_dispatch
  -- else 0: with q not 5, with pre-dispatch absent, and with flag 0.
  pub elsewhere : place n ≢ 5 → next ≡ cents (pos 0)
  pub absent : present ≡ false → next ≡ cents (pos 0)
  pub exempt : flag ≡ false → next ≡ cents (pos 0)
  -- It is never above 0.
  pub low : next.0 ≤ℤ pos 0

pub next_law : (flag : Bool) (n : ℕ) (present : Bool) (pre_dispatch : Cents) → NextLaw flag n present pre_dispatch (next_of flag n present pre_dispatch)
unfolding next_of
next_law flag n present pre_dispatch = record {
  estimate = λ f q p. simp (f, q, p);
  elsewhere = λ q. simp (ne_eqb (place n) 5 q, and-false);
  absent = λ p. simp (p, and-false);
  exempt = λ f. simp f;
  low = go (flag && (eqb (place n) 5 && present));
}
  where
    go : (t : Bool) → (cond t (lower_of_zero pre_dispatch) (cents (pos 0))).0 ≤ℤ pos 0
    go true = lower_of_zero_low pre_dispatch.0
    go false = record { le = tt }

-- So it is of a record's next, in each direction.
pub record_next_law : (shares b : List ℕ) (d : ℕ)
    → NextLaw (flag shares b d) (record_number b) (present b) (residue_of (pre_dispatch_prices b) shares (pre_dispatch_lines b) d).cents (next shares b d)
record_next_law shares b d = next_law (flag shares b d) (record_number b) (present b) (pre_dispatch_residue shares b d).cents

-- ---- the residue
-- k is the From loss share: at 1000 the From price bears all losses,
pub losses_on_from : (P Q : Cents) (l : Line) → grains_of P Q 1000 l ≡ grains (P.0 *ℤ (pos 1000 *ℤ l.a.0) -ℤ Q.0 *ℤ (pos 1000 *ℤ l.a.0 +ℤ pos 1000 *ℤ l.b.0))
losses_on_from P Q l =
    let flow = pos 1000 *ℤ l.a.0 in
    let sent = Q.0 *ℤ (flow +ℤ pos 1000 *ℤ l.b.0) in
    ap (λ (z : ℤ). grains (P.0 *ℤ (flow -ℤ z) -ℤ sent)) (zero-*ℤ l.b.0) ∙ ap (λ (z : ℤ). grains (P.0 *ℤ z -ℤ sent)) (+ℤ_idr flow)

-- at 0 the To price does.
pub losses_on_to : (P Q : Cents) (l : Line) → grains_of P Q 0 l ≡ grains (P.0 *ℤ (pos 1000 *ℤ l.a.0 -ℤ pos 1000 *ℤ l.b.0) -ℤ Q.0 *ℤ (pos 1000 *ℤ l.a.0))
losses_on_to P Q l = simp (zero-*ℤ, +ℤ_idr)

-- Direction 2c is From_To of corridor c,
pub direction_from_to : (c : ℕ) → (corridor_of (2 * c) ≡ c) × (reverse (2 * c) ≡ false)
direction_from_to c = (omega arith, ne_eqb (2 * c % 2) 1 (omega arith))

-- 2c+1 is To_From.
pub direction_to_from : (c : ℕ) → (corridor_of (2 * c + 1) ≡ c) × (reverse (2 * c + 1) ≡ true)
direction_to_from c = (omega arith, eq-eqb ((2 * c + 1) % 2) 1 (omega arith))

module _ (prices : List Cents) (shares : List ℕ) (lines : List Line) where
  -- The grains of physical interconnector i between two regions by their numbers (NSW1 0, QLD1 1, SA1 2, VIC1 3): P is the To price, Q the From price.
  abbrev pub grains_at : ℕ → ℕ → ℕ → Grains
  grains_at from to i = grains_of (get_or prices to (cents (pos 0))) (get_or prices from (cents (pos 0))) (get_or shares i 0) (line prices shares lines i)

  abbrev pub a_at : ℕ → Hundredths
  a_at i = (line prices shares lines i).a

  -- Grains are summed over a corridor, and so is a: NSW1 to QLD1 (physical 0, 1);
  pub NSW1-to-QLD1 : (corridor_grains prices shares lines 0 ≡ grains_at 0 1 0 +ᵍ grains_at 0 1 1) × (corridor_flow prices shares lines 0 ≡ a_at 0 +ʰ a_at 1)
  NSW1-to-QLD1 = (simp +ℤ_idl, simp +ℤ_idl)

  -- VIC1 to NSW1 (2);
  pub VIC1-to-NSW1 : (corridor_grains prices shares lines 1 ≡ grains_at 3 0 2) × (corridor_flow prices shares lines 1 ≡ a_at 2)
  VIC1-to-NSW1 = (simp +ℤ_idl, simp +ℤ_idl)

  -- VIC1 to SA1 (3, 4);
  pub VIC1-to-SA1 : (corridor_grains prices shares lines 2 ≡ grains_at 3 2 3 +ᵍ grains_at 3 2 4) × (corridor_flow prices shares lines 2 ≡ a_at 3 +ʰ a_at 4)
  VIC1-to-SA1 = (simp +ℤ_idl, simp +ℤ_idl)

  -- NSW1 to SA1 (5).
  pub NSW1-to-SA1 : (corridor_grains prices shares lines 3 ≡ grains_at 0 2 5) × (corridor_flow prices shares lines 3 ≡ a_at 5)
  NSW1-to-SA1 = (simp +ℤ_idl, simp +ℤ_idl)

  -- Then they are rounded. The corridor's sum of a gives the direction:
  abbrev with_flow : ℕ → Bool → Bool → Residue
  with_flow c to-from flows-back = along to-from (record { residue = in_cents (corridor_grains prices shares lines c); reverse = flows-back })

  abbrev pub flows_back : ℕ → Bool
  flows_back c = negative (corridor_flow prices shares lines c).0

  residue_is : (c d : ℕ) (to-from flows-back : Bool)
      → (corridor_of d ≡ c) × (reverse d ≡ to-from)
      → flows_back c ≡ flows-back
      → residue_of prices shares lines d ≡ with_flow c to-from flows-back
  unfolding residue_of
  residue_is c d to-from flows-back of f = ap₂ (λ c t. with_flow c t (flows_back c)) of.0 of.1 ∙ ap (with_flow c to-from) f

  -- zero or more is From_To, less is To_From. That direction's residue r is the rounded sum, with its leftover; the other's is 0, and so is
  -- its leftover (N8).
  pub residue_from_to : (c : ℕ)
      → flows_back c ≡ false
      → (residue_of prices shares lines (2 * c) ≡ in_cents (corridor_grains prices shares lines c)) × (residue_of prices shares lines (2 * c + 1) ≡ no_residue)
  residue_from_to c f = (residue_is c (2 * c) false false (direction_from_to c) f, residue_is c (2 * c + 1) true false (direction_to_from c) f)

  pub residue_to_from : (c : ℕ)
      → flows_back c ≡ true
      → (residue_of prices shares lines (2 * c) ≡ no_residue) × (residue_of prices shares lines (2 * c + 1) ≡ in_cents (corridor_grains prices shares lines c))
  residue_to_from c f = (residue_is c (2 * c) false true (direction_from_to c) f, residue_is c (2 * c + 1) true true (direction_to_from c) f)

  -- What holds of each corridor's grains in cents, and of no residue, holds of a direction's residue.
  pub of_residue : (P : Residue → Type 0) → ((c : ℕ) → P (in_cents (corridor_grains prices shares lines c))) → P no_residue → (d : ℕ) → P (residue_of prices shares lines d)
  unfolding residue_of
  of_residue P corridor none d = go (beq (reverse d) (flows_back (corridor_of d)))
    where
      go : (t : Bool) → P (cond t (in_cents (corridor_grains prices shares lines (corridor_of d))) no_residue)
      go true = corridor (corridor_of d)
      go false = none
