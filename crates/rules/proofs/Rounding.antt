-- How far rounding can carry (N9), for all shares, every list of records and every direction: one interval, any list of them, the span. Of N8 it
-- takes that a leftover is half a cent at most, of demand 3 which intervals the sum adds.
-- Assumes nothing.
use mathlib.Core.Path.{◌≡◌, refl, ap, subst}
use mathlib.Core.Bool.{Bool, true, false, cond, beq}
use mathlib.Core.List.{List, [], ◌∷◌, map}
use Prim.Native.Nat.{ℕ, ◌+◌, ◌*◌, ◌≤◌}
use native.Mathlib.Omega.{arith}
use lib.IntN.{ℤ, pos, negsuc, ◌+ℤ◌, ◌-ℤ◌, ◌*ℤ◌, +ℤ_idr}
use lib.ListN.{length}
use Rattle.signed.proofs.NatParts.{up, dn, signed, sum, diff, times, abs_by, abs_is}
use Rattle.units.specs.declared.Cents.{Cents}
use Rattle.units.specs.declared.Grains.{Grains}
use Rattle.units.specs.Units.{cents, lower_of_zero, grains}
use Rattle.rules.specs.declared.Event.{Event}
use Rattle.rules.specs.declared.Residue.{Residue}
use Rattle.rules.specs.Market.{corridor_of, reverse}
use Rattle.rules.specs.Residue.{rounded, in_cents, corridor_residue, residue_of}
use Rattle.rules.specs.History.{clearing, since_clearing, sum_negative, sum_since}
use Rattle.rules.specs.Record.{prices, lines, event_of}
use Rattle.rules.specs.Rounding.{lower_grains, direction_grains, assigned_to, span, assigned_of, sum_lower, assigned_span, unrounded, DifferAtMost, NearFor, Rounding}
use Rattle.rules.proofs.CentsAndGrains.{leftover_within}
use Rattle.rules.proofs.SumInvariant.{low}
use Rattle.rules.proofs.OneDirection.{sum_grows}

-- ---- a difference in parts: g grains are at most n above c cents, and at most n below
abbrev Apart : ℕ → ℤ → ℤ → Type 0
Apart n c g = (up g + 2400000 * dn c ≤ n + (dn g + 2400000 * up c)) × (dn g + 2400000 * up c ≤ n + (up g + 2400000 * dn c))

differ_by : (n : ℕ) (c g : ℤ) → Apart n c g → DifferAtMost n (cents c) (grains g)
differ_by n c g h = abs_by (g -ℤ pos 2400000 *ℤ c) (omega (arith, diff g (pos 2400000 *ℤ c), times 2400000 c))

differ_is : (n : ℕ) (c g : ℤ) → DifferAtMost n (cents c) (grains g) → Apart n c g
differ_is n c g h = omega (arith, diff g (pos 2400000 *ℤ c), times 2400000 c, abs_is (g -ℤ pos 2400000 *ℤ c))

-- the lower of each and 0 are no further apart
lower_differ : (n : ℕ) (c g : ℤ) → DifferAtMost n (cents c) (grains g) → DifferAtMost n (lower_of_zero (cents c)) (lower_grains (grains g))
lower_differ n (pos c) (pos g) h = omega arith
lower_differ n (pos c) (negsuc g) h = differ_by n (pos 0) (negsuc g) (omega (arith, differ_is n (pos c) (negsuc g) h))
lower_differ n (negsuc c) (pos g) h = differ_by n (negsuc c) (pos 0) (omega (arith, differ_is n (negsuc c) (pos g) h))
lower_differ n (negsuc c) (negsuc g) h = h

-- ---- one interval: the grains and the rounded residue differ by the leftover, which is half a cent at most (N8)
pub interval_near : (g : Grains) → NearFor 1 (lower_of_zero (rounded g)) (lower_grains g)
interval_near g =
    let left = leftover_within g in
    lower_differ _ (rounded g).0 g.0 (abs_by (in_cents g).leftover.0 (omega (arith, signed, left.low, left.high)))

-- ---- any list of intervals
-- with no interval, an amount near a sum of 0 is 0
none_near : (a : Cents) → NearFor 0 a (grains (pos 0)) → a.0 ≡ pos 0
none_near a h = omega (arith, signed, differ_is _ a.0 (pos 0) h)

-- the cents of one of two residues
cents_of : (t : Bool) (r s : Residue) → (cond t r s).cents ≡ cond t r.cents s.cents
cents_of true r s = refl
cents_of false r s = refl

module _ (shares : List ℕ) (d : ℕ) where
  abbrev events : List (List ℕ) → List Event
  events bs = map (event_of shares d) bs

  -- A direction's residue is its grains, rounded, where they were assigned to it, and else 0.
  pub residue_assigned : (b : List ℕ) → (event_of shares d b).residue ≡ cond (assigned_to shares d b) (rounded (direction_grains shares d b)) (cents (pos 0))
  unfolding residue_of event_of
  residue_assigned b = cents_of (beq (reverse d) (corridor_residue (prices b) shares (lines b) (corridor_of d)).reverse) _ _

  nothing_near : NearFor 0 (sum_negative []) (sum_lower shares d [])
  unfolding sum_negative sum_lower
  nothing_near = omega arith

  -- one record more, in which the grains were assigned to d or not; `rest` are those before it in which they were
  longer_near : (b : List ℕ) (rest : List (List ℕ)) (a : Cents) (t : Bool)
      → NearFor (length rest) a (sum_lower shares d rest)
      → NearFor (length (cond t (b ∷ rest) rest)) (cents (a.0 +ℤ low (cond t (rounded (direction_grains shares d b)) (cents (pos 0))).0)) (sum_lower shares d (cond t (b ∷ rest) rest))
  unfolding sum_lower
  longer_near b rest a true h =
      let g = direction_grains shares d b in
      let r = low (rounded g).0 in
      let before = (sum_lower shares d rest).0 in
      differ_by _ (a.0 +ℤ r) (sum_lower shares d (b ∷ rest)).0 (omega (arith, sum a.0 r, sum before (lower_grains g).0, differ_is _ a.0 before h, differ_is _ r (lower_grains g).0 (interval_near g)))
  longer_near b rest a false h = rw +ℤ_idr h

  -- Its negative residues, added up, beside the lower of grains and 0 where they were assigned to it.
  pub sum_near : (bs : List (List ℕ)) → NearFor (length (assigned_of shares d bs)) (sum_negative (events bs)) (sum_lower shares d (assigned_of shares d bs))
  unfolding assigned_of
  sum_near [] = nothing_near
  sum_near (b ∷ bs) =
      rw (sum_grows (event_of shares d b) (events bs), residue_assigned b)
      (longer_near b (assigned_of shares d bs) (sum_negative (events bs)) (assigned_to shares d b) (sum_near bs))

  -- ---- the span
  -- Its intervals are those whose negative residues demand 3's sum adds.
  pub span_events : (bs : List (List ℕ)) → events (span shares d bs) ≡ since_clearing (events bs)
  unfolding span since_clearing
  span_events [] = refl
  span_events (b ∷ bs) = go (clearing (events (b ∷ bs))) (span_events bs)
    where
      go : (t : Bool) → events (span shares d bs) ≡ since_clearing (events bs) → events (cond t [] (b ∷ span shares d bs)) ≡ cond t [] (event_of shares d b ∷ since_clearing (events bs))
      go true h = refl
      go false h = ap (λ (es : List Event). event_of shares d b ∷ es) h

  module _ (bs : List (List ℕ)) where
    span_near : NearFor (length (assigned_span shares d bs)) (sum_since (events bs)) (unrounded shares d bs)
    span_near = rw (← span_events bs) (sum_near (span shares d bs))

    -- Both parts of the bound, of the sum that demand 3 says the amount is.
    pub direction_rounding : Rounding shares d bs (sum_since (events bs))
    unfolding sum_lower
    direction_rounding = record {
      near = span_near;
      both_zero = λ e. (ap cents (none_near (sum_since (events bs)) (subst (λ (cs : List (List ℕ)). NearFor (length cs) (sum_since (events bs)) (sum_lower shares d cs)) e span_near)), ap (sum_lower shares d) e);
    }
