-- Document 02, N9, "How far rounding can carry": a direction's amount beside the unrounded sum. The sum follows from the opening's shares and
-- the accepted records, which stand the latest first. Nothing here reads a tracker; rounded residues only say which interval clears.
use Rattle.std.specs.Prelude.{Bool, cond, List, [], ◌∷◌, map, ◌≡◌, ℕ, ◌*◌, ◌≤◌, pos, nat_abs, length}
use Rattle.std.specs.Bool.{beq}
use Rattle.signed.specs.Range.{negative}
use Rattle.units.specs.declared.Cents.{Cents}
use Rattle.units.specs.declared.Grains.{Grains}
use Rattle.units.specs.Units.{cents, grains, in_grains, ◌+ᵍ◌, ◌-ᵍ◌}
use Rattle.rules.specs.Market.{corridor_of, reverse}
use Rattle.rules.specs.Residue.{half_cent, corridor_flow}
use Rattle.rules.specs.History.{clearing}
use Rattle.rules.specs.Record.{prices, lines, grains_in, event_of}

-- The lower of grains and 0.
abbrev pub lower_grains : Grains → Grains
lower_grains g = cond (negative g.0) g (grains (pos 0))

module _ (shares : List ℕ) (d : ℕ) where
  -- The grains of direction d in a record are those of its corridor, summed over the corridor's lines: both directions of a corridor have the same.
  abbrev pub direction_grains : List ℕ → Grains
  direction_grains b = grains_in shares b (corridor_of d)

  -- In a record the grains were assigned to d if the corridor's sum of a gives that direction: zero or more is From_To, less is To_From.
  abbrev pub assigned_to : List ℕ → Bool
  assigned_to b = beq (reverse d) (negative (corridor_flow (prices b) shares (lines b) (corridor_of d)).0)

  -- The span: each accepted interval after d's latest clearing interval; all of them, if none cleared. Which interval clears is read from the
  -- rounded residues.
  unfoldable pub span : List (List ℕ) → List (List ℕ)
  span [] = []
  span (b ∷ bs) = cond (clearing (map (event_of shares d) (b ∷ bs))) [] (b ∷ span bs)

  -- Of some intervals those in which the grains were assigned to d.
  unfoldable pub assigned_of : List (List ℕ) → List (List ℕ)
  assigned_of [] = []
  assigned_of (b ∷ bs) = cond (assigned_to b) (b ∷ assigned_of bs) (assigned_of bs)

  -- The lower of grains and 0 in each of some intervals, added up.
  unfoldable pub sum_lower : List (List ℕ) → Grains
  sum_lower [] = grains (pos 0)
  sum_lower (b ∷ bs) = sum_lower bs +ᵍ lower_grains (direction_grains b)

  -- The intervals that count: those of the span in which the grains were assigned to d.
  abbrev pub assigned_span : List (List ℕ) → List (List ℕ)
  assigned_span bs = assigned_of (span bs)

  -- The unrounded sum: the lower of grains and 0 in each accepted interval after d's latest clearing interval, in which the grains were assigned
  -- to d.
  abbrev pub unrounded : List (List ℕ) → Grains
  unrounded bs = sum_lower (assigned_span bs)

-- By how many grains an amount and a sum of grains differ.
abbrev pub apart : Cents → Grains → ℕ
apart amount sum = nat_abs (sum -ᵍ in_grains amount).0

-- An amount and a sum of grains differ by at most n grains.
abbrev pub DifferAtMost : ℕ → Cents → Grains → Type 0
DifferAtMost n amount sum = apart amount sum ≤ n

-- An amount and a sum of grains differ by at most half a cent, 1,200,000 grains, for each of k intervals.
abbrev pub NearFor : ℕ → Cents → Grains → Type 0
NearFor k amount sum = DifferAtMost (half_cent * k) amount sum

-- The bound on direction d's amount after the accepted records bs.
pub record Rounding (shares : List ℕ) (d : ℕ) (bs : List (List ℕ)) (amount : Cents) : Type 0 where
  -- The amount and the unrounded sum differ by at most half a cent, 1,200,000 grains, for each interval in the span in which the grains were assigned to d.
  pub near : NearFor (length (assigned_span shares d bs)) amount (unrounded shares d bs)
  -- With no such interval (if the span has none at all, in particular) both are 0.
  pub both_zero : assigned_span shares d bs ≡ [] → (amount ≡ cents (pos 0)) × (unrounded shares d bs ≡ grains (pos 0))
