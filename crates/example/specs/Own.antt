-- Demand 3 of a list of two calls, about direction 2, of one call under settings (N2), about direction 4, of a call with a set after it (N10),
-- about direction 6, of three calls, the second on a lent tracker (N14), about direction 1, and of two calls between which a third was taken back
-- (N11), about direction 5; N8's law of a list of one call; and N6's laws of the views of two rows.
use Rattle.std.specs.Prelude.{Ok, true, List, [], ◌∷◌, ◌++◌, ◌≡◌, ℕ}
use Rattle.tracker.specs.Promise.{Row, Settings, judged, open_conditions, Opening, opening_with, opening, first_of, shares_of, settings_of, accepted, awaited_from, DirectionClaim, residue_shown, together, grains_in, records_in, interval_conditions, set_outcome, Interval, Lent, Set, singly}
use Rattle.readers.specs.Views.{Alike, shows_anything}
use Rattle.readers.specs.Promise.{TraderPromise, ControlPromise}
use Rattle.example.specs.declared.Ended.{Ended}
use Rattle.example.specs.declared.BothWays.{BothWays}
use Rattle.example.specs.declared.Views.{Views}
use Rattle.example.specs.declared.TwoViews.{TwoViews}

abbrev pub Own : ℕ → List ℕ → List ℕ → List ℕ → Row → Type 0
Own first shares earlier later r =
    let o = opening first shares in
    let calls = Interval earlier ∷ Interval later ∷ [] in
    DirectionClaim o 2 (accepted o calls) r

-- The claim of direction 4; and if the opening is accepted, the first n, the shares and the settings that it reads are the caller's own.
abbrev pub Tried : ℕ → List ℕ → Settings → List ℕ → Row → Type 0
Tried first shares set b r =
    let o = opening_with first shares set in
    DirectionClaim o 4 (accepted o (Interval b ∷ [])) r × (judged (open_conditions first shares set) ≡ Ok tt → (first_of o ≡ first) × (shares_of o ≡ shares) × (settings_of o ≡ set))

-- The claim of direction 6 after a record b and a set s (N10), each accepted or refused; and if the set is accepted, the same claim of the list that
-- has each of its records in a single call.
abbrev pub Mixed : ℕ → List ℕ → List ℕ → List ℕ → Row → Type 0
Mixed first shares b s r =
    let o = opening first shares in
    let before = Interval b ∷ [] in
    DirectionClaim o 6 (accepted o (before ++ (Set s ∷ []))) r
    × (set_outcome (awaited_from o before) s ≡ Ok tt → DirectionClaim o 6 (accepted o (before ++ singly (records_in s))) r)

-- The claim of direction 1 after a record b, a record c on a lent tracker (N14) and a set s (N10), each accepted or refused; and the same claim of
-- the list in which no tracker is lent.
abbrev pub OnLent : ℕ → List ℕ → List ℕ → List ℕ → List ℕ → Row → Type 0
OnLent first shares b c s r =
    let o = opening first shares in
    DirectionClaim o 1 (accepted o (Interval b ∷ Lent c ∷ Set s ∷ [])) r × DirectionClaim o 1 (accepted o (Interval b ∷ Interval c ∷ Set s ∷ [])) r

-- How a record c ends after a record b, and the claim of direction 5 after both. The record that was tried in between and taken back (N11) is not
-- named here: whatever it holds, nothing of it is left, and c may have its n.
pub record TakenBack (o : Opening) (b c : List ℕ) (r : Ended) : Type 0 where
  pub outcome : r.outcome ≡ judged (interval_conditions (awaited_from o (Interval b ∷ [])) c)
  pub claim : DirectionClaim o 5 (accepted o (Interval b ∷ Interval c ∷ [])) r.row

-- If the record b is accepted, forward plus reverse cents, with their leftovers, make the grains that corridor 1 has in it.
abbrev pub Complete : ℕ → List ℕ → List ℕ → BothWays → Type 0
Complete first shares b r =
    let o = opening first shares in
    accepted o (Interval b ∷ []) ≡ b ∷ [] → together (residue_shown r.forward) (residue_shown r.back) ≡ grains_in (shares_of o) b 1

-- What both readers promise of a row.
abbrev pub Read : Row → Views → Type 0
Read row v = TraderPromise row v.trader × ControlPromise row v.control

-- Two rows, each by both readers. Rows alike in the seven fields give equal trader's views; equal trader's views that show anything come from such
-- rows only, and equal control views from equal rows only.
pub record Told (a b : Row) (r : TwoViews) : Type 0 where
  pub one : Read a r.one
  pub other : Read b r.other
  pub alike : Alike a b → r.one.trader ≡ r.other.trader
  pub trader_told : r.one.trader ≡ r.other.trader → shows_anything r.one.trader ≡ true → Alike a b
  pub control_told : r.one.control ≡ r.other.control → a ≡ b
