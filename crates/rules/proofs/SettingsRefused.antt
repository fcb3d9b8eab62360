-- Laws of refused settings (N2): 19 and 20 under their conditions and after 9 and 10.
-- Assumes nothing.
use mathlib.Core.Path.{◌≡◌, refl}
use mathlib.Core.List.{List, [], ◌∷◌, map}
use Prim.Native.Nat.{ℕ, ◌+◌, ◌*◌}
use lib.IntN.{ℤ, pos}
use lib.ListN.{get_or, set, replicate}
use Rattle.signed.specs.Range.{minus}
use Rattle.units.specs.Units.{cents, hundredths}
use Rattle.rules.specs.declared.DirectionSettings.{DirectionSettings}
use Rattle.rules.specs.declared.Settings.{Settings}
use Rattle.std.specs.Prelude.{Ok, Err}
use Rattle.rules.specs.declared.Refusal.TheVariants.{BadFirst, BadShare, NotRising, OutsideSpan}
use Rattle.rules.specs.Market.{of_directions}
use Rattle.rules.specs.Refusal.{Outcome, each, inside_spans, rising, open_conditions, open_outcome}
use Rattle.rules.specs.Tracker.{opening_with, open_of}
use Rattle.rules.specs.Figures.{halves}
use Rattle.rules.proofs.Directions.{from}

-- ---- settings by their 44 values
-- The threshold, three edges, four steps for each direction, an offset for each.
abbrev direction_in : List ℤ → ℕ → DirectionSettings
direction_in values d = record {
  steps = map (λ band. hundredths (get_or values (4 * d + 4 + band) (pos 0))) (0 ∷ 1 ∷ 2 ∷ 3 ∷ []);
  offset = hundredths (get_or values (d + 36) (pos 0));
}

abbrev of_values : List ℤ → Settings
of_values values = record {
  threshold = cents (get_or values 0 (pos 0));
  edges = map (λ k. cents (get_or values k (pos 0))) (1 ∷ 2 ∷ 3 ∷ []);
  directions = of_directions (direction_in values);
}

-- These edges; a threshold of -5; all steps and offsets 0.
abbrev with_edges : ℤ → ℤ → ℤ → List ℤ
with_edges a b c = minus 5 ∷ a ∷ b ∷ c ∷ replicate 40 (pos 0)

abbrev midway : List ℤ
midway = with_edges (minus 1) (pos 0) (pos 1)

abbrev settings_are : List ℤ → Outcome
settings_are values = open_outcome 0 halves (of_values values)

-- ---- the order
-- An opening with all four faults; each next one mends the first that is left: the first n, the share, the last offset, the middle edge.
abbrev opens_with : ℕ → ℕ → ℤ → ℤ → Outcome
opens_with first share offset edge = (open_of (opening_with first (set halves 5 share) (of_values (set (set midway 43 offset) 2 edge)))).outcome

-- They give 9, 10, 19 and 20; with none it is accepted.
pub nine_to_twenty :
    opens_with 1 1001 (minus 1) (pos 1) ∷ opens_with 0 1001 (minus 1) (pos 1) ∷ opens_with 0 1000 (minus 1) (pos 1) ∷ opens_with 0 1000 (pos 0) (pos 1) ∷ opens_with 0 1000 (pos 0) (pos 0) ∷ []
    ≡ Err BadFirst ∷ Err BadShare ∷ Err OutsideSpan ∷ Err NotRising ∷ Ok tt ∷ []
unfolding each inside_spans rising open_conditions open_outcome open_of
nine_to_twenty = refl

-- ---- 19, a value outside its span
-- Each of the 44, above the highest span and below the lowest.
abbrev each_value_is : ℤ → List Outcome
each_value_is z = from (λ k. settings_are (set midway k z)) (Ok tt) 0 44

-- All of them are refused with 19.
pub each_of_44 : (each_value_is (pos 100000001) ≡ replicate 44 (Err OutsideSpan)) × (each_value_is (minus 1000000001) ≡ replicate 44 (Err OutsideSpan))
unfolding each inside_spans rising open_conditions open_outcome
each_of_44 = (refl, refl)

-- Value k just outside its span, at the two ends, and just outside again.
abbrev span_is : ℕ → ℤ → ℤ → ℤ → ℤ → List Outcome
span_is k below lowest highest above = map (λ z. settings_are (set midway k z)) (below ∷ lowest ∷ highest ∷ above ∷ [])

abbrev ends : List Outcome
ends = Err OutsideSpan ∷ Ok tt ∷ Ok tt ∷ Err OutsideSpan ∷ []

-- The threshold's span,
pub threshold_span : span_is 0 (minus 1000000001) (minus 1000000000) (minus 1) (pos 0) ≡ ends
unfolding each inside_spans rising open_conditions open_outcome
threshold_span = refl

-- that of an edge (at the upper end the last of the three, at the lower end the first),
pub edge_span : map settings_are (with_edges (minus 100000001) (pos 0) (pos 1) ∷ with_edges (minus 100000000) (pos 0) (pos 1) ∷ with_edges (minus 1) (pos 0) (pos 100000000) ∷ with_edges (minus 1) (pos 0) (pos 100000001) ∷ []) ≡ ends
unfolding each inside_spans rising open_conditions open_outcome
edge_span = refl

-- of a step,
pub step_span : span_is 4 (minus 100001) (minus 100000) (pos 100000) (pos 100001) ≡ ends
unfolding each inside_spans rising open_conditions open_outcome
step_span = refl

-- and of an offset.
pub offset_span : span_is 36 (minus 1) (pos 0) (pos 100000) (pos 100001) ≡ ends
unfolding each inside_spans rising open_conditions open_outcome
offset_span = refl

-- ---- 20, edges not rising strictly
pub equal_or_falling :
    map settings_are (with_edges (pos 7) (pos 7) (pos 8) ∷ with_edges (pos 7) (pos 8) (pos 8) ∷ with_edges (pos 7) (pos 6) (pos 8) ∷ with_edges (pos 7) (pos 9) (pos 8) ∷ with_edges (pos 7) (pos 8) (pos 9) ∷ [])
    ≡ Err NotRising ∷ Err NotRising ∷ Err NotRising ∷ Err NotRising ∷ Ok tt ∷ []
unfolding each inside_spans rising open_conditions open_outcome
equal_or_falling = refl
