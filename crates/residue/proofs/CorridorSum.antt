-- What is summed of a corridor's lines is small, and what a loop over them has summed before line i.
-- Assumes nothing.
use mathlib.Core.Path.{◌≡◌}
use mathlib.Core.List.{List, []}
use Prim.Native.Nat.{ℕ, ◌+◌, ◌≤◌, ◌<◌}
use native.Mathlib.Nat as N
use native.Mathlib.Numerals.{add-one}
use native.Mathlib.Omega.{arith}
use lib.Dec.{lit≤}
use lib.IntN.{ℤ, nat_abs}
use lib.ListN.{get_or}
use Rattle.signed.specs.Range.{negative}
use Rattle.units.specs.declared.Cents.{Cents}
use Rattle.units.specs.declared.Grains.{Grains}
use Rattle.units.specs.declared.Hundredths.{Hundredths}
use Rattle.units.specs.Units.{hundredths, grains, ◌+ᵍ◌, ◌+ʰ◌}
use Rattle.rules.specs.declared.Line.{Line}
use Rattle.rules.specs.declared.Region.{Region}
use Rattle.rules.specs.Market.{corridor}
use Rattle.rules.specs.Residue.{grains_of, sum_from, price, line, line_grains, in_cents, corridor_residue}
use Rattle.rules.proofs.Corridors.{in_table_lem}
use Rattle.residue.specs.Internal.{InRange, highest_corridor_grains}
use Rattle.residue.proofs.LineBounds.{line_in_range, line_small, sum_small}

module _ (p q : Cents) (shares : List ℕ) (lines : List Line) where
  -- the grains and the a of line i, at the prices p and q
  abbrev pub grains_at : ℕ → ℤ
  grains_at i = (grains_of p q (get_or shares i 0) (line [] shares lines i)).0

  abbrev pub flow_at : ℕ → ℤ
  flow_at i = (line [] shares lines i).a.0

-- what is summed of j lines, two at most, between the regions `to` and `from`
module _ {prices : List Cents} {shares : List ℕ} {lines : List Line} (h : InRange prices shares lines) (to from : Region) (first j : ℕ) (few : j ≤ 2) where
  pub grains_so_far : (sum : Grains) → sum ≡ grains (sum_from first j (grains_at (price prices shares lines to) (price prices shares lines from) shares lines))
      → nat_abs sum.0 ≤ highest_corridor_grains
  grains_so_far sum is = rw is (sum_small first j _ few (λ i. line_small (line_in_range h to from i)))

  pub flow_so_far : (flow : Hundredths) → flow ≡ hundredths (sum_from first j (flow_at (price prices shares lines to) (price prices shares lines from) shares lines))
      → nat_abs flow.0 ≤ highest_corridor_grains
  flow_so_far flow is = rw is (sum_small first j _ few (λ i. N.le_trans (h.flow i) (lit≤ tt)))

module _ (prices : List Cents) (shares : List ℕ) (lines : List Line) (c : ℕ) where
  -- the sums over the corridor's first j lines, of which line i is the next
  pub record Summed (i : ℕ) (sum : Grains) (flow : Hundredths) : Type 0 where
    pub j : ℕ
    pub few : j ≤ (corridor c).lines
    pub next : i ≡ (corridor c).first + j
    pub grains_are : sum ≡ grains (sum_from (corridor c).first j (λ i. (line_grains prices shares lines c i).0))
    pub flow_is : flow ≡ hundredths (sum_from (corridor c).first j (λ i. (line prices shares lines i).a.0))

module _ {prices : List Cents} {shares : List ℕ} {lines : List Line} {c i : ℕ} {sum : Grains} {flow : Hundredths} (s : Summed prices shares lines c i sum flow) where
  -- one line more
  pub one_more : i < (corridor c).first + (corridor c).lines → Summed prices shares lines c (i + 1) (sum +ᵍ line_grains prices shares lines c i) (flow +ʰ (line prices shares lines i).a)
  one_more inside = record {
    j = s.j + 1;
    few = omega arith;
    next = omega arith;
    grains_are = rw (add-one, s.grains_are, s.next);
    flow_is = rw (add-one, s.flow_is, s.next);
  }

  -- the sums are small, since a corridor has two lines at most
  module _ (h : InRange prices shares lines) where
    few : s.j ≤ 2
    few = omega (arith, (in_table_lem c).few)

    pub sum_in_range : nat_abs sum.0 ≤ highest_corridor_grains
    sum_in_range = grains_so_far h (corridor c).to (corridor c).from (corridor c).first s.j few sum s.grains_are

    pub flow_in_range : nat_abs flow.0 ≤ highest_corridor_grains
    flow_in_range = flow_so_far h (corridor c).to (corridor c).from (corridor c).first s.j few flow s.flow_is

  -- after the last line they are the corridor's
  pub all_lines : (corridor c).first + (corridor c).lines ≤ i → record { residue = in_cents sum; reverse = negative flow.0 } ≡ corridor_residue prices shares lines c
  all_lines last =
      let all : s.j ≡ (corridor c).lines = omega (arith, s.few) in
      rw (s.grains_are, s.flow_is, all)
