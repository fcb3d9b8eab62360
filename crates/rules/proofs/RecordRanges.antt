-- The numbers of an accepted record are in range: its prices, flows and losses, and the a and b made of them.
-- Assumes nothing.
use mathlib.Core.Path.{◌≡◌, refl, sym, ap, ◌∙◌}
use mathlib.Core.Bool.{Bool, true, false, cond, ◌&&◌}
use mathlib.Core.List.{List, [], ◌∷◌}
use Prim.Native.Nat.{ℕ, zero, suc, ◌+◌, ◌*◌, ◌≤◌, ◌<◌, max}
use native.Mathlib.Nat.{mul-le-mul_left}
use native.Mathlib.Omega.{arith}
use borrow.Author.Tests.{eqb-true, not-false}
use lib.Dec.{eqb, lit<}
use lib.IntN.{ℤ, pos, nat_abs, ◌*ℤ◌}
use lib.ListN.{get_or, replicate, get_or-replicate}
use Rattle.signed.specs.Range.{minus, within}
use Rattle.signed.proofs.NatParts.{passed}
use Rattle.signed.proofs.Calc.{abs-add, abs-sub, abs-mul, inside}
use Rattle.units.specs.declared.Cents.{Cents}
use Rattle.units.specs.Units.{cents, hundredths, -ʰ◌}
use Rattle.rules.specs.declared.Line.{Line}
use Rattle.rules.specs.Market.{price_ok, flow_ok, loss_ok, corridor_of, reverse}
use Rattle.rules.specs.Residue.{over_lines}
use Rattle.rules.specs.Record.{u32_at, twos, i32_at, present, price, metered, target, losses, pre_dispatch_price, pre_dispatch_flow, pre_dispatch_losses, of_regions, of_lines, prices, lines, pre_dispatch_prices, pre_dispatch_lines, target_sum, line_at, pre_dispatch_line_at}
use Rattle.rules.specs.Refusal.{each, bad_price, bad_flow, bad_pre_dispatch, pre_dispatch_zero, pre_dispatch_inside, line_ok, pre_dispatch_line_ok}
use Rattle.rules.specs.Tracker.{Opening, opens, shares_of}
use Rattle.rules.proofs.EachBelow.{both_true, each_at, each_both}
use Rattle.rules.proofs.Accepted.{Sound, opened_is}
use Rattle.rules.proofs.Corridors.{over_lines_bound}

-- ---- magnitudes
-- numbers that were tested one after the other
each_bound : (n : ℕ) (lo hi : ℤ) (f : ℕ → ℤ)
    → each n (λ i. within lo hi (f i)) ≡ true
    → (i : ℕ) → i < n → nat_abs (f i) ≤ max (nat_abs lo) (nat_abs hi)
each_bound n lo hi f e i l = (inside (passed lo hi (f i) (each_at (λ i. within lo hi (f i)) n e i l))).size

times_bound : (k n : ℕ) (z : ℤ) → nat_abs z ≤ n → nat_abs (pos k *ℤ z) ≤ k * n
times_bound k n z h = rw abs-mul (mul-le-mul_left k h)

-- ---- a list of the four regions or of the six physical interconnectors, at any number
-- P of each element
abbrev All : {A : Type 0} → (A → Type 0) → List A → Type 0
All P [] = Unit
All P (x ∷ xs) = P x × All P xs

all_at : {A : Type 0} (P : A → Type 0) (l : List A) (default : A) → All P l → P default → (i : ℕ) → P (get_or l i default)
all_at P [] default h p i = p
all_at P (x ∷ xs) default h p zero = h.0
all_at P (x ∷ xs) default h p (suc i) = all_at P xs default h.1 p i

regions_at : (P : Cents → Type 0) (f : ℕ → Cents)
    → P (cents (pos 0))
    → ((region : ℕ) → region < 4 → P (f region))
    → (i : ℕ) → P (get_or (of_regions f) i (cents (pos 0)))
regions_at P f p h = all_at P (of_regions f) (cents (pos 0)) (h 0 (lit< tt), (h 1 (lit< tt), (h 2 (lit< tt), (h 3 (lit< tt), tt)))) p

-- A line that is not there.
abbrev pub no_line : Line
no_line = record { a = hundredths (pos 0); b = hundredths (pos 0) }

lines_at : (P : Line → Type 0) (f : ℕ → Line)
    → P no_line
    → ((i : ℕ) → i < 6 → P (f i))
    → (i : ℕ) → P (get_or (of_lines f) i no_line)
lines_at P f p h = all_at P (of_lines f) no_line (h 0 (lit< tt), (h 1 (lit< tt), (h 2 (lit< tt), (h 3 (lit< tt), (h 4 (lit< tt), (h 5 (lit< tt), tt)))))) p

-- Prices and lines of an interval or of a pre-dispatch half-hour, in range: the magnitude of a is at most A, that of b at most B.
pub record Ranged (prices : List Cents) (lines : List Line) (A B : ℕ) : Type 0 where
  pub price : (region : ℕ) → nat_abs (get_or prices region (cents (pos 0))).0 ≤ 3000000
  pub a : (i : ℕ) → nat_abs (get_or lines i no_line).a.0 ≤ A
  pub b : (i : ℕ) → nat_abs (get_or lines i no_line).b.0 ≤ B

ranged : (p : ℕ → Cents) (l : ℕ → Line) (A B : ℕ)
    → ((region : ℕ) → region < 4 → nat_abs (p region).0 ≤ 3000000)
    → ((i : ℕ) → i < 6 → nat_abs (l i).a.0 ≤ A)
    → ((i : ℕ) → i < 6 → nat_abs (l i).b.0 ≤ B)
    → Ranged (of_regions p) (of_lines l) A B
ranged p l A B hp ha hb = record {
  price = regions_at (λ p. nat_abs p.0 ≤ 3000000) p (omega arith) hp;
  a = lines_at (λ l. nat_abs l.a.0 ≤ A) l (omega arith) ha;
  b = lines_at (λ l. nat_abs l.b.0 ≤ B) l (omega arith) hb;
}

-- ---- the physical interconnectors, one kind of number after the other
module _ (b : List ℕ) where
  pub lines_by_kind : each 6 (line_ok b)
      ≡ (each 6 (λ i. flow_ok (metered b i)) && (each 6 (λ i. flow_ok (target b i)) && each 6 (λ i. loss_ok (losses b i))))
  lines_by_kind =
      each_both (λ i. flow_ok (metered b i)) (λ i. flow_ok (target b i) && loss_ok (losses b i)) 6
      ∙ rw (each_both (λ i. flow_ok (target b i)) (λ i. loss_ok (losses b i)) 6)

  pub pre_dispatch_lines_by_kind : each 6 (pre_dispatch_line_ok b)
      ≡ (each 6 (λ i. flow_ok (pre_dispatch_flow b i)) && each 6 (λ i. loss_ok (pre_dispatch_losses b i)))
  pre_dispatch_lines_by_kind = each_both (λ i. flow_ok (pre_dispatch_flow b i)) (λ i. loss_ok (pre_dispatch_losses b i)) 6

-- ---- an accepted record
module _ (awaited : ℕ) (b : List ℕ) (s : Sound awaited b) where
  price_bound : (region : ℕ) → region < 4 → nat_abs (price b region).0 ≤ 3000000
  unfolding bad_price
  price_bound = each_bound 4 (minus 100000) (pos 3000000) (λ region. (price b region).0) (not-false _ s.prices)

  flows_tested : (each 6 (λ i. flow_ok (metered b i)) ≡ true) × (each 6 (λ i. flow_ok (target b i)) ≡ true) × (each 6 (λ i. loss_ok (losses b i)) ≡ true)
  unfolding bad_flow
  flows_tested =
      let all = both_true (each 6 (λ i. flow_ok (metered b i))) _ (sym (lines_by_kind b) ∙ not-false _ s.flows) in
      let rest = both_true (each 6 (λ i. flow_ok (target b i))) _ all.1 in
      (all.0, rest.0, rest.1)

  metered_bound : (i : ℕ) → i < 6 → nat_abs (metered b i).0 ≤ 500000
  metered_bound = each_bound 6 (minus 500000) (pos 500000) (λ i. (metered b i).0) flows_tested.0

  target_bound : (i : ℕ) → i < 6 → nat_abs (target b i).0 ≤ 500000
  target_bound = each_bound 6 (minus 500000) (pos 500000) (λ i. (target b i).0) flows_tested.1

  losses_bound : (i : ℕ) → i < 6 → nat_abs (losses b i).0 ≤ 100000
  losses_bound = each_bound 6 (minus 100000) (pos 100000) (λ i. (losses b i).0) flows_tested.2

  pre_dispatch_judged : (t : Bool) → present b ≡ t → cond t (pre_dispatch_inside b) (pre_dispatch_zero b) ≡ true
  unfolding bad_pre_dispatch
  pre_dispatch_judged t p = ap (λ t. cond t (pre_dispatch_inside b) (pre_dispatch_zero b)) (sym p) ∙ not-false _ s.pre_dispatch

  -- pre-dispatch absent: its sixteen numbers are 0
  pre_dispatch_absent : present b ≡ false → (i : ℕ) → i < 16 → i32_at b (104 + 4 * i) ≡ pos 0
  unfolding pre_dispatch_zero i32_at
  pre_dispatch_absent p i l = ap twos (eqb-true (u32_at b (104 + 4 * i)) 0 (each_at (λ i. eqb (u32_at b (104 + 4 * i)) 0) 16 (pre_dispatch_judged false p) i l))

  -- pre-dispatch present or not: each of the sixteen has the bound that its test gives
  pre_dispatch_bound : (i at n : ℕ) → i < 16 → 104 + 4 * i ≡ at → (pre_dispatch_inside b ≡ true → nat_abs (i32_at b at) ≤ n) → nat_abs (i32_at b at) ≤ n
  pre_dispatch_bound i at n l p h = go (present b) refl
    where
      go : (t : Bool) → present b ≡ t → nat_abs (i32_at b at) ≤ n
      go true e = h (pre_dispatch_judged true e)
      go false e = rw (← p, pre_dispatch_absent e i l) (omega arith)

  pre_dispatch_tested : pre_dispatch_inside b ≡ true
      → (each 4 (λ region. price_ok (pre_dispatch_price b region)) ≡ true) × (each 6 (λ i. flow_ok (pre_dispatch_flow b i)) ≡ true) × (each 6 (λ i. loss_ok (pre_dispatch_losses b i)) ≡ true)
  unfolding pre_dispatch_inside
  pre_dispatch_tested t =
      let all = both_true (each 4 (λ region. price_ok (pre_dispatch_price b region))) _ t in
      let rest = both_true (each 6 (λ i. flow_ok (pre_dispatch_flow b i))) _ (sym (pre_dispatch_lines_by_kind b) ∙ all.1) in
      (all.0, rest.0, rest.1)

  pre_dispatch_price_bound : (region : ℕ) → region < 4 → nat_abs (pre_dispatch_price b region).0 ≤ 3000000
  pre_dispatch_price_bound region l =
      pre_dispatch_bound region (104 + 4 * region) 3000000 (omega arith) refl
      (λ t. each_bound 4 (minus 100000) (pos 3000000) (λ region. (pre_dispatch_price b region).0) (pre_dispatch_tested t).0 region l)

  pre_dispatch_flow_bound : (i : ℕ) → i < 6 → nat_abs (pre_dispatch_flow b i).0 ≤ 500000
  pre_dispatch_flow_bound i l =
      pre_dispatch_bound (4 + 2 * i) (120 + 8 * i) 500000 (omega arith) (omega arith)
      (λ t. each_bound 6 (minus 500000) (pos 500000) (λ i. (pre_dispatch_flow b i).0) (pre_dispatch_tested t).1 i l)

  pre_dispatch_losses_bound : (i : ℕ) → i < 6 → nat_abs (pre_dispatch_losses b i).0 ≤ 100000
  pre_dispatch_losses_bound i l =
      pre_dispatch_bound (5 + 2 * i) (124 + 8 * i) 100000 (omega arith) (omega arith)
      (λ t. each_bound 6 (minus 100000) (pos 100000) (λ i. (pre_dispatch_losses b i).0) (pre_dispatch_tested t).2 i l)

  -- ---- the lists
  pub interval_ranged : Ranged (prices b) (lines b) 1000000 200000
  unfolding prices lines
  interval_ranged = ranged (price b) (line_at b) 1000000 200000 price_bound
      (λ i l. omega (arith, abs-add (metered b i).0 (target b i).0, metered_bound i l, target_bound i l))
      (λ i l. times_bound 2 100000 (losses b i).0 (losses_bound i l))

  pub pre_dispatch_ranged : Ranged (pre_dispatch_prices b) (pre_dispatch_lines b) 6000000 1200000
  unfolding pre_dispatch_prices pre_dispatch_lines
  pre_dispatch_ranged = ranged (pre_dispatch_price b) (pre_dispatch_line_at b) 6000000 1200000 pre_dispatch_price_bound
      (λ i l. times_bound 12 500000 (pre_dispatch_flow b i).0 (pre_dispatch_flow_bound i l))
      (λ i l. times_bound 12 100000 (pre_dispatch_losses b i).0 (pre_dispatch_losses_bound i l))

  -- the corridor's target sum
  pub target_sum_bound : (d : ℕ) → nat_abs (target_sum b d).0 ≤ 1000000
  target_sum_bound d = go (reverse d)
    where
      total : ℤ
      total = over_lines (corridor_of d) (λ i. (target b i).0)

      bound : nat_abs total ≤ 1000000
      bound = over_lines_bound (corridor_of d) 500000 (λ i. (target b i).0) target_bound

      go : (r : Bool) → nat_abs (cond r (-ʰ (hundredths total)) (hundredths total)).0 ≤ 1000000
      go true = omega (arith, abs-sub (pos 0) total, bound)
      go false = bound

-- ---- shares
pub share_bound : (o : Opening) (i : ℕ) → i < 6 → get_or (shares_of o) i 0 ≤ 1000
share_bound o i l = go (opens o) refl
  where
    go : (t : Bool) → opens o ≡ t → get_or (cond t o.shares (replicate 6 0)) i 0 ≤ 1000
    go true e = (opened_is o e).shares i l
    go false e = rw (get_or-replicate {A = ℕ} 6 i 0 0 l) (omega arith)
