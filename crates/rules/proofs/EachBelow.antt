-- What `each n f` says of the numbers below n, and how it is shown.
-- Assumes nothing.
use mathlib.Core.List.{List, [], ◌∷◌}
use mathlib.Core.Path.{◌≡◌, refl, sym, ap, subst, ◌∙◌}
use mathlib.Core.Bool.{Bool, true, false, ◌&&◌, ◌||◌, false≢true}
use Prim.Native.Nat.{ℕ, zero, suc, ◌+◌, ◌<◌}
use native.Mathlib.Numerals.{add-one}
use native.Mathlib.Omega.{arith}
use borrow.Author.Tests.{eqb-true, eqb-false}
use lib.Dec.{eqb}
use lib.ListN.{length, get_or}
use Rattle.std.specs.List.{list_all, range_with_len}
use Rattle.rules.specs.Refusal.{each}

pub both_true : (x y : Bool) → (x && y) ≡ true → (x ≡ true) × (y ≡ true)
both_true true y e = (refl, e)
both_true false y e = absurd (false≢true e)

pub both_false : (x y : Bool) → (x || y) ≡ false → (x ≡ false) × (y ≡ false)
both_false true y e = absurd (false≢true (sym e))
both_false false y e = (refl, e)

-- a number at most n is below n or is n
pub below_or_last : {P : ℕ → Type 0} (n : ℕ) → ((i : ℕ) → i < n → P i) → P n → (i : ℕ) → i < suc n → P i
below_or_last {P} n below last i h = go (eqb i n) refl
  where
    go : (t : Bool) → eqb i n ≡ t → P i
    go true e = subst P (sym (eqb-true i n e)) last
    go false e = let ne = eqb-false i n e in below i (omega arith)

module _ (f : ℕ → Bool) where
  pub each_at : (n : ℕ) → each n f ≡ true → (i : ℕ) → i < n → f i ≡ true
  unfolding each
  each_at zero e i h = absurd (omega arith)
  each_at (suc n) e i h =
      let b = both_true (each n f) (f n) e in
      below_or_last {P = λ i. f i ≡ true} n (each_at n b.0) b.1 i h

  pub each_next : (n : ℕ) → each n f ≡ true → f n ≡ true → each (suc n) f ≡ true
  unfolding each
  each_next n e h = ap (λ t. t && f n) e ∙ h

  pub each_by : (n : ℕ) → ((i : ℕ) → i < n → f i ≡ true) → each n f ≡ true
  unfolding each
  each_by zero h = refl
  each_by (suc n) h = each_next n (each_by n (λ i l. h i (omega arith))) (h n (omega arith))

  pub each_fails : (n i : ℕ) → i < n → f i ≡ false → each n f ≡ false
  unfolding each
  each_fails n i h e = go (each n f) refl
    where
      go : (t : Bool) → each n f ≡ t → each n f ≡ false
      go true k = absurd (false≢true (sym e ∙ each_at n k i h))
      go false k = k

  -- A loop that tests one number after the other: before the first, at the next, at the end. For callers, by tracker/proofs/Promise.
  pub each_none : each 0 f ≡ true
  unfolding each
  each_none = refl

  pub each_one_more : {i : ℕ} → each i f ≡ true → f i ≡ true → each (i + 1) f ≡ true
  each_one_more {i} e h = rw (add-one i) (each_next i e h)

  pub each_up_to : {i n : ℕ} → each i f ≡ true → i ≡ n → each n f ≡ true
  each_up_to e h = subst (λ (m : ℕ). each m f ≡ true) h e

-- Tests that agree on each number below n.
pub each_same : (n : ℕ) (f g : ℕ → Bool) → ((i : ℕ) → i < n → f i ≡ g i) → each n f ≡ each n g
unfolding each
each_same zero f g h = refl
each_same (suc n) f g h = rw (each_same n f g (λ i l. h i (omega arith)), h n (omega arith))

-- Two tests of each number are two rounds of one test.
pub each_both : (f g : ℕ → Bool) (n : ℕ) → each n (λ i. f i && g i) ≡ (each n f && each n g)
unfolding each
each_both f g zero = refl
each_both f g (suc n) = rw (each_both f g n) (exchange (each n f) (each n g) (f n) (g n))
  where
    exchange : (a b x y : Bool) → ((a && b) && (x && y)) ≡ ((a && x) && (b && y))
    exchange true true x y = refl
    exchange true false true y = refl
    exchange true false false y = refl
    exchange false b x y = refl

-- ---- iterators: `all` over a slice and over a range
-- The first number apart from the others.
each_first : (n : ℕ) (f : ℕ → Bool) → each (suc n) f ≡ (f 0 && each n (λ i. f (suc i)))
unfolding each
each_first zero f = swap (f 0)
  where
    swap : (b : Bool) → (true && b) ≡ (b && true)
    swap true = refl
    swap false = refl
each_first (suc n) f = rw (each_first n f) (grouped (f 0) (each n (λ i. f (suc i))) (f (suc n)))
  where
    grouped : (a b c : Bool) → ((a && b) && c) ≡ (a && (b && c))
    grouped true b c = refl
    grouped false b c = refl

-- Each of the n items of a list passes; x stands past its end.
items_pass : {A : Type 0} (p : A → Bool) (x : A) (xs : List A) → list_all p xs ≡ each (length xs) (λ i. p (get_or xs i x))
unfolding each
items_pass p x [] = refl
items_pass p x (y ∷ ys) = rw (items_pass p x ys) (sym (each_first (length ys) (λ i. p (get_or (y ∷ ys) i x))))

pub each_item : {A : Type 0} (p : A → Bool) (x : A) (xs : List A) {n : ℕ} → length xs ≡ n → list_all p xs ≡ each n (λ i. p (get_or xs i x))
each_item p x xs e = items_pass p x xs ∙ ap (λ (m : ℕ). each m (λ i. p (get_or xs i x))) e

-- Each of the n numbers from a on passes.
each_from : (f : ℕ → Bool) (a n : ℕ) → list_all f (range_with_len a n) ≡ each n (λ i. f (a + i))
unfolding each
each_from f a zero = refl
each_from f a (suc n) =
    let start : f a ≡ f (a + 0) = ap f (omega arith) in
    let others : each n (λ i. f (a + 1 + i)) ≡ each n (λ i. f (a + suc i)) = each_same n (λ i. f (a + 1 + i)) (λ i. f (a + suc i)) (λ i l. ap f (omega arith)) in
    ap (λ t. f a && t) (each_from f (a + 1) n ∙ others) ∙ ap (λ t. t && each n (λ i. f (a + suc i))) start ∙ sym (each_first n (λ i. f (a + i)))

pub each_number : (f : ℕ → Bool) (n : ℕ) → list_all f (range_with_len 0 n) ≡ each n f
each_number f n = each_from f 0 n ∙ each_same n (λ i. f (0 + i)) f (λ i l. ap f (omega arith))
