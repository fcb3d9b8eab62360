-- What `all` says of a range and of a part of a slice: that `each` number passes; and that bytes are all 0 where the numbers that they make are.
-- Assumes nothing.
use mathlib.Core.Path.{◌≡◌, refl, ap, ◌∙◌}
use mathlib.Core.Bool.{Bool, ◌&&◌}
use mathlib.Core.List.{List}
use Prim.Native.Nat.{ℕ, zero, suc, ◌+◌, ◌*◌, ◌≤◌}
use native.Mathlib.Omega.{arith}
use denote.Param.Members.{Mut}
use denote.Ref.{Bor}
use lib.Dec.{eqb}
use lib.ListN.{length, get_or, take, drop}
use Rattle.std.specs.declared.ops.Range.{Range}
use Rattle.std.specs.declared.slice.Iter.{Iter}
use Rattle.std.specs.Fn.{Called}
use Rattle.std.specs.Iterator.{ChecksAll}
use Rattle.std.specs.Slice.Iter.{iter_rest}
use Rattle.std.proofs.iter.Yields.{fronts, nat_range_steps}
use Rattle.std.proofs.lemmas.Iterator.{YieldsList-from_range, YieldsList-from_slice}
use Rattle.std.proofs.lemmas.Iterator.Search.{all_from_yields_List}
use Rattle.std.proofs.lemmas.List.{length-take-le, length-drop, get_or-take, get_or-drop}
use Rattle.std.proofs.lemmas.Bool.Decides.{nat_tests}
use Rattle.rules.specs.Record.{byte_at, u32_at}
use Rattle.rules.specs.Refusal.{each}
use Rattle.rules.proofs.EachBelow.{each_same, each_item, each_number}

-- `(0..n).all(..)`, at a closure that computes f
pub all_below : {F : Type 0} {g : Mut F (ℕ × Unit {0}) Bool} {callee : F} {left : Range ℕ} {r : Bool} (f : ℕ → Bool) (n : ℕ)
    → ChecksAll nat_range_steps g (record { start = 0; end = n }) callee r left
    → ((i : ℕ) (b : Bool) (q : F) → Called g callee (i, tt) b q → (q ≡ callee) × (b ≡ f i))
    → r ≡ each n f
all_below f n ran computes = all_from_yields_List f _ _ _ ran (YieldsList-from_range 0 n n refl (omega arith)) computes ∙ each_number f n

-- `s[from..from + n].iter().all(..)`, at a closure that computes a test
pub all_of_part : {A F : Type 0} {g : Mut F (Bor A × Unit {0}) Bool} {callee : F} {s left : Iter A} {r : Bool} (test : A → Bool) (b : List A) (from n : ℕ) (d : A)
    → from + n ≤ length b
    → ChecksAll fronts g s callee r left
    → iter_rest s ≡ take n (drop from b)
    → ((x : Bor A) (t : Bool) (q : F) → Called g callee (x, tt) t q → (q ≡ callee) × (t ≡ test x.now))
    → r ≡ each n (λ i. test (get_or b (from + i) d))
all_of_part test b from n d room ran rest computes =
    all_from_yields_List test _ _ _ ran (YieldsList-from_slice (take n (drop from b)) rest) computes
    ∙ each_item test d (take n (drop from b)) (length-take-le n (drop from b) (omega (arith, length-drop from b)))
    ∙ each_same n (λ i. test (get_or (take n (drop from b)) i d)) (λ i. test (get_or b (from + i) d))
    (λ i l. ap test (get_or-take n (drop from b) i d l ∙ get_or-drop from b i d))

-- a number is 0 where its four bytes are
word_zero : (t : Bool) (a b c d : ℕ) → ((((t && eqb a 0) && eqb b 0) && eqb c 0) && eqb d 0) ≡ (t && eqb (a + 256 * b + 65536 * c + 16777216 * d) 0)
word_zero t a b c d = grind (arith, nat_tests)

-- n numbers are 0 where their bytes are
pub words_zero : (s : List ℕ) (first n : ℕ) → each (4 * n) (λ i. eqb (byte_at s (first + i)) 0) ≡ each n (λ i. eqb (u32_at s (first + 4 * i)) 0)
unfolding each u32_at
words_zero s first zero = refl
words_zero s first (suc n) =
    let four : 4 * suc n ≡ suc (suc (suc (suc (4 * n)))) = omega arith in
    let second : first + suc (4 * n) ≡ first + 4 * n + 1 = omega arith in
    let third : first + suc (suc (4 * n)) ≡ first + 4 * n + 2 = omega arith in
    let fourth : first + suc (suc (suc (4 * n))) ≡ first + 4 * n + 3 = omega arith in
    rw (four, second, third, fourth, words_zero s first n)
    (word_zero (each n (λ i. eqb (u32_at s (first + 4 * i)) 0)) (byte_at s (first + 4 * n)) (byte_at s (first + 4 * n + 1)) (byte_at s (first + 4 * n + 2)) (byte_at s (first + 4 * n + 3)))
