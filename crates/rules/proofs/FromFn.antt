-- What an array has that `array::from_fn` makes.
-- Assumes nothing.
use mathlib.Core.Path.{◌≡◌, refl, subst, ◌∙◌}
use mathlib.Core.Bool.{Bool, true, false}
use mathlib.Core.List.{List, map}
use Prim.Native.Nat.{ℕ, zero, suc, ◌+◌, ◌≤◌, ◌<◌}
use native.Mathlib.Omega.{arith}
use borrow.Author.Tests.{eqb-true, eqb-false}
use denote.Param.Members.{Mut, Called}
use lib.Dec.{eqb}
use lib.ListN.{get_or}
use Rattle.std.specs.Array.{IsFromFnResult, IsFromFnResultFrom}
use Rattle.std.specs.List.{range_with_len}
use Rattle.std.proofs.lemmas.List.FromFn.{fill_by_all}

at_or_after : {P : Type 0} (i j : ℕ) → i ≤ j → (j ≡ i → P) → (i + 1 ≤ j → P) → P
at_or_after {P} i j h here after = go (eqb j i) refl
  where
    go : (t : Bool) → eqb j i ≡ t → P
    go true e = here (eqb-true j i e)
    go false e = let ne = eqb-false j i e in after (omega arith)

module _ {F B : Type 0} {g : Mut F (ℕ × Unit {0}) B} {callee : F} (f : ℕ → B)
    (computes : (i : ℕ) (y : B) (q : F) → Called g callee (i, tt) y q → (q ≡ callee) × (y ≡ f i)) where
  element : (ys : List B) (i n : ℕ) → IsFromFnResultFrom g callee ys i n → (d : B) (j : ℕ) → i ≤ j → j < i + n → get_or ys j d ≡ f j
  element ys i zero e d j h l = absurd (omega arith)
  element ys i (suc n) e d j h l =
      let call = computes i e.1 e.0 e.3 in
      at_or_after i j h
      (λ here. rw here (e.2.1 d ∙ call.1))
      (λ after. element ys (i + 1) n (subst (λ q. IsFromFnResultFrom g q ys (i + 1) n) call.0 e.4) d j after (omega arith))

  pub filled : {ys : List B} (n : ℕ) → IsFromFnResult g callee ys n → ys ≡ map f (range_with_len 0 n)
  filled {ys} n r = fill_by_all f ys n (f 0) r.long (λ j l. element ys 0 n r.each (f 0) j (omega arith) (omega arith))
