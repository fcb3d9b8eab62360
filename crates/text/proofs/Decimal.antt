-- The decimal digits of a number: enough turns give the same, they are std's, and how many there are.
-- Assumes nothing.
use mathlib.Core.Path.{◌≡◌, refl, sym}
use mathlib.Core.Bool.{Bool, true, false, cond, false≢true}
use mathlib.Core.List.{List, [], ◌∷◌, ◌++◌}
use Prim.Native.Nat.{ℕ, zero, suc, ◌+◌, ◌/◌, ◌%◌, ◌^◌, ◌<◌, ◌≤◌}
use native.Mathlib.Nat.{pow-suc}
use native.Mathlib.Omega.{arith}
use borrow.Author.Tests.{lt-ltb, le-ltb}
use lib.Dec.{ltb}
use lib.IntN.{ℤ, pos, negsuc, nat_abs}
use lib.ListN.{length, length-append}
use Rattle.std.specs.Fmt as std
use Rattle.std.proofs.lemmas.Fmt.{decimal_by_steps}
use Rattle.signed.specs.Range.{negative}
use Rattle.text.specs.Text.{decimal, dec_of, signed_of, number_cell, signed_cell}

-- with enough turns the digits are those that std gives
same_by_turns : (n : ℕ) → n < 2 ^ 64 → (turns : ℕ) → n < 10 ^ suc turns → decimal turns n ≡ std.decimal n
unfolding decimal
same_by_turns = decimal_by_steps (λ m ds. (turns : ℕ) → m < 10 ^ suc turns → decimal turns m ≡ ds) one more
  where
    one : (m : ℕ) → m < 10 → (turns : ℕ) → m < 10 ^ suc turns → decimal turns m ≡ (48 + m) ∷ []
    one m k zero h = refl
    one m k (suc turns) h = rw (lt-ltb m 10 k) refl

    more : (m : ℕ) (ds : List ℕ) → 10 ≤ m → ((turns : ℕ) → m / 10 < 10 ^ suc turns → decimal turns (m / 10) ≡ ds)
        → (turns : ℕ) → m < 10 ^ suc turns → decimal turns m ≡ ds ++ ((48 + m % 10) ∷ [])
    more m ds k same zero h = absurd (omega arith)
    more m ds k same (suc turns) h =
        let p = pow-suc 10 (suc turns) in
        rw (le-ltb m 10 k, same turns (omega arith)) refl

pub same_digits : (n : ℕ) → n < 2 ^ 64 → dec_of n ≡ std.decimal n
unfolding dec_of
same_digits n h = same_by_turns n h 19 (omega arith)

-- a number below 10 ^ k, k at least 1, has at most k digits
short_by : (k turns n : ℕ) → ((i : ℕ) → i < 10 ^ k → length (decimal turns i) ≤ k) → n < 10 ^ suc k
    → (t : Bool) → ltb n 10 ≡ t
    → length (cond t ((48 + n) ∷ []) (decimal turns (n / 10) ++ ((48 + n % 10) ∷ []))) ≤ suc k
short_by k turns n ih h true e = omega arith
short_by k turns n ih h false e =
    let p = pow-suc 10 k in
    let l = ih (n / 10) (omega arith) in
    omega (arith, length-append (decimal turns (n / 10)) ((48 + n % 10) ∷ []))

short_turns : (turns k n : ℕ) → n < 10 ^ suc k → length (decimal turns n) ≤ suc k
unfolding decimal
short_turns zero k n h = omega arith
short_turns (suc turns) zero n h = let e : ltb n 10 ≡ true = lt-ltb n 10 (omega arith) in rw e (omega arith)
short_turns (suc turns) (suc k) n h = short_by (suc k) turns n (short_turns turns k) h (ltb n 10) refl

short : (k n : ℕ) → n < 10 ^ suc k → length (dec_of n) ≤ suc k
unfolding dec_of
short k n h = short_turns 19 k n h

pub short_count : (k n e : ℕ) → n < 10 ^ suc k → length (number_cell n e) ≤ suc (suc k)
unfolding number_cell
short_count k n e h = let z = short k n h in simp length-append (omega arith)

pub short_cell : (k : ℕ) (z : ℤ) (e : ℕ) → nat_abs z < 10 ^ suc k → length (signed_cell z e) ≤ suc (suc (suc k))
unfolding signed_cell signed_of
short_cell k (pos n) e h = let z = short k n h in simp length-append (omega arith)
short_cell k (negsuc n) e h = let z = short k (suc n) h in simp length-append (omega arith)

-- a negative number is a minus and its magnitude, another its magnitude alone
pub cell_minus : (z : ℤ) (e : ℕ) → negative z ≡ true → signed_cell z e ≡ (45 ∷ []) ++ number_cell (nat_abs z) e
unfolding signed_cell signed_of number_cell
cell_minus (pos n) e h = absurd (false≢true h)
cell_minus (negsuc n) e h = refl

pub cell_plain : (z : ℤ) (e : ℕ) → negative z ≡ false → signed_cell z e ≡ number_cell (nat_abs z) e
unfolding signed_cell signed_of number_cell
cell_plain (pos n) e h = refl
cell_plain (negsuc n) e h = absurd (false≢true (sym h))

-- a signed number is no shorter than its magnitude
pub cell_longer : (z : ℤ) (e : ℕ) → length (number_cell (nat_abs z) e) ≤ length (signed_cell z e)
unfolding signed_cell signed_of number_cell
cell_longer (pos n) e = omega arith
cell_longer (negsuc n) e = omega arith
