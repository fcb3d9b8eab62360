-- Laws of the checks of a keep and a return: 22 and 23 under their conditions and in their order.
-- Assumes nothing.
use mathlib.Core.Path.{◌≡◌, refl, ap}
use mathlib.Core.Bool.{Bool, true, false}
use mathlib.Core.List.{[], ◌∷◌}
use Prim.Native.Nat.{ℕ, ◌<◌, ◌≤◌}
use native.Mathlib.Decide.{dec_lt}
use native.Mathlib.Omega.{arith}
use borrow.Author.Tests.{le-ltb, lt-ltb}
use Rattle.std.specs.Prelude.{Ok, Err}
use Rattle.tracker.specs.Promise.{NoPlace, NothingKept, is_accepted}
use Rattle.tracker.proofs.Promise.{numbers}
use Rattle.keeper.specs.Keeper.{highest_place, keep_conditions, return_conditions, keep_outcome, return_outcome}

-- Keeping has 22, a return 22 and then 23.
pub keep_numbers : (k : ℕ) → numbers (keep_conditions k) ≡ 22 ∷ []
unfolding keep_conditions
keep_numbers k = refl

pub return_numbers : (k : ℕ) (nothing : Bool) → numbers (return_conditions k nothing) ≡ 22 ∷ 23 ∷ []
unfolding return_conditions
return_numbers k nothing = refl

-- Numbers 7 and 8, to keep under;
pub keep_at_the_limit : keep_outcome 7 ∷ keep_outcome 8 ∷ [] ≡ Ok tt ∷ Err NoPlace ∷ []
unfolding keep_conditions
keep_at_the_limit = refl

-- and to return to, where something is kept, and where nothing is.
pub return_at_the_limit : return_outcome 7 false ∷ return_outcome 8 false ∷ return_outcome 7 true ∷ return_outcome 8 true ∷ []
    ≡ Ok tt ∷ Err NoPlace ∷ Err NothingKept ∷ Err NoPlace ∷ []
unfolding return_conditions
return_at_the_limit = refl

-- Under each number up to 7 a state can be kept, and returned to.
pub keep_accepted : (k : ℕ) → k ≤ highest_place → keep_outcome k ≡ Ok tt
unfolding keep_conditions
keep_accepted k l = rw (le-ltb highest_place k (omega arith)) refl

pub return_accepted : (k : ℕ) → k ≤ highest_place → return_outcome k false ≡ Ok tt
unfolding return_conditions
return_accepted k l = rw (le-ltb highest_place k (omega arith)) refl

-- With nothing kept there it is 23,
pub return_refused : (k : ℕ) → k ≤ highest_place → return_outcome k true ≡ Err NothingKept
unfolding return_conditions
return_refused k l = rw (le-ltb highest_place k (omega arith)) refl

-- and above 7 it is 22, whether anything is kept or not.
pub no_place_to_return : (k : ℕ) (nothing : Bool) → highest_place < k → return_outcome k nothing ≡ Err NoPlace
unfolding return_conditions
no_place_to_return k nothing l = rw (lt-ltb highest_place k l) refl

-- A return with nothing kept there is refused, whatever the number.
pub return_with_nothing : (k : ℕ) → is_accepted (return_outcome k true) ≡ false
return_with_nothing k = go (dec_lt highest_place k)
  where
    go : Dec (highest_place < k) → is_accepted (return_outcome k true) ≡ false
    go (yes l) = ap is_accepted (no_place_to_return k true l)
    go (no l) = ap is_accepted (return_refused k (omega arith))
