-- A value for each of the eight directions: what stands at a direction, and that eight values are told by that.
-- Assumes nothing.
use mathlib.Core.Path.{◌≡◌, refl, sym, ◌∙◌}
use mathlib.Core.List.{List, [], ◌∷◌}
use Prim.Native.Nat.{ℕ, zero, suc, ◌+◌, ◌<◌}
use native.Mathlib.Nat.{add-zero, zero-add, add-suc, suc-add}
use native.Mathlib.Omega.{arith}
use lib.ListN.{length, get_or}
use lib.Seq.{ext_get_or}
use Rattle.rules.specs.Market.{of_directions}

module _ {A : Type 0} (f : ℕ → A) (default : A) where
  -- f of m numbers from k on: of eight from 0 on it is `of_directions f`
  abbrev pub from : ℕ → ℕ → List A
  from k zero = []
  from k (suc m) = f k ∷ from (suc k) m

  from_at : (k m i : ℕ) → i < m → get_or (from k m) i default ≡ f (k + i)
  from_at k zero i h = absurd (omega arith)
  from_at k (suc m) zero h = rw add-zero
  from_at k (suc m) (suc i) h = rw (add-suc, ← suc-add) (from_at (suc k) m i (omega arith))

  pub at_direction : (d : ℕ) → d < 8 → get_or (of_directions f) d default ≡ f d
  at_direction d h = from_at 0 8 d h ∙ rw zero-add

  -- Eight values are told by what stands at each direction.
  pub are_directions : (xs : List A) → length xs ≡ 8 → ((d : ℕ) → d < 8 → get_or xs d default ≡ f d) → xs ≡ of_directions f
  are_directions xs eight each = ext_get_or default xs (of_directions f) eight (λ d h. each d (omega arith) ∙ sym (at_direction d (omega arith)))

-- What two functions agree on, they make of the eight alike.
pub same_directions : {A : Type 0} (f g : ℕ → A) (default : A) → ((d : ℕ) → d < 8 → f d ≡ g d) → of_directions f ≡ of_directions g
same_directions f g default h = are_directions g default (of_directions f) refl (λ d l. at_direction f default d l ∙ h d l)
