-- `==` of two signed numbers compares their bits.
-- Assumes nothing.
use mathlib.Core.Path.{◌≡◌, refl, sym, ap, ◌∙◌}
use mathlib.Core.Bool.{Bool, true, false}
use lib.Dec.{eqb}
use lib.IntN.{ℤ}
use borrow.Author.Tests.{eqb-true, eqb-false}
use mir.Syntax.{Width}
use mir.Val.{SFits, to_z, of_z}
use mir.ValLaws.{to_z-of_z}
use Rattle.signed.specs.Range.{eq_z}
use Rattle.signed.proofs.NatParts.{eq_z_yes, eq_z_no, eq_is, eq_by}

-- Two numbers that fit are equal if their bits are.
pub bits_eq : {w : Width} {a b : ℤ} → SFits w a → SFits w b → of_z w a ≡ of_z w b → a ≡ b
bits_eq {w} {a} {b} f g e = sym (to_z-of_z w a f) ∙ ap (to_z w) e ∙ to_z-of_z w b g

-- So the code's `a == b` is the definition's test.
pub eqb_bits : {w : Width} {a b : ℤ} → SFits w a → SFits w b → eqb (of_z w a) (of_z w b) ≡ eq_z a b
eqb_bits {w} {a} {b} f g = go (eqb (of_z w a) (of_z w b)) refl
  where
    go : (t : Bool) → eqb (of_z w a) (of_z w b) ≡ t → eqb (of_z w a) (of_z w b) ≡ eq_z a b
    go true e = e ∙ sym (eq_z_yes a b (eq_is a b (bits_eq f g (eqb-true (of_z w a) (of_z w b) e))))
    go false e = e ∙ sym (eq_z_no a b (λ q. eqb-false (of_z w a) (of_z w b) e (ap (of_z w) (eq_by a b q))))
