-- A signed number as two naturals, of which one is 0: `up z` is z where z is not negative, `dn z` is -z where z is negative.
-- `omega (arith, signed)` proves linear facts about signed numbers: the set turns each `≤ℤ`, `<ℤ`, `≡` of ℤ, `SFits` and each test `le_z`, `lt_z` in
-- reach, and the goal, into facts about the parts.
-- Of each sum, difference, negation, multiple and magnitude its law goes into the list: `sum a b`, `diff a b`, `neg a`, `times n a`, `abs_is a`.
-- Assumes nothing.
use mathlib.Core.Path.{◌≡◌, refl, sym, ap, ◌∙◌, subst}
use mathlib.Core.Bool.{Bool, true, false, cond, false≢true}
use Prim.Native.Nat.{ℕ, zero, suc, ◌+◌, ◌*◌, ◌-◌, ◌^◌, ◌≤◌, ◌<◌, max}
use native.Mathlib.Omega.{arith}
use native.Mathlib.Nat.{mul-zero}
use lib.Dec.{T, ltb}
use lib.IntN.{ℤ, pos, negsuc, neg_ℤ, nat_abs, sub_ℕ, ◌+ℤ◌, ◌-ℤ◌, ◌*ℤ◌}
use lib.Signed.{mag, le_z, lt_z, ◌≤ℤ◌, ◌<ℤ◌}
use mathlib.Core.Logic.{◌≢◌}
use borrow.Author.Tests.{ltb-true, ltb-false, leb-true, leb-false, eqb-true, eqb-false}
use Rattle.signed.specs.Range.{negative, eq_z, Within, within}
use mir.Facts.{and_yes}
use mir.Syntax.{Width}
use mir.Val.{SFits, hbits}

abbrev pub up : ℤ → ℕ
up (pos n) = n
up (negsuc n) = 0

abbrev pub dn : ℤ → ℕ
dn (pos n) = 0
dn (negsuc n) = suc n

truth : (t : Bool) → t ≡ true → T t
truth t e = subst T (sym e) tt

-- a test that cannot fail, and one that cannot pass
passes : (t : Bool) → (t ≡ false → ⊥) → t ≡ true
passes true h = refl
passes false h = absurd (h refl)

fails : (t : Bool) → (t ≡ true → ⊥) → t ≡ false
fails true h = absurd (h refl)
fails false h = refl

yes_is : (t : Bool) → T t → t ≡ true
yes_is t h = passes t (λ e. subst T e h)

-- ---- a test, an order or an equation in reach, as a fact about the parts ..
pub le_z_is : (a b : ℤ) → le_z a b ≡ true → up a + dn b ≤ up b + dn a
le_z_is (pos a) (pos b) e = omega (arith, leb-true a b e)
le_z_is (pos a) (negsuc b) e = absurd (false≢true e)
le_z_is (negsuc a) (pos b) e = omega arith
le_z_is (negsuc a) (negsuc b) e = omega (arith, leb-true b a e)

pub not_le_z : (a b : ℤ) → le_z a b ≡ false → up b + dn a < up a + dn b
not_le_z (pos a) (pos b) e = omega (arith, leb-false a b e)
not_le_z (pos a) (negsuc b) e = omega arith
not_le_z (negsuc a) (pos b) e = absurd (false≢true (sym e))
not_le_z (negsuc a) (negsuc b) e = omega (arith, leb-false b a e)

pub lt_z_is : (a b : ℤ) → lt_z a b ≡ true → up a + dn b < up b + dn a
lt_z_is (pos a) (pos b) e = omega (arith, ltb-true a b e)
lt_z_is (pos a) (negsuc b) e = absurd (false≢true e)
lt_z_is (negsuc a) (pos b) e = omega arith
lt_z_is (negsuc a) (negsuc b) e = omega (arith, ltb-true b a e)

pub not_lt_z : (a b : ℤ) → lt_z a b ≡ false → up b + dn a ≤ up a + dn b
not_lt_z (pos a) (pos b) e = omega (arith, ltb-false a b e)
not_lt_z (pos a) (negsuc b) e = omega arith
not_lt_z (negsuc a) (pos b) e = absurd (false≢true (sym e))
not_lt_z (negsuc a) (negsuc b) e = omega (arith, ltb-false b a e)

pub eq_z_is : (a b : ℤ) → eq_z a b ≡ true → up a + dn b ≡ up b + dn a
eq_z_is (pos a) (pos b) e = omega (arith, eqb-true a b e)
eq_z_is (pos a) (negsuc b) e = absurd (false≢true e)
eq_z_is (negsuc a) (pos b) e = absurd (false≢true e)
eq_z_is (negsuc a) (negsuc b) e = omega (arith, eqb-true a b e)

pub not_eq_z : (a b : ℤ) → eq_z a b ≡ false → up a + dn b ≢ up b + dn a
not_eq_z (pos a) (pos b) e q = eqb-false a b e (omega arith)
not_eq_z (pos a) (negsuc b) e q = omega arith
not_eq_z (negsuc a) (pos b) e q = omega arith
not_eq_z (negsuc a) (negsuc b) e q = eqb-false a b e (omega arith)

pub le_is : (a b : ℤ) → a ≤ℤ b → up a + dn b ≤ up b + dn a
le_is a b h = le_z_is a b (yes_is (le_z a b) h.le)

pub lt_is : (a b : ℤ) → a <ℤ b → up a + dn b < up b + dn a
lt_is a b h = lt_z_is a b (yes_is (lt_z a b) h.lt)

pub eq_is : (a b : ℤ) → a ≡ b → up a + dn b ≡ up b + dn a
eq_is a b e = subst (λ (z : ℤ). up a + dn z ≡ up z + dn a) e refl

-- .. and as a goal
pub le_z_yes : (a b : ℤ) → up a + dn b ≤ up b + dn a → le_z a b ≡ true
le_z_yes a b h = passes (le_z a b) (λ e. omega (arith, not_le_z a b e))

pub le_z_no : (a b : ℤ) → up b + dn a < up a + dn b → le_z a b ≡ false
le_z_no a b h = fails (le_z a b) (λ e. omega (arith, le_z_is a b e))

pub lt_z_yes : (a b : ℤ) → up a + dn b < up b + dn a → lt_z a b ≡ true
lt_z_yes a b h = passes (lt_z a b) (λ e. omega (arith, not_lt_z a b e))

pub lt_z_no : (a b : ℤ) → up b + dn a ≤ up a + dn b → lt_z a b ≡ false
lt_z_no a b h = fails (lt_z a b) (λ e. omega (arith, lt_z_is a b e))

pub eq_z_yes : (a b : ℤ) → up a + dn b ≡ up b + dn a → eq_z a b ≡ true
eq_z_yes a b q = passes (eq_z a b) (λ e. not_eq_z a b e q)

pub eq_z_no : (a b : ℤ) → up a + dn b ≢ up b + dn a → eq_z a b ≡ false
eq_z_no a b h = fails (eq_z a b) (λ e. h (eq_z_is a b e))

pub le_by : (a b : ℤ) → up a + dn b ≤ up b + dn a → a ≤ℤ b
le_by a b h = record { le = truth (le_z a b) (le_z_yes a b h) }

pub lt_by : (a b : ℤ) → up a + dn b < up b + dn a → a <ℤ b
lt_by a b h = record { lt = truth (lt_z a b) (lt_z_yes a b h) }

pub eq_by : (a b : ℤ) → up a + dn b ≡ up b + dn a → a ≡ b
eq_by (pos a) (pos b) h = let e : a ≡ b = omega arith in ap pos e
eq_by (pos a) (negsuc b) h = let z : ⊥ = omega arith in absurd z
eq_by (negsuc a) (pos b) h = let z : ⊥ = omega arith in absurd z
eq_by (negsuc a) (negsuc b) h = let e : a ≡ b = omega arith in ap negsuc e

mag_parts : (z : ℤ) → suc (mag z) ≡ max (suc (up z) - dn z) (dn z - up z)
mag_parts (pos n) = omega arith
mag_parts (negsuc n) = omega arith

pub sfits_by : (w : Width) (z : ℤ) → max (suc (up z) - dn z) (dn z - up z) ≤ 2 ^ hbits w → SFits w z
sfits_by w z h = record { sfits = subst (λ (n : ℕ). n ≤ 2 ^ hbits w) (sym (mag_parts z)) h }

pub ruleset signed = (le_is, lt_is, eq_is, le_z_is, lt_z_is, not_le_z, not_lt_z, le_by, lt_by, eq_by, le_z_yes, lt_z_yes, le_z_no, lt_z_no, sfits_by, eq_z_is, not_eq_z, eq_z_yes, eq_z_no)

-- ---- sums, differences, multiples: facts to list
sub_parts : (a b : ℕ) → up (sub_ℕ a b) + b ≡ a + dn (sub_ℕ a b)
sub_parts a b = go (ltb a b) refl
  where
    go : (t : Bool) → ltb a b ≡ t → up (cond t (negsuc (b - suc a)) (pos (a - b))) + b ≡ a + dn (cond t (negsuc (b - suc a)) (pos (a - b)))
    go true e = omega (arith, ltb-true a b e)
    go false e = omega (arith, ltb-false a b e)

pub sum : (a b : ℤ) → up (a +ℤ b) + (dn a + dn b) ≡ (up a + up b) + dn (a +ℤ b)
sum (pos a) (pos b) = omega arith
sum (pos a) (negsuc b) = omega (arith, sub_parts a (suc b))
sum (negsuc a) (pos b) = omega (arith, sub_parts b (suc a))
sum (negsuc a) (negsuc b) = omega arith

up_neg : (a : ℤ) → up (neg_ℤ a) ≡ dn a
up_neg (pos zero) = refl
up_neg (pos (suc n)) = refl
up_neg (negsuc n) = refl

dn_neg : (a : ℤ) → dn (neg_ℤ a) ≡ up a
dn_neg (pos zero) = refl
dn_neg (pos (suc n)) = refl
dn_neg (negsuc n) = refl

pub neg : (a : ℤ) → (up (neg_ℤ a) ≡ dn a) × (dn (neg_ℤ a) ≡ up a)
neg a = (up_neg a, dn_neg a)

pub diff : (a b : ℤ) → up (a -ℤ b) + (dn a + up b) ≡ (up a + dn b) + dn (a -ℤ b)
diff a b = omega (arith, sum a (neg_ℤ b), neg b)

pub times : (n : ℕ) (a : ℤ) → (up (pos n *ℤ a) ≡ n * up a) × (dn (pos n *ℤ a) ≡ n * dn a)
times n (pos a) = (refl, sym (mul-zero n))
times n (negsuc a) = (up_neg (pos (n * suc a)) ∙ sym (mul-zero n), dn_neg (pos (n * suc a)))

-- ---- magnitude
pub abs_by : (a : ℤ) {n : ℕ} → (up a ≤ n + dn a) × (dn a ≤ n + up a) → nat_abs a ≤ n
abs_by (pos a) h = omega arith
abs_by (negsuc a) h = omega arith

pub abs_is : (a : ℤ) → (up a ≤ nat_abs a + dn a) × (dn a ≤ nat_abs a + up a)
abs_is (pos n) = omega arith
abs_is (negsuc n) = omega arith

-- a range that was tested
pub passed : (lo hi z : ℤ) → within lo hi z ≡ true → Within lo hi z
passed lo hi z e =
    let t = and_yes (le_z lo z) (le_z z hi) (truth (within lo hi z) e) in
    record { low = record { le = t.0 }; high = record { le = t.1 } }

-- the code's test `z < 0`
pub below_zero : (z : ℤ) → lt_z z (pos 0) ≡ negative z
below_zero (pos n) = lt_z_no (pos n) (pos 0) (omega arith)
below_zero (negsuc n) = refl
