-- Cents, hundredths of a MW and grains: numbers in three types that do not mix.
use Rattle.std.specs.Prelude.{cond, ℤ, pos, ◌+ℤ◌, ◌-ℤ◌, ◌*ℤ◌}
use Rattle.signed.specs.Range.{negative}
use Rattle.units.specs.declared.Cents.{Cents}
use Rattle.units.specs.declared.Hundredths.{Hundredths}
use Rattle.units.specs.declared.Grains.{Grains}

infixl 6 ◌+ᶜ◌ ◌+ʰ◌ ◌+ᵍ◌ ◌-ᵍ◌
infixl 7 ◌×ʰ◌
infix 8 -ʰ◌
abbrev pub cents : ℤ → Cents
cents z = record { 0 = z }

abbrev pub ◌+ᶜ◌ : Cents → Cents → Cents
a +ᶜ b = cents (a.0 +ℤ b.0)

-- the lower of an amount and 0
abbrev pub lower_of_zero : Cents → Cents
lower_of_zero a = cond (negative a.0) a (cents (pos 0))

abbrev pub hundredths : ℤ → Hundredths
hundredths z = record { 0 = z }

abbrev pub ◌+ʰ◌ : Hundredths → Hundredths → Hundredths
a +ʰ b = hundredths (a.0 +ℤ b.0)

abbrev pub ◌×ʰ◌ : ℤ → Hundredths → Hundredths
n ×ʰ a = hundredths (n *ℤ a.0)

abbrev pub -ʰ◌ : Hundredths → Hundredths
-ʰ a = hundredths (pos 0 -ℤ a.0)

abbrev pub grains : ℤ → Grains
grains z = record { 0 = z }

abbrev pub ◌+ᵍ◌ : Grains → Grains → Grains
a +ᵍ b = grains (a.0 +ℤ b.0)

abbrev pub ◌-ᵍ◌ : Grains → Grains → Grains
a -ᵍ b = grains (a.0 -ℤ b.0)

-- 2,400,000 grains are one cent
abbrev pub in_grains : Cents → Grains
in_grains c = grains (pos 2400000 *ℤ c.0)
