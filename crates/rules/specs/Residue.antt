-- Document 01, "Residue": in grains for a physical interconnector, in cents for a corridor, and the direction that it is assigned to.
use Rattle.std.specs.Prelude.{Bool, cond, List, ℕ, zero, suc, ◌+◌, ◌/◌, ℤ, pos, negsuc, nat_abs, ◌+ℤ◌, ◌-ℤ◌, ◌*ℤ◌, get_or}
use Rattle.std.specs.Bool.{beq}
use Rattle.signed.specs.Range.{minus, negative}
use Rattle.units.specs.declared.Cents.{Cents}
use Rattle.units.specs.declared.Hundredths.{Hundredths}
use Rattle.units.specs.declared.Grains.{Grains}
use Rattle.units.specs.Units.{cents, hundredths, grains, in_grains, ◌+ᶜ◌, ◌+ʰ◌, ◌×ʰ◌, ◌+ᵍ◌, ◌-ᵍ◌}
use Rattle.rules.specs.declared.Line.{Line}
use Rattle.rules.specs.declared.Residue.{Residue}
use Rattle.rules.specs.declared.CorridorResidue.{CorridorResidue}
use Rattle.rules.specs.declared.Region.{Region}
use Rattle.rules.specs.Market.{region_number, corridor, corridor_of, reverse}

-- For a physical interconnector: k is its From loss share in thousandths, a and b as below, P the To price, Q the From price.
-- Its grains are P × (1000a - (1000-k)b) - Q × (1000a + kb).
abbrev pub grains_of : Cents → Cents → ℕ → Line → Grains
grains_of P Q k l =
    grains (P.0 *ℤ (pos 1000 *ℤ l.a.0 -ℤ (pos 1000 -ℤ pos k) *ℤ l.b.0) -ℤ Q.0 *ℤ (pos 1000 *ℤ l.a.0 +ℤ pos k *ℤ l.b.0))

-- An interval has a = metered + target, b = 2 × losses.
abbrev pub interval_line : Hundredths → Hundredths → Hundredths → Line
interval_line metered target losses = record { a = metered +ʰ target; b = pos 2 ×ʰ losses }

-- A pre-dispatch half-hour has a = 12 × flow, b = 12 × losses.
abbrev pub pre_dispatch_line : Hundredths → Hundredths → Line
pre_dispatch_line flow losses = record { a = pos 12 ×ʰ flow; b = pos 12 ×ʰ losses }

-- n, with the sign of z
abbrev pub with_sign : ℤ → ℕ → ℤ
with_sign (pos z) n = pos n
with_sign (negsuc z) n = minus n

-- Half a cent, in grains: of it N8 and N9 make their bounds. The rounding that they bound has its own numbers.
abbrev pub half_cent : ℕ
half_cent = 1200000

-- 2,400,000 grains are one cent: rounded to the nearest cent, halves away from zero.
abbrev pub rounded : Grains → Cents
rounded g = cents (with_sign g.0 ((nat_abs g.0 + 1200000) / 2400000))

-- The rounded residue comes with its leftover, grains minus 2,400,000 × cents (N8).
abbrev pub in_cents : Grains → Residue
in_cents g = record { cents = rounded g; leftover = g -ᵍ in_grains (rounded g) }

-- 0 cents, and nothing left over.
abbrev pub no_residue : Residue
no_residue = record { cents = cents (pos 0); leftover = grains (pos 0) }

-- Forward plus reverse cents, with their leftovers, in grains (N8).
abbrev pub together : Residue → Residue → Grains
together forward back = in_grains (forward.cents +ᶜ back.cents) +ᵍ (forward.leftover +ᵍ back.leftover)

-- The sum of f over n numbers from first on, and over the physical interconnectors of a corridor.
abbrev pub sum_from : ℕ → ℕ → (ℕ → ℤ) → ℤ
sum_from first zero f = pos 0
sum_from first (suc n) f = sum_from first n f +ℤ f (first + n)

abbrev pub over_lines : ℕ → (ℕ → ℤ) → ℤ
over_lines c f = sum_from (corridor c).first (corridor c).lines f

-- Prices by region, in the order of their numbers; a and b, and the shares, by physical interconnector: the same for an interval and for a
-- pre-dispatch half-hour.
module _ (prices : List Cents) (shares : List ℕ) (lines : List Line) where
  abbrev pub price : Region → Cents
  price region = get_or prices (region_number region) (cents (pos 0))

  abbrev pub line : ℕ → Line
  line i = get_or lines i (record { a = hundredths (pos 0); b = hundredths (pos 0) })

  abbrev pub line_grains : ℕ → ℕ → Grains
  line_grains c i = grains_of (price (corridor c).to) (price (corridor c).from) (get_or shares i 0) (line i)

  -- Grains are summed over a corridor,
  abbrev pub corridor_grains : ℕ → Grains
  corridor_grains c = grains (over_lines c (λ i. (line_grains c i).0))

  abbrev pub corridor_flow : ℕ → Hundredths
  corridor_flow c = hundredths (over_lines c (λ i. (line i).a.0))

  -- then rounded. The corridor's sum of a gives the direction: zero or more is From_To, less is To_From.
  abbrev pub corridor_residue : ℕ → CorridorResidue
  corridor_residue c = record { residue = in_cents (corridor_grains c); reverse = negative (corridor_flow c).0 }

-- That direction's residue r is the rounded sum, with its leftover; the other's is 0, and so is its leftover (N8).
abbrev pub along : Bool → CorridorResidue → Residue
along to_from r = cond (beq to_from r.reverse) r.residue no_residue

unfoldable pub residue_of : List Cents → List ℕ → List Line → ℕ → Residue
residue_of prices shares lines d = along (reverse d) (corridor_residue prices shares lines (corridor_of d))
