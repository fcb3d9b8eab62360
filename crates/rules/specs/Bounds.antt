-- How large the numbers of a tracker and of a row get.
use Rattle.std.specs.Prelude.{false, ◌≡◌, ℕ, suc, ◌+◌, ◌*◌, ◌≤◌, ◌<◌, pos, nat_abs}
use Rattle.signed.specs.Range.{minus, negative, Within}
use Rattle.units.specs.declared.Grains.{Grains}
use Rattle.rules.specs.declared.Period.{Period}
use Rattle.rules.specs.declared.Period.TheVariants.{None, Held}
use Rattle.rules.specs.declared.Direction.{Direction}
use Rattle.rules.specs.declared.Row.{Row}
use Rattle.rules.specs.Residue.{half_cent}
use Rattle.rules.specs.Refusal.{highest_number}

-- cents: a residue, an estimate, and a sum of residues over all intervals
abbrev pub highest_residue : ℕ
highest_residue = 6000000000

abbrev pub highest_next : ℕ
highest_next = 36000000000

abbrev pub highest_sum : ℕ
highest_sum = suc highest_number * highest_residue

-- grains: what rounding leaves over lies between -1,200,000 and 1,200,000, half a cent either way, both included (N8)
abbrev pub WithinHalfCent : Grains → Type 0
WithinHalfCent g = Within (minus half_cent) (pos half_cent) g.0

-- a period begins no later than the awaited number a, and ends at most 11 intervals after it
pub record PeriodBounds (a first last : ℕ) : Type 0 where
  pub begun : first ≤ a
  pub ends : last ≤ a + 11

abbrev pub BoundedPeriod : ℕ → Period → Type 0
BoundedPeriod a None = Unit {0}
BoundedPeriod a (Held first last extended) = PeriodBounds a first last

-- what a tracker that awaits a keeps of a direction
pub record Bounds (a : ℕ) (s : Direction) : Type 0 where
  pub previous : nat_abs s.sums.previous.0 ≤ highest_sum
  pub current : nat_abs s.sums.current.0 ≤ highest_sum
  pub amount : nat_abs s.sums.previous.0 + nat_abs s.sums.current.0 ≤ highest_sum
  pub net : nat_abs s.sums.net.0 ≤ highest_sum
  pub residue : nat_abs s.residue.0 ≤ highest_residue
  pub leftover : WithinHalfCent s.leftover
  pub next : nat_abs s.next.0 ≤ highest_next
  pub period : BoundedPeriod a s.period
  pub unbound : s.counts.unbound ≤ 3
  pub violated : s.counts.violated ≤ 3
  pub clamp : Within (pos 0) (pos 2000000) s.clamp.0

-- what a row shows
pub record RowBounds (r : Row) : Type 0 where
  pub n : r.n ≤ highest_number
  pub direction : r.direction < 8
  pub residue : nat_abs r.residue.0 ≤ highest_residue
  pub previous : nat_abs r.previous.0 ≤ highest_sum
  pub current : nat_abs r.current.0 ≤ highest_sum
  pub amount : nat_abs r.amount.0 ≤ highest_sum
  pub next : nat_abs r.next.0 ≤ highest_next
  pub net : nat_abs r.net.0 ≤ highest_sum
  pub clamp : nat_abs r.clamp.0 ≤ 2000000
  pub unsigned : negative r.clamp.0 ≡ false
  pub leftover : WithinHalfCent r.leftover
