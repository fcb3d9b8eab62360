-- What the functions over a record are asked and give, where the rules have no name for it. No promise cites this.
use Rattle.std.specs.Prelude.{Bool, not, ◌&&◌, List, ◌≡◌, ℕ, ◌+◌, ◌*◌, ◌≤◌, eqb, nat_abs}
use Rattle.units.specs.declared.Cents.{Cents}
use Rattle.units.specs.declared.Hundredths.{Hundredths}
use Rattle.units.specs.Units.{cents}
use Rattle.rules.specs.Market.{price_ok}
use Rattle.rules.specs.Interval.{place}
use Rattle.rules.specs.Record.{i32_at, record_number, reviewed, operating, present}
use Rattle.words.specs.Internal.{largest_i32}
use Rattle.record.specs.declared.Header.{Header}

-- A quantity that was read: which it is, and how large at most.
pub record IsHundredths (v r : Hundredths) : Type 0 where
  pub is : r ≡ v
  pub small : nat_abs r.0 ≤ largest_i32

-- n, and the flags bit by bit
abbrev pub header : List ℕ → Header
header b = record { n = record_number b; review = reviewed b; operating = operating b; present = present b }

-- pre-dispatch with an interval that is not the last of its half-hour
abbrev pub pre_dispatch_misplaced : List ℕ → Bool
pre_dispatch_misplaced b = present b && not (eqb (place (record_number b)) 5)

-- A region's price among the four that start at a byte, and that it is in range.
abbrev pub price_from : List ℕ → ℕ → ℕ → Cents
price_from b first region = cents (i32_at b (first + 4 * region))

abbrev pub region_ok : List ℕ → ℕ → ℕ → Bool
region_ok b first region = price_ok (price_from b first region)
