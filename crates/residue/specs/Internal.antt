-- What the functions of this crate are asked, in ranges wide enough for an interval and for a pre-dispatch half-hour. No promise cites this.
use Rattle.std.specs.Prelude.{List, ◌≡◌, ℕ, ◌+◌, ◌*◌, ◌≤◌, ◌<◌, pos, nat_abs, get_or}
use Rattle.units.specs.declared.Cents.{Cents}
use Rattle.units.specs.Units.{cents}
use Rattle.rules.specs.declared.Corridor.{Corridor}
use Rattle.rules.specs.declared.Line.{Line}
use Rattle.rules.specs.Market.{region_number, corridor}
use Rattle.rules.specs.Residue.{line}

-- A corridor's regions are among the four; it has at most two of the six physical interconnectors.
pub record IsCorridor (c : ℕ) (r : Corridor) : Type 0 where
  pub is : r ≡ corridor c
  pub from : region_number r.from < 4
  pub to : region_number r.to < 4
  pub few : r.lines ≤ 2
  pub last : r.first + r.lines ≤ 6

-- The largest magnitudes of a price, and of a physical interconnector's a and b: these are largest in a pre-dispatch half-hour, where they are
-- 12 times a flow and 12 times losses.
abbrev pub highest_price : ℕ
highest_price = 3000000

abbrev pub highest_a : ℕ
highest_a = 12 * 500000

abbrev pub highest_b : ℕ
highest_b = 12 * 100000

-- Of the grains of a physical interconnector, P × (1000a - (1000-k)b) - Q × (1000a + kb), and of a corridor, which has two at most.
abbrev pub highest_grains : ℕ
highest_grains = 2 * highest_price * 1000 * (highest_a + highest_b)

abbrev pub highest_corridor_grains : ℕ
highest_corridor_grains = 2 * highest_grains

-- Of one physical interconnector: the To price, the From price, its share, its a and b.
pub record LineInRange (P Q : Cents) (k : ℕ) (l : Line) : Type 0 where
  pub to_price : nat_abs P.0 ≤ highest_price
  pub from_price : nat_abs Q.0 ≤ highest_price
  pub share : k ≤ 1000
  pub flow : nat_abs l.a.0 ≤ highest_a
  pub losses : nat_abs l.b.0 ≤ highest_b

-- Of all regions and all physical interconnectors.
pub record InRange (prices : List Cents) (shares : List ℕ) (lines : List Line) : Type 0 where
  pub price : (i : ℕ) → nat_abs (get_or prices i (cents (pos 0))).0 ≤ highest_price
  pub share : (i : ℕ) → get_or shares i 0 ≤ 1000
  pub flow : (i : ℕ) → nat_abs (line prices shares lines i).a.0 ≤ highest_a
  pub losses : (i : ℕ) → nat_abs (line prices shares lines i).b.0 ≤ highest_b
