-- What a record says of a direction, once its residues are worked out. No promise cites this.
use Rattle.std.specs.Prelude.{true, cond, List, Option, Some, None, ◌≡◌, ℕ, ◌+◌, ◌*◌, ◌≤◌, pos, nat_abs, get_or, is_some, unwrap_or, option_map}
use Rattle.units.specs.declared.Cents.{Cents}
use Rattle.units.specs.declared.Hundredths.{Hundredths}
use Rattle.units.specs.Units.{cents, hundredths}
use Rattle.rules.specs.declared.Event.{Event}
use Rattle.rules.specs.declared.Residue.{Residue}
use Rattle.rules.specs.Interval.{flag_of, next_of}
use Rattle.rules.specs.Market.{corridor, of_directions}
use Rattle.rules.specs.Record.{record_number, target, status, blocked, target_sum, present, pre_dispatch_residue}
use Rattle.rules.specs.Residue.{no_residue, sum_from, over_lines}
use Rattle.rules.specs.Tracker.{accepts}
use Rattle.words.specs.Internal.{largest_i32}
use Rattle.events.specs.declared.Parts.{Parts}

-- an accepted record, under shares that an opening accepted
pub record Readable (shares b : List ℕ) : Type 0 where
  pub accepted : accepts (record_number b) b ≡ true
  pub in_range : (i : ℕ) → get_or shares i 0 ≤ 1000

-- the sum of the targets of a corridor's physical interconnectors, at most two
pub record IsTargetOf (b : List ℕ) (c : ℕ) (r : Hundredths) : Type 0 where
  pub is : r ≡ hundredths (over_lines c (λ i. (target b i).0))
  pub small : nat_abs r.0 ≤ 2 * largest_i32

-- the sum of the targets of the corridor's physical interconnectors before number i
pub record IsSumBefore (b : List ℕ) (c i : ℕ) (sum : Hundredths) : Type 0 where
  pub lines : ℕ
  pub next : i ≡ (corridor c).first + lines
  pub is : sum ≡ hundredths (sum_from (corridor c).first lines (λ i. (target b i).0))
  pub small : nat_abs sum.0 ≤ largest_i32 * lines

-- the residues of the pre-dispatch half-hour, where there is one
abbrev pub pre_dispatch_of : List ℕ → List ℕ → Option (List Residue)
pre_dispatch_of shares b = cond (present b) (Some (of_directions (pre_dispatch_residue shares b))) None

-- of these, direction d's
abbrev pub ahead_of : Option (List Residue) → ℕ → Option Cents
ahead_of pre_dispatch d = option_map (λ residues. (get_or residues d no_residue).cents) pre_dispatch

-- what a record says of direction d, put together from its parts
unfoldable pub event_from : Parts → ℕ → Event
event_from p d = record {
  n = p.header.n;
  flag = flag_of p.header.operating p.loop_sum d;
  residue = (get_or p.residues d no_residue).cents;
  leftover = (get_or p.residues d no_residue).leftover;
  next = next_of (flag_of p.header.operating p.loop_sum d) p.header.n (is_some p.pre_dispatch) (unwrap_or (ahead_of p.pre_dispatch d) (cents (pos 0)));
  review = p.header.review;
  status = status p.r.now d;
  blocked = blocked p.r.now d;
  target = target_sum p.r.now d;
}
