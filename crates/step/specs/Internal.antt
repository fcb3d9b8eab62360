-- What a step is asked. No promise cites this.
use Rattle.std.specs.Prelude.{true, ◌≡◌, ℕ, ◌≤◌, nat_abs}
use Rattle.rules.specs.declared.Event.{Event}
use Rattle.rules.specs.declared.Direction.{Direction}
use Rattle.rules.specs.declared.Settings.{Settings}
use Rattle.rules.specs.Settings.{own_at}
use Rattle.rules.specs.Refusal.{highest_number, direction_ok}
use Rattle.rules.specs.Bounds.{highest_residue, highest_next, Bounds}

-- direction d's settings, its state and the interval that comes next, for a step
pub record Steppable (set : Settings) (d : ℕ) (e : Event) (s : Direction) : Type 0 where
  pub own : direction_ok (own_at set.directions d) ≡ true
  pub number : e.n ≤ highest_number
  pub residue : nat_abs e.residue.0 ≤ highest_residue
  pub next : nat_abs e.next.0 ≤ highest_next
  pub target : nat_abs e.target.0 ≤ 1000000
  pub state : Bounds e.n s
