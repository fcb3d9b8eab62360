-- Ranges within which the sums of rules 1 to 3 fit 64 bits. No promise cites this.
use Rattle.std.specs.Prelude.{◌+◌, ◌≤◌, nat_abs}
use Rattle.units.specs.declared.Cents.{Cents}
use Rattle.rules.specs.declared.Sums.{Sums}
use Rattle.rules.specs.Bounds.{highest_residue, highest_sum}

-- sums of residues over at most all intervals
pub record Countable (s : Sums) : Type 0 where
  pub amount : nat_abs s.previous.0 + nat_abs s.current.0 ≤ highest_sum
  pub net : nat_abs s.net.0 ≤ highest_sum

-- such sums, and one residue more that is added to them
pub record Growable (r : Cents) (s : Sums) : Type 0 where
  pub sums : Countable s
  pub residue : nat_abs r.0 ≤ highest_residue

-- sums of at most all intervals and one more
pub record Addable (s : Sums) : Type 0 where
  pub amount : nat_abs s.previous.0 + nat_abs s.current.0 ≤ highest_sum + highest_residue
