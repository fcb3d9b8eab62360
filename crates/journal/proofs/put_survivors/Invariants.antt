-- Survivors are there, and the others are left to give and to put.
use Rattle.std.proofs.Common.{◌≡◌, List, ℕ, ◌++◌}
use mathlib.Core.List.{flatten}
use Rattle.words.specs.Buffer.{Puts}
use Rattle.journal_rules.specs.Survivors.{survivors}
use Rattle.journal.proofs.put_survivors.Given as goal

pub record SoFar (r : List ℕ) (left : List (List ℕ)) (d : List ℕ) (n : ℕ) (out : List ℕ) : Type 0 where
  pub done : List ℕ
  pub whole : flatten (survivors r) ≡ done ++ flatten left
  pub there : Puts done d n out

abbrev pub invariant-loop-bytes : goal.invariant-loop-bytes
invariant-loop-bytes l =
    (goal.iterator-loop-bytes).can_next l.bytes-iterator
    × (goal.iterator-loop-bytes).is_finite l.bytes-iterator
    × SoFar l.records l.bytes-iterator l.fn.out l.n l.out
