-- The records passed are issued again: the same are left to give.
use Rattle.std.proofs.Common.{◌≡◌, length}
use Rattle.journal_rules.specs.Internal.{last_of_each}
use Rattle.journal.proofs.SurvivingIterator.next.Given as goal

abbrev pub invariant-loop-self : goal.invariant-loop-self
invariant-loop-self l = last_of_each l.initial.self-inside.others.now ≡ last_of_each l.self-inside.others.now

abbrev pub decreases-loop-self : goal.decreases-loop-self
decreases-loop-self l = length l.self-inside.others.now
