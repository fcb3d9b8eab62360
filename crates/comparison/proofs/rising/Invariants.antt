-- The entries passed rise, up to the first of those left.
use Rattle.std.proofs.Common.{◌≡◌, length, map}
use Rattle.comparison.specs.Entries.{entry_of, entries_in, rising}
use Rattle.comparison.proofs.rising.Given as goal

abbrev pub invariant-loop-left : goal.invariant-loop-left
invariant-loop-left l = rising (entries_in l.entries) ≡ rising (map entry_of l.left)

abbrev pub decreases-loop-left : goal.decreases-loop-left
decreases-loop-left l = length l.left
