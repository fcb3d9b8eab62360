-- Lists of calls after an opening, in which single intervals, on a lent tracker (N14) or not, and sets (N10) are mixed.
use Rattle.std.specs.Prelude.{ℕ}
use mathlib.Core.List.{List, foldl, map}
use Rattle.rules.specs.declared.Tracker.{Tracker}
use Rattle.rules.specs.Tracker.{Opening, open_of, after}
use Rattle.rules.specs.Sets.{set_of}

-- A call that gives a tracker to go on with: one interval, with its bytes; the same on a tracker that its host lends, which is changed there (N14);
-- or a set of intervals.
pub data Call : Type 0 where
  Interval : List ℕ → Call
  Lent : List ℕ → Call
  Set : List ℕ → Call

-- The tracker after a call: of a refused one it is the one before. What a lent tracker holds afterwards equals what the other call gives (N14).
abbrev pub after_call : Tracker → Call → Tracker
after_call t (Interval b) = after t b
after_call t (Lent b) = after t b
after_call t (Set s) = (set_of t s).tracker

-- A list of calls from an opening, each on the tracker that the one before it left.
unfoldable pub run_calls : Opening → List Call → Tracker
run_calls o calls = foldl after_call (open_of o).tracker calls

-- The same call on a tracker that is not lent. (Which calls of a list are on a lent tracker makes no difference to what the list leaves, nor to which
-- records it accepts: rules/proofs/LentOrNot.)
abbrev pub not_lent : Call → Call
not_lent (Interval b) = Interval b
not_lent (Lent b) = Interval b
not_lent (Set s) = Set s

-- Records, each in an interval call of its own, as a list of calls; and a list of interval calls from an opening.
abbrev pub singly : List (List ℕ) → List Call
singly bs = map Interval bs

abbrev pub run : Opening → List (List ℕ) → Tracker
run o bs = run_calls o (singly bs)
