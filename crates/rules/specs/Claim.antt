-- Demand 3: a single claim about the whole list of calls, all its parts together. The last part of DirectionClaim, (rounding), is N9's. In the list
-- single intervals, on a lent tracker (N14) or not, and sets (N10) are mixed.
use Rattle.std.specs.Prelude.{true, false, not, cond, ◌≡◌, ℕ, suc, ◌<◌, T, pos, length}
use mathlib.Core.List.{List, [], ◌∷◌, ◌++◌, foldl, map, reverse}
use Rattle.units.specs.Units.{cents, grains}
use Rattle.rules.specs.declared.Event.{Event}
use Rattle.rules.specs.declared.Tracker.{Tracker}
use Rattle.rules.specs.declared.Row.{Row}
use Rattle.rules.specs.declared.Settings.{Settings}
use Rattle.rules.specs.Interval.{fresh}
use Rattle.rules.specs.History.{sum_since, got_there, under_review, GotThereWithin, lies_in, state_after}
use Rattle.rules.specs.Record.{record_number, event_of, records_in}
use Rattle.rules.specs.Rounding.{Rounding}
use Rattle.rules.specs.Tracker.{Opening, first_of, shares_of, settings_of, accepts, row, row_of, after}
use Rattle.rules.specs.Sets.{accepts_set}
use Rattle.rules.specs.Calls.{Call, Interval, Lent, Set, run}

-- Which calls are accepted follows from the opening and the records by numbers 1 to 8, of a set by 15 before them (N10). The accepted records stand
-- the latest first.
-- The awaited number is the opening's first n, then one more than the latest accepted n.
abbrev pub awaited_after : Opening → List (List ℕ) → ℕ
awaited_after o [] = first_of o
awaited_after o (b ∷ bs) = suc (record_number b)

-- One record more: it joins the accepted ones, or they stay as they were.
abbrev pub accept_record : Opening → List (List ℕ) → List ℕ → List (List ℕ)
accept_record o bs b = cond (accepts (awaited_after o bs) b) (b ∷ bs) bs

-- One call more. An interval call brings its record, on a lent tracker (N14) or not. An accepted set counts as its records, and a refused one as
-- nothing (N10).
unfoldable pub accept_call : Opening → List (List ℕ) → Call → List (List ℕ)
accept_call o bs (Interval b) = accept_record o bs b
accept_call o bs (Lent b) = accept_record o bs b
accept_call o bs (Set s) = cond (accepts_set (awaited_after o bs) s) (reverse (records_in s) ++ bs) bs

unfoldable pub accepted : Opening → List Call → List (List ℕ)
accepted o calls = foldl (accept_call o) [] calls

-- What accepted records say of direction d: r, flag and next follow from the shares and the accepted records.
unfoldable pub history : Opening → ℕ → List (List ℕ) → List Event
history o d bs = map (event_of (shares_of o) d) bs

-- The row that document 01 works out: n, r, next, blocked, flag and the leftover (N8) are those of the latest accepted record, the rest comes
-- from the rules.
-- A fresh row has n = first, its direction, the rest 0 or none, flag 1, clamp swamped.
unfoldable pub worked_row : Settings → ℕ → ℕ → List Event → Row
worked_row set first d [] = row first d (cents (pos 0)) (cents (pos 0)) false true (grains (pos 0)) fresh
worked_row set first d (e ∷ es) = row e.n d e.residue e.next e.blocked e.flag e.leftover (state_after set d (e ∷ es))

-- From an opening and any list of calls, refused ones among them: the awaited number, and the row of direction d that document 01 works out.
abbrev pub awaited_from : Opening → List Call → ℕ
awaited_from o calls = awaited_after o (accepted o calls)

abbrev pub worked_from : Opening → List Call → ℕ → Row
worked_from o calls d = worked_row (settings_of o) (first_of o) d (history o d (accepted o calls))

-- The claim about one direction d, after an opening and the accepted records bs: r is the tracker's row. All that the row is held to follows from
-- the opening, with its settings (N2), and these records.
pub record DirectionClaim (o : Opening) (d : ℕ) (bs : List (List ℕ)) (r : Row) : Type 0 where
  -- (row) the tracker's row equals the one that document 01 works out from the opening and those calls
  pub is_worked : r ≡ worked_row (settings_of o) (first_of o) d (history o d bs)
  -- (sum) the row's accumulated amount equals the sum of that direction's negative residues over the accepted intervals after its
  -- latest clearing interval
  pub sum : r.amount ≡ sum_since (history o d bs)
  -- (clamped) if that sum plus the next-half-hour estimate is at or below the settings' threshold (N2) and the latest accepted interval is not
  -- under review, the next interval lies in the row's management period
  pub clamped : T (got_there (settings_of o) (history o d bs)) → T (not (under_review (history o d bs))) → T (lies_in (awaited_after o bs) r.period)
  -- (not without cause) the next interval lies in it only if one of the last twelve accepted intervals got there without review
  pub caused : T (lies_in (awaited_after o bs) r.period) → GotThereWithin 12 (settings_of o) (history o d bs)
  -- (rounding, N9) the row's amount and the unrounded sum differ by at most half a cent for each interval in the span in which the grains were
  -- assigned to the direction; with none both are 0
  pub rounding : Rounding (shares_of o) d bs r.amount

-- The claim about an opening, the accepted records bs and the tracker t that they left.
pub record ClaimOf (o : Opening) (bs : List (List ℕ)) (t : Tracker) : Type 0 where
  pub awaits : t.awaited ≡ awaited_after o bs
  pub eight : length t.directions ≡ 8
  -- a refused interval call hands on the tracker it got
  pub hands_on : (b : List ℕ) → T (not (accepts (awaited_after o bs) b)) → after t b ≡ t
  pub each : (d : ℕ) → d < 8 → DirectionClaim o d bs (row_of t d)

-- The claim about an opening, any list of calls and the tracker t that they left.
abbrev pub Claim : Opening → List Call → Tracker → Type 0
Claim o calls t = ClaimOf o (accepted o calls) t

-- A tracker comes only from an opening and the calls after it. Interval calls that return a tracker are enough to say so: a lent one holds afterwards
-- what such a call gives (N14), an accepted set's tracker is that of the single calls in order, and a refused one's is the tracker as before (N10).
pub record Came (t : Tracker) : Type 0 where
  pub opening : Opening
  pub calls : List (List ℕ)
  pub is : t ≡ run opening calls
