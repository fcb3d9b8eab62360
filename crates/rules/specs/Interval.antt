-- Document 01, "One interval of one direction": rules 1 to 7.
use Rattle.std.specs.Prelude.{Bool, true, false, not, cond, ◌&&◌, ◌||◌, List, Option, Some, None as NoNotice, ℕ, suc, ◌+◌, ◌*◌, ◌/◌, ◌%◌, min, eqb, pos}
use Rattle.std.specs.Int.Signed.{le_z, lt_z}
use Rattle.signed.specs.Range.{minus, negative, eq_z}
use Rattle.units.specs.declared.Cents.{Cents}
use Rattle.units.specs.declared.Hundredths.{Hundredths}
use Rattle.units.specs.Units.{cents, ◌+ᶜ◌, lower_of_zero, hundredths, ◌+ʰ◌, grains}
use Rattle.rules.specs.declared.Event.{Event}
use Rattle.rules.specs.declared.Sums.{Sums}
use Rattle.rules.specs.declared.Period.{Period}
use Rattle.rules.specs.declared.Period.TheVariants.{None, Held}
use Rattle.rules.specs.declared.Status.{Status}
use Rattle.rules.specs.declared.Status.TheVariants.{Unbound, Bound, Violated}
use Rattle.rules.specs.declared.Notice.{Notice}
use Rattle.rules.specs.declared.Notice.TheVariants.{Start, End}
use Rattle.rules.specs.declared.Managed.{Managed}
use Rattle.rules.specs.declared.Counts.{Counts}
use Rattle.rules.specs.declared.Direction.{Direction}
use Rattle.rules.specs.declared.DirectionSettings.{DirectionSettings}
use Rattle.rules.specs.declared.Settings.{Settings}
use Rattle.rules.specs.Market.{in_loop}
use Rattle.rules.specs.Settings.{edge_at, step_for, own_at}

-- Interval n = 6h+q, q from 0 to 5.
abbrev pub half_hour : ℕ → ℕ
half_hour n = n / 6

abbrev pub place : ℕ → ℕ
place n = n % 6

-- A clamp of 2,000,000 is swamped.
abbrev pub swamped : Hundredths
swamped = hundredths (pos 2000000)

abbrev pub is_swamped : Hundredths → Bool
is_swamped clamp = eq_z clamp.0 swamped.0

abbrev pub no_sums : Sums
no_sums = record { previous = cents (pos 0); current = cents (pos 0); net = cents (pos 0) }

abbrev pub no_counts : Counts
no_counts = record { unbound = 0; violated = 0 }

-- A state of zeros, no period, not suspended, with this clamp and flag.
abbrev pub zeros : Hundredths → Bool → Direction
zeros clamp flag = record {
  sums = no_sums;
  period = None;
  clamp = clamp;
  counts = no_counts;
  suspended = false;
  residue = cents (pos 0);
  leftover = grains (pos 0);
  next = cents (pos 0);
  blocked = false;
  flag = flag;
  notice = NoNotice;
}

-- Fresh: zeros, no period, clamp swamped, not suspended. (A fresh row has flag 1.)
abbrev pub fresh : Direction
fresh = zeros swamped true

-- 1. If q = 0, previous grows by current; current and net become 0.
abbrev pub at_half_hour_start : Bool → Sums → Sums
at_half_hour_start true s = record { previous = s.previous +ᶜ s.current; current = cents (pos 0); net = cents (pos 0) }
at_half_hour_start false s = s

abbrev pub rule1 : ℕ → Sums → Sums
rule1 n s = at_half_hour_start (eqb (place n) 0) s

-- 2. Loop flag: 0 for directions 2-7 if the loop is operating and the residues of directions 2-7 sum to zero or more; else 1.
abbrev pub loop_sum : (ℕ → Cents) → Cents
loop_sum residue = residue 2 +ᶜ residue 3 +ᶜ residue 4 +ᶜ residue 5 +ᶜ residue 6 +ᶜ residue 7

unfoldable pub flag_of : Bool → Cents → ℕ → Bool
flag_of operating sum d = not (in_loop d && (operating && not (negative sum.0)))

-- Whether previous becomes 0 for a zero current at place q: only at the half-hour's close, q = 5 (N4).
unfoldable pub clears_at : ℕ → Bool
clears_at q = eqb q 5

-- At 0, previous, current and net become 0. At 1, current grows by the lower of r and 0, net by r; if current is then 0 and q = 5,
-- previous becomes 0 (N4).
abbrev pub grown : Cents → Sums → Sums
grown r s = record { previous = s.previous; current = s.current +ᶜ lower_of_zero r; net = s.net +ᶜ r }

abbrev pub cleared : Bool → Sums → Sums
cleared true s = record { previous = cents (pos 0); current = s.current; net = s.net }
cleared false s = s

abbrev pub cleared_if_zero : Bool → Sums → Sums
cleared_if_zero clears s = cleared (eq_z s.current.0 (pos 0) && clears) s

abbrev pub rule2 : Bool → Bool → Cents → Sums → Sums
rule2 false clears r s = no_sums
rule2 true clears r s = cleared_if_zero clears (grown r s)

-- Amount = previous + current.
abbrev pub amount : Sums → Cents
amount s = s.previous +ᶜ s.current

-- 3. Next is the lower of the pre-dispatch residue and 0 if q = 5, pre-dispatch is present and the flag is 1; else 0.
unfoldable pub next_of : Bool → ℕ → Bool → Cents → Cents
next_of flag n present pre_dispatch = cond (flag && (eqb (place n) 5 && present)) (lower_of_zero pre_dispatch) (cents (pos 0))

-- Reached: amount + next is the settings' threshold (N2) or less, and no review.
abbrev pub at_threshold : Cents → Cents → Bool
at_threshold threshold total = le_z total.0 threshold.0

abbrev pub reached : Cents → Event → Cents → Bool
reached threshold e sum = at_threshold threshold (sum +ᶜ e.next) && not e.review

-- The notices by number: 1, a period starts; 2, it ends; else 0.
abbrev pub notice_number : Option Notice → ℕ
notice_number NoNotice = 0
notice_number (Some Start) = 1
notice_number (Some End) = 2

-- 4. No period and reached: first = n+1, last = 6h+11, not extended, notice 1.
abbrev pub managed : Period → Option Notice → Managed
managed p notice = record { period = p; notice = notice }

abbrev pub started : ℕ → Bool → Managed
started n true = managed (Held (suc n) (6 * half_hour n + 11) false) (Some Start)
started n false = managed None NoNotice

-- In a period with flag 0: last becomes the lower of last and 6h+5. Otherwise in a period, reached, and either q = 5 or
-- (last = 6h+5 and not extended): last grows by 6, now extended.
abbrev pub extends : ℕ → ℕ → Bool → Bool
extends n last extended = eqb (place n) 5 || (eqb last (6 * half_hour n + 5) && not extended)

abbrev pub lengthened : Bool → ℕ → ℕ → Bool → Period
lengthened true first last extended = Held first (last + 6) true
lengthened false first last extended = Held first last extended

abbrev pub continued : ℕ → Bool → Bool → ℕ → ℕ → Bool → Period
continued n false reach first last extended = Held first (min last (6 * half_hour n + 5)) extended
continued n true false first last extended = Held first last extended
continued n true true first last extended = lengthened (extends n last extended) first last extended

-- A period held before this interval and now with last = n ends: notice 2. Else notice 0.
abbrev pub is_over : ℕ → ℕ → Bool
is_over n last = eqb last n

abbrev pub closed : Bool → Period → Managed
closed true p = managed None (Some End)
closed false p = managed p NoNotice

abbrev pub ended : ℕ → Period → Managed
ended n None = managed None NoNotice
ended n (Held first last extended) = closed (is_over n last) (Held first last extended)

abbrev pub rule4 : ℕ → Bool → Bool → Period → Managed
rule4 n flag reach None = started n reach
rule4 n flag reach (Held first last extended) = ended n (continued n flag reach first last extended)

-- 5. In a period held before, clamp for n not swamped, current 0 and status unbound: unbound count grows by 1, at most 3; else 0.
-- Likewise violated. With no period left after 4 both are 0.
abbrev pub held : Period → Bool
held None = false
held (Held first last extended) = true

abbrev pub counted : Bool → ℕ → ℕ
counted true count = min 3 (suc count)
counted false count = 0

abbrev pub is_unbound : Status → Bool
is_unbound Unbound = true
is_unbound Bound = false
is_unbound Violated = false

abbrev pub is_violated : Status → Bool
is_violated Unbound = false
is_violated Bound = false
is_violated Violated = true

-- What both counts ask beside the status: a period held before and still, a clamp for n that is not swamped, current 0.
abbrev pub quiet : Bool → Hundredths → Cents → Period → Bool
quiet before clamp current after = held after && (before && (not (is_swamped clamp) && eq_z current.0 (pos 0)))

abbrev pub rule5 : Bool → Status → Hundredths → Cents → Period → Counts → Counts
rule5 before status clamp current after counts = record {
  unbound = counted (quiet before clamp current after && is_unbound status) counts.unbound;
  violated = counted (quiet before clamp current after && is_violated status) counts.violated;
}

-- 6. Suspended: no, if there is no period or it began now; no, if net is below -100,000; yes, if a count is 3; else as it was.
abbrev pub suspension_ends : Cents
suspension_ends = cents (minus 100000)

abbrev pub rule6 : Bool → Period → Cents → Counts → Bool → Bool
rule6 before after net counts was =
    cond (not (held after && before)) false (
    cond (lt_z net.0 suspension_ends.0) false (
    cond (eqb counts.unbound 3 || eqb counts.violated 3) true was))

-- Steps for net below the settings' first edge; from it to below the second; from that to below the third; the third and up (N2).
abbrev pub below_edge : List Cents → ℕ → Cents → Bool
below_edge edges i net = lt_z net.0 (edge_at edges i).0

abbrev pub band : List Cents → Cents → ℕ
band edges net = cond (below_edge edges 0 net) 0 (cond (below_edge edges 1 net) 1 (cond (below_edge edges 2 net) 2 3))

-- 7. Clamp for n+1: swamped if no period, suspended or blocked. Else base is the clamp for n, or, if that was swamped, the corridor's
-- target sum (negated for To_From); clamp = base + step, at most 1,000,000, at least the offset. Step and offset are the direction's own in the
-- settings (N2).
abbrev pub highest_clamp : Hundredths
highest_clamp = hundredths (pos 1000000)

abbrev pub lower : Hundredths → Hundredths → Hundredths
lower a b = cond (lt_z a.0 b.0) a b

abbrev pub higher : Hundredths → Hundredths → Hundredths
higher a b = cond (lt_z a.0 b.0) b a

abbrev pub clamp_from : Hundredths → Hundredths → Hundredths → Hundredths
clamp_from base step offset = higher offset (lower (base +ʰ step) highest_clamp)

abbrev pub rule7 : List Cents → DirectionSettings → Bool → Hundredths → Period → Bool → Cents → Hundredths → Hundredths
rule7 edges own blocked target period suspended net clamp =
    cond (not (held period) || (suspended || blocked)) swamped (
    clamp_from (cond (is_swamped clamp) target clamp) (step_for own.steps (band edges net)) own.offset)

-- One interval e of direction d with the state s, under the settings of the opening (N2): the seven rules in turn.
abbrev pub sums_after : Event → Direction → Sums
sums_after e s = rule2 e.flag (clears_at (place e.n)) e.residue (rule1 e.n s.sums)

abbrev pub managed_after : Settings → Event → Direction → Managed
managed_after set e s = rule4 e.n e.flag (reached set.threshold e (amount (sums_after e s))) s.period

abbrev pub counts_after : Settings → Event → Direction → Counts
counts_after set e s = rule5 (held s.period) e.status s.clamp (sums_after e s).current (managed_after set e s).period s.counts

abbrev pub suspended_after : Settings → Event → Direction → Bool
suspended_after set e s = rule6 (held s.period) (managed_after set e s).period (sums_after e s).net (counts_after set e s) s.suspended

abbrev pub clamp_after : Settings → ℕ → Event → Direction → Hundredths
clamp_after set d e s = rule7 set.edges (own_at set.directions d) e.blocked e.target (managed_after set e s).period (suspended_after set e s) (sums_after e s).net s.clamp

unfoldable pub step_of : Settings → ℕ → Event → Direction → Direction
step_of set d e s = record {
  sums = sums_after e s;
  period = (managed_after set e s).period;
  clamp = clamp_after set d e s;
  counts = counts_after set e s;
  suspended = suspended_after set e s;
  residue = e.residue;
  leftover = e.leftover;
  next = e.next;
  blocked = e.blocked;
  flag = e.flag;
  notice = (managed_after set e s).notice;
}
