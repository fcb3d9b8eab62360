-- The notice of rule 4 by its number: 1 exactly where a period starts, 2 exactly where one ends, else 0.
-- Assumes nothing.
use mathlib.Core.Path.{◌≡◌, refl}
use mathlib.Core.Bool.{Bool, true, false}
use mathlib.Core.List.{List, [], ◌∷◌}
use Prim.Native.Nat.{ℕ, ◌+◌, ◌*◌, min}
use Rattle.rules.specs.declared.Event.{Event}
use Rattle.rules.specs.declared.Period.{Period}
use Rattle.rules.specs.declared.Period.TheVariants.{None, Held}
use Rattle.rules.specs.declared.Direction.{Direction}
use Rattle.rules.specs.declared.Settings.{Settings}
use Rattle.rules.specs.Interval.{half_hour, reached, amount, notice_number, lengthened, closed, ended, is_over, extends, rule4, held, sums_after, managed_after, step_of}
use Rattle.rules.specs.History.{state_after}
use Rattle.rules.specs.Claim.{worked_row}

-- The number, told by whether a period was held before and whether one is held after.
abbrev pub noticed : Bool → Bool → ℕ
noticed false true = 1
noticed true false = 2
noticed false false = 0
noticed true true = 0

ended_number : (n first last : ℕ) (extended : Bool) → let m = ended n (Held first last extended) in notice_number m.notice ≡ noticed true (held m.period)
ended_number n first last extended = go (is_over n last)
  where
    go : (over : Bool) → let m = closed over (Held first last extended) in notice_number m.notice ≡ noticed true (held m.period)
    go true = refl
    go false = refl

rule4_number : (n : ℕ) (flag reach : Bool) (p : Period) → let m = rule4 n flag reach p in notice_number m.notice ≡ noticed (held p) (held m.period)
rule4_number n flag true None = refl
rule4_number n flag false None = refl
rule4_number n false reach (Held first last extended) = ended_number n first (min last (6 * half_hour n + 5)) extended
rule4_number n true false (Held first last extended) = ended_number n first last extended
rule4_number n true true (Held first last extended) = go (extends n last extended)
  where
    go : (longer : Bool) → let m = ended n (lengthened longer first last extended) in notice_number m.notice ≡ noticed true (held m.period)
    go true = ended_number n first (last + 6) true
    go false = ended_number n first last extended

-- So of an interval of a direction,
pub interval_notice : (set : Settings) (e : Event) (s : Direction) → let m = managed_after set e s in notice_number m.notice ≡ noticed (held s.period) (held m.period)
interval_notice set e s = rule4_number e.n e.flag (reached set.threshold e (amount (sums_after e s))) s.period

-- of the row worked out after it, where es are the intervals before it,
pub row_notice : (set : Settings) (first d : ℕ) (e : Event) (es : List Event)
    → let r = worked_row set first d (e ∷ es) in r.notice ≡ noticed (held (state_after set d es).period) (held r.period)
unfolding worked_row state_after step_of
row_notice set first d e es = interval_notice set e (state_after set d es)

-- and of a row with none: it has no notice, 0.
pub fresh_notice : (set : Settings) (first d : ℕ) → (worked_row set first d []).notice ≡ 0
unfolding worked_row
fresh_notice set first d = refl
