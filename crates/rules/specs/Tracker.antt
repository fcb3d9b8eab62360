-- Document 01, "Record, opening, row, journal": what the calls of the tracker return for every input.
use Rattle.std.specs.Prelude.{Bool, false, not, cond, ℕ, suc, pos, get_or, replicate}
use mathlib.Core.List.{List}
use Rattle.units.specs.declared.Cents.{Cents}
use Rattle.units.specs.declared.Grains.{Grains}
use Rattle.units.specs.Units.{cents, hundredths, grains}
use Rattle.rules.specs.declared.Period.TheVariants.{None}
use Rattle.rules.specs.declared.Direction.{Direction}
use Rattle.rules.specs.declared.Tracker.{Tracker}
use Rattle.rules.specs.declared.Row.{Row}
use Rattle.rules.specs.declared.Residue.{Residue}
use Rattle.rules.specs.declared.Answer.{Answer}
use Rattle.rules.specs.declared.RowAnswer.{RowAnswer}
use Rattle.rules.specs.declared.Settings.{Settings}
use Rattle.rules.specs.Market.{of_directions}
use Rattle.rules.specs.Settings.{document01}
use Rattle.rules.specs.Interval.{no_counts, zeros, fresh, step_of, amount, notice_number, is_swamped}
use Rattle.rules.specs.Record.{record_number, event_of}
use Rattle.rules.specs.Refusal.{is_accepted, open_outcome, interval_outcome, row_outcome}

-- The tracker, field by field.
abbrev pub tracker : Settings → List ℕ → ℕ → ℕ → List Direction → Tracker
tracker set shares shown awaited directions = record { settings = set; shares = shares; shown = shown; awaited = awaited; directions = directions }

-- An opening gives the first n, six shares and settings (N2). Document 01's numbers are the settings when none are given.
pub record Opening : Type 0 where
  pub first : ℕ
  pub shares : List ℕ
  pub settings : Settings

abbrev pub opening_with : ℕ → List ℕ → Settings → Opening
opening_with first shares set = record { first = first; shares = shares; settings = set }

abbrev pub opening : ℕ → List ℕ → Opening
opening first shares = opening_with first shares document01

abbrev pub opens : Opening → Bool
opens o = is_accepted (open_outcome o.first o.shares o.settings)

-- The tracker beside a refusal's number is a fresh one at first n 0 with all shares 0, and with document 01's numbers (N2).
abbrev pub first_of : Opening → ℕ
first_of o = cond (opens o) o.first 0

abbrev pub shares_of : Opening → List ℕ
shares_of o = cond (opens o) o.shares (replicate 6 0)

abbrev pub settings_of : Opening → Settings
settings_of o = cond (opens o) o.settings document01

abbrev pub opened : Opening → Tracker
opened o = tracker (settings_of o) (shares_of o) (first_of o) (first_of o) (replicate 8 fresh)

unfoldable pub open_of : Opening → Answer
open_of o = record { outcome = open_outcome o.first o.shares o.settings; tracker = opened o }

-- A direction that is not there: what a list of states gives past its end. A tracker has eight, so that nobody meets it.
abbrev pub blank : Direction
blank = zeros (hundredths (pos 0)) false

-- The states of the eight directions after one interval more, all by one step.
unfoldable pub step_all : Settings → List ℕ → List ℕ → List Direction → List Direction
step_all set shares b ss = of_directions (λ d. step_of set d (event_of shares d b) (get_or ss d blank))

unfoldable pub advanced : Tracker → List ℕ → Tracker
advanced t b = tracker t.settings t.shares (record_number b) (suc (record_number b)) (step_all t.settings t.shares b t.directions)

-- An interval call. A refusal returns only its number, beside the tracker as it was.
abbrev pub accepts : ℕ → List ℕ → Bool
accepts awaited b = is_accepted (interval_outcome awaited b)

unfoldable pub interval_of : Tracker → List ℕ → Answer
interval_of t b = record { outcome = interval_outcome t.awaited b; tracker = cond (accepts t.awaited b) (advanced t b) t }

-- A row shows, of the latest accepted interval: n, direction, r, applies (1 if the clamp for n+1 is not swamped), previous, current,
-- amount, next, net, period, both counts, blocked, flag, the clamp for n+1, notice, and the leftover of r, at flag 0 too (N8).
abbrev pub row : ℕ → ℕ → Cents → Cents → Bool → Bool → Grains → Direction → Row
row n d r next blocked flag leftover s = record {
  n = n;
  direction = d;
  residue = r;
  applies = not (is_swamped s.clamp);
  previous = s.sums.previous;
  current = s.sums.current;
  amount = amount s.sums;
  next = next;
  net = s.sums.net;
  period = s.period;
  counts = s.counts;
  blocked = blocked;
  flag = flag;
  clamp = s.clamp;
  notice = notice_number s.notice;
  leftover = leftover;
}

-- r with its leftover, as a row shows them (N8).
abbrev pub residue_shown : Row → Residue
residue_shown shown = record { cents = shown.residue; leftover = shown.leftover }

abbrev pub direction_of : Tracker → ℕ → Direction
direction_of t d = get_or t.directions d blank

unfoldable pub row_of : Tracker → ℕ → Row
row_of t d =
    let s = direction_of t d in
    row t.shown d s.residue s.next s.blocked s.flag s.leftover s

-- Row: 17 direction above 7; the row is all zeros, period none.
abbrev pub no_row : Row
no_row = record {
  n = 0;
  direction = 0;
  residue = cents (pos 0);
  applies = false;
  previous = cents (pos 0);
  current = cents (pos 0);
  amount = cents (pos 0);
  next = cents (pos 0);
  net = cents (pos 0);
  period = None;
  counts = no_counts;
  blocked = false;
  flag = false;
  clamp = hundredths (pos 0);
  notice = 0;
  leftover = grains (pos 0);
}

unfoldable pub row_answer : Tracker → ℕ → RowAnswer
row_answer t d = record { outcome = row_outcome d; row = cond (is_accepted (row_outcome d)) (row_of t d) no_row }

-- The tracker after an interval call.
abbrev pub after : Tracker → List ℕ → Tracker
after t b = (interval_of t b).tracker
