-- What the functions below the calls are asked and give.
use Rattle.std.specs.Prelude.{false, ℕ, ◌<◌, pos, get_or, Result, Ok, Err}
use mathlib.Core.List.{List, foldl}
use Rattle.units.specs.Units.{cents, hundredths, grains}
use Rattle.rules.specs.declared.Direction.{Direction}
use Rattle.rules.specs.declared.Status.TheVariants.{Unbound}
use Rattle.rules.specs.declared.Event.{Event}
use Rattle.rules.specs.declared.Settings.{Settings}
use Rattle.rules.specs.declared.SetRefusal.{SetRefusal}
use Rattle.rules.specs.declared.Tracker.{Tracker}
use Rattle.rules.specs.Interval.{step_of}
use Rattle.rules.specs.Market.{of_directions}
use Rattle.rules.specs.Record.{records_in}
use Rattle.rules.specs.Tracker.{blank, after}
use Rattle.rules.specs.Sets.{SetOutcome, set_outcome}
use Rattle.step.specs.Internal.{Steppable}

-- stands where a list of events ends
abbrev pub no_event : Event
no_event = record {
  n = 0;
  flag = false;
  residue = cents (pos 0);
  leftover = grains (pos 0);
  next = cents (pos 0);
  review = false;
  status = Unbound;
  blocked = false;
  target = hundredths (pos 0);
}

-- each direction's settings, state and event allow a step
pub record AllSteppable (set : Settings) (events : List Event) (ss : List Direction) : Type 0 where
  pub each : (d : ℕ) → d < 8 → Steppable set d (get_or events d no_event) (get_or ss d blank)

-- a direction's state after its event, and those of all eight
abbrev pub stepped : Settings → List Event → List Direction → ℕ → Direction
stepped set events ss d = step_of set d (get_or events d no_event) (get_or ss d blank)

abbrev pub all_stepped : Settings → List Event → List Direction → List Direction
all_stepped set events ss = of_directions (stepped set events ss)

-- the tracker after all records of a set, or why the set is refused (N10)
abbrev pub or_refused : SetOutcome → Tracker → Result Tracker SetRefusal
or_refused (Ok done) t = Ok t
or_refused (Err r) t = Err r

abbrev pub after_all : Tracker → List ℕ → Result Tracker SetRefusal
after_all t s = or_refused (set_outcome t.awaited s) (foldl after t (records_in s))
