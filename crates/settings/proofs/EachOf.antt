-- A test of each of an array's items, and the same by number. The length stands first in each law: `grind` takes a law up at the first call in its
-- conclusion that shows its variables, and at a test under a λ it finds none.
-- Assumes nothing.
use mathlib.Core.Path.{◌≡◌, refl}
use mathlib.Core.List.{List, []}
use lib.IntN.{pos}
use lib.ListN.{length}
use Rattle.std.specs.List.{list_all}
use Rattle.units.specs.declared.Cents.{Cents}
use Rattle.units.specs.declared.Hundredths.{Hundredths}
use Rattle.units.specs.Units.{cents, hundredths}
use Rattle.rules.specs.declared.DirectionSettings.{DirectionSettings}
use Rattle.rules.specs.Settings.{edge_ok, step_ok}
use Rattle.rules.specs.Refusal.{edges_ok, steps_ok, direction_ok, directions_ok}
use Rattle.rules.proofs.EachBelow.{each_item}

pub all_edges : (edges : List Cents) → length edges ≡ 3 → (length edges ≡ length edges) × (list_all edge_ok edges ≡ edges_ok edges)
all_edges edges three = (refl, each_item edge_ok (cents (pos 0)) edges three)

pub all_steps : (steps : List Hundredths) → length steps ≡ 4 → (length steps ≡ length steps) × (list_all step_ok steps ≡ steps_ok steps)
all_steps steps four = (refl, each_item step_ok (hundredths (pos 0)) steps four)

pub all_directions : (directions : List DirectionSettings) → length directions ≡ 8 → (length directions ≡ length directions) × (list_all direction_ok directions ≡ directions_ok directions)
all_directions directions eight = (refl, each_item direction_ok (record { steps = []; offset = hundredths (pos 0) }) directions eight)

pub ruleset each_of = (all_edges, all_steps, all_directions)
