-- Document 02, N2: the numbers that the operator reviews, the span of each, and document 01's.
use Rattle.std.specs.Prelude.{Bool, List, [], ◌∷◌, map, ℕ, ℤ, pos, ◌*ℤ◌, get_or}
use Rattle.signed.specs.Range.{minus, within}
use Rattle.units.specs.declared.Cents.{Cents}
use Rattle.units.specs.declared.Hundredths.{Hundredths}
use Rattle.units.specs.Units.{cents, hundredths}
use Rattle.rules.specs.declared.DirectionSettings.{DirectionSettings}
use Rattle.rules.specs.declared.Settings.{Settings}

-- An opening takes a threshold (-1,000,000,000 to -1 cents),
abbrev pub threshold_ok : Cents → Bool
threshold_ok threshold = within (minus 1000000000) (minus 1) threshold.0

-- three band edges (-100,000,000 to 100,000,000 cents),
abbrev pub edge_at : List Cents → ℕ → Cents
edge_at edges i = get_or edges i (cents (pos 0))

abbrev pub edge_ok : Cents → Bool
edge_ok edge = within (minus 100000000) (pos 100000000) edge.0

-- four steps for each direction (-100,000 to 100,000 hundredths)
abbrev pub step_for : List Hundredths → ℕ → Hundredths
step_for steps band = get_or steps band (hundredths (pos 0))

abbrev pub step_ok : Hundredths → Bool
step_ok step = within (minus 100000) (pos 100000) step.0

-- and an offset for each (0 to 100,000).
abbrev pub offset_ok : Hundredths → Bool
offset_ok offset = within (pos 0) (pos 100000) offset.0

-- The steps and the offset of direction d. (There is no direction above 7.)
abbrev pub own_at : List DirectionSettings → ℕ → DirectionSettings
own_at directions d = get_or directions d (record { steps = []; offset = hundredths (pos 0) })

-- Document 01's numbers are the settings when none are given: the threshold, the edges between the bands of net, the steps in MW (000,
-- table 2), a row for each direction, and the offset.
abbrev pub megawatts : ℤ → Hundredths
megawatts z = hundredths (pos 100 *ℤ z)

abbrev pub dollars : ℤ → Cents
dollars z = cents (pos 100 *ℤ z)

abbrev pub four : ℤ → ℤ → ℤ → ℤ → List Hundredths
four a b c d = megawatts a ∷ megawatts b ∷ megawatts c ∷ megawatts d ∷ []

abbrev pub documented_steps : List (List Hundredths)
documented_steps =
    four (minus 100) (minus 50) (pos 0) (pos 30)
    ∷ four (minus 100) (minus 50) (pos 0) (pos 30)
    ∷ four (minus 100) (minus 50) (pos 0) (pos 30)
    ∷ four (minus 100) (minus 50) (pos 0) (pos 30)
    ∷ four (minus 50) (minus 30) (pos 0) (pos 30)
    ∷ four (minus 30) (minus 25) (pos 0) (pos 25)
    ∷ four (minus 75) (minus 40) (pos 0) (pos 30)
    ∷ four (minus 75) (minus 40) (pos 0) (pos 30)
    ∷ []

abbrev pub documented_direction : List Hundredths → DirectionSettings
documented_direction steps = record { steps = steps; offset = hundredths (pos 2000) }

abbrev pub document01 : Settings
document01 = record {
  threshold = cents (minus 10000000);
  edges = dollars (minus 5000) ∷ dollars (minus 1000) ∷ dollars (pos 1000) ∷ [];
  directions = map documented_direction documented_steps;
}
