-- Settings (N2) as bytes: 44 i32, the threshold, three edges, four steps for each direction in its turn, and the eight offsets.
use Rattle.std.specs.Prelude.{List, [], ◌∷◌, ℕ, ◌+◌, ◌*◌, ℤ}
use Rattle.tracker.specs.Promise.{Settings, DirectionSettings, Cents, Hundredths, i32_at, cents, hundredths, of_directions}

-- number k
abbrev pub number_in : List ℕ → ℕ → ℤ
number_in b k = i32_at b (4 * k)

-- the step of direction d in a band of net
abbrev pub step_in : List ℕ → ℕ → ℕ → Hundredths
step_in b d band = hundredths (number_in b (4 + 4 * d + band))

unfoldable pub direction_settings_in : List ℕ → ℕ → DirectionSettings
direction_settings_in b d = record {
  steps = step_in b d 0 ∷ step_in b d 1 ∷ step_in b d 2 ∷ step_in b d 3 ∷ [];
  offset = hundredths (number_in b (36 + d));
}

unfoldable pub edges_in : List ℕ → List Cents
edges_in b = cents (number_in b 1) ∷ cents (number_in b 2) ∷ cents (number_in b 3) ∷ []

abbrev pub settings_in : List ℕ → Settings
settings_in b = record {
  threshold = cents (number_in b 0);
  edges = edges_in b;
  directions = of_directions (direction_settings_in b);
}
