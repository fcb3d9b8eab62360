-- The table of steps: what holds of the whole, read by direction and by band.
-- Assumes nothing.
use mathlib.Core.List.{List, [], ◌∷◌, map}
use mathlib.Core.Path.{◌≡◌, refl, sym, ap, ◌∙◌}
use Prim.Native.Nat.{ℕ}
use native.Mathlib.Omega.{arith}
use lib.IntN.{ℤ, pos}
use lib.ListN.{length, get_or, length-map, get_or-map}
use Rattle.rules.specs.declared.DirectionSettings.{DirectionSettings}
use Rattle.rules.specs.Market.{of_directions}
use Rattle.rules.specs.Settings.{documented_steps, documented_direction, document01}
use Rattle.rules.proofs.Directions.{are_directions}
use Rattle.settings.specs.Internal.{widened}

-- A row of four is its entries.
pub four_entries : (row : List ℤ) → length row ≡ 4
    → map widened row ≡ widened (get_or row 0 (pos 0)) ∷ widened (get_or row 1 (pos 0)) ∷ widened (get_or row 2 (pos 0)) ∷ widened (get_or row 3 (pos 0)) ∷ []
four_entries [] e = absurd (omega arith)
four_entries (a ∷ []) e = absurd (omega arith)
four_entries (a ∷ b ∷ []) e = absurd (omega arith)
four_entries (a ∷ b ∷ c ∷ []) e = absurd (omega arith)
four_entries (a ∷ b ∷ c ∷ d ∷ []) e = refl
four_entries (a ∷ b ∷ c ∷ d ∷ x ∷ xs) e = absurd (omega arith)

-- What document 01 has for a direction, of the table that holds its steps narrow.
abbrev pub documented_at : List (List ℤ) → ℕ → DirectionSettings
documented_at table d = documented_direction (map widened (get_or table d []))

-- Of a table that is document 01's, each entry widened, the eight are document 01's.
pub all_documented : (table : List (List ℤ)) → length table ≡ 8 → map (map widened) table ≡ documented_steps → document01.directions ≡ of_directions (documented_at table)
all_documented table eight whole =
    ap (map documented_direction) (sym whole)
    ∙ are_directions (documented_at table) (documented_direction []) (map documented_direction (map (map widened) table)) (length-map (map (map widened) table) documented_direction ∙ length-map table (map widened) ∙ eight)
    (λ d l. get_or-map documented_direction (map (map widened) table) d [] ∙ ap documented_direction (get_or-map (map widened) table d []))
