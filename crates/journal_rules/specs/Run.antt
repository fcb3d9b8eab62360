-- A journal's run, from its bytes alone: opened at its first n with all shares 500, and its surviving records (N7) each in an interval call of its
-- own. Under which numbers it is refused, and the rows that it gives. Nothing here reads a tracker.
use Rattle.std.specs.Prelude.{List, [], ◌∷◌, ◌++◌, ℕ, replicate}
use Rattle.tracker.specs.Promise.{Row, Opening, opening, open_conditions, interval_conditions, awaited_from, of_directions, worked_from, Call, Interval}
use Rattle.journal_rules.specs.Journal.{Condition, first, part, read_conditions}
use Rattle.journal_rules.specs.Survivors.{survivors}

-- It opens at the journal's first n with all shares 500, and gives no settings (N2).
abbrev pub opened_at : ℕ → Opening
opened_at first = opening first (replicate 6 500)

-- Records in their turn, after the calls that have passed: each is judged at the number which the calls before it await. Behind the first condition
-- met no other counts.
unfoldable pub turn_conditions : Opening → List Call → List (List ℕ) → List Condition
turn_conditions o passed [] = []
turn_conditions o passed (b ∷ bs) = interval_conditions (awaited_from o passed) b ++ turn_conditions o (passed ++ (Interval b ∷ [])) bs

-- The opening comes before them; an empty journal is not opened.
unfoldable pub opened_conditions : ℕ → List (List ℕ) → List Condition
opened_conditions first [] = []
opened_conditions first (b ∷ bs) =
    let o = opened_at first in
    open_conditions o.first o.shares o.settings ++ turn_conditions o [] (b ∷ bs)

-- The numbers that reading, opening and running a journal give, the first condition met counting.
unfoldable pub run_conditions : List ℕ → List Condition
run_conditions s = read_conditions s ++ opened_conditions (first s) (survivors (part s))

-- The eight rows after each record, by interval, then direction, worked out from the opening and the calls up to it.
unfoldable pub rows_in_turn : Opening → List Call → List (List ℕ) → List Row
rows_in_turn o passed [] = []
rows_in_turn o passed (b ∷ bs) =
    let upto = passed ++ (Interval b ∷ []) in
    of_directions (worked_from o upto) ++ rows_in_turn o upto bs

-- The rows of a journal; an empty one has none. They mean something where no number refuses the run, and are spoken of only there.
abbrev pub rows_of : List ℕ → List Row
rows_of s = rows_in_turn (opened_at (first s)) [] (survivors (part s))
