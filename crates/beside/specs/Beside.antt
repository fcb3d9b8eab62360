-- Document 02, N12: our record beside the published one.
use Rattle.std.specs.Prelude.{List, [], ◌∷◌, ◌++◌, ℕ, not, map, filter, Result, Ok, Err, Option, Some, None}
use Rattle.tracker.specs.Promise.{negative, Row, Refusal, BadEntries, EntriesNotRising, Outcome, Condition, ◌when◌, judged}
use Rattle.journal_rules.specs.Run.{run_conditions, rows_of}
use Rattle.comparison.specs.declared.Key.{Key}
use Rattle.comparison.specs.declared.Entry.{Entry}
use Rattle.comparison.specs.declared.Comparison.{Comparison}
use Rattle.comparison.specs.Comparison.{compared}
use Rattle.comparison.specs.Entries.{key, entries_in, bad_entries, rising}

-- Our side: of the rows of journal s, those of its surviving records (N7), the ones with a negative amount; of each its n, direction and amount.
abbrev pub as_entry : Row → Entry
as_entry r = record { key = key r.n r.direction; amount = r.amount }

abbrev pub ours : List Row → List Entry
ours rows = map as_entry (filter (λ r. negative r.amount.0) rows)

unfoldable pub our_rows : List ℕ → List Entry
our_rows s = ours (rows_of s)

-- Checks: the numbers that reading, opening at shares 500 and running journal s give; 24, for entries b, length not a multiple of 16, a direction
-- above 7 or an amount not negative; then 25, entries not rising strictly by n, then direction.
unfoldable pub entry_conditions : List ℕ → List Condition
entry_conditions b =
    BadEntries when bad_entries b
    ∷ EntriesNotRising when not (rising (entries_in b))
    ∷ []

unfoldable pub beside_conditions : List ℕ → List ℕ → List Condition
beside_conditions s b = run_conditions s ++ entry_conditions b

unfoldable pub beside_outcome : List ℕ → List ℕ → Outcome
beside_outcome s b = judged (beside_conditions s b)

-- It gives the four figures and the lowest n and direction; a refusal returns only its number.
abbrev pub figures_by : Outcome → Comparison → Result Comparison Refusal
figures_by (Ok done) f = Ok f
figures_by (Err why) f = Err why

unfoldable pub beside_of : List ℕ → List ℕ → Result Comparison Refusal
beside_of s b = figures_by (beside_outcome s b) (compared (our_rows s) (entries_in b))

-- The values of each of its answers, beside its number: the four figures, then the lowest n and direction, or nothing for none; or no values.
abbrev pub key_values : Option Key → List ℕ
key_values None = []
key_values (Some p) = p.n ∷ p.direction ∷ []

abbrev pub values_of : Comparison → List ℕ
values_of f = f.equal ∷ f.different ∷ f.only_there ∷ f.only_here ∷ key_values f.lowest

abbrev pub beside_values : Result Comparison Refusal → List ℕ
beside_values (Ok f) = values_of f
beside_values (Err why) = []
