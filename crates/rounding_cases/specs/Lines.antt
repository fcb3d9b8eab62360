-- What N9 compares after each call of a list, of all eight directions, and that the stored lines are this.
use Rattle.std.specs.Prelude.{List, [], ◌∷◌, ◌≡◌, ℕ}
use Rattle.rules.specs.declared.Tracker.{Tracker}
use Rattle.rules.specs.Market.{of_directions}
use Rattle.rules.specs.Tracker.{Opening, opening, shares_of, open_of, after}
use Rattle.rules.specs.Calls.{Interval}
use Rattle.rules.specs.Claim.{accept_call}
use Rattle.rules.specs.Figures.{halves, Compared, compared_at}
use Rattle.rounding_cases.specs.Records as records
use Rattle.rounding_cases.specs.Stored as stored

-- After each further call on the tracker t that the accepted records bs left.
abbrev pub lines_from : Opening → Tracker → List (List ℕ) → List (List ℕ) → List (List Compared)
lines_from o t bs [] = []
lines_from o t bs (b ∷ calls) = of_directions (compared_at (shares_of o) (after t b) (accept_call o bs (Interval b))) ∷ lines_from o (after t b) (accept_call o bs (Interval b)) calls

-- After each call of a list, of a tracker opened at first with all shares 500.
abbrev pub lines_of : ℕ → List (List ℕ) → List (List Compared)
lines_of first calls = let o = opening first halves in lines_from o (open_of o).tracker [] calls

pub record EveryLine : Type 0 where
  pub tight_below : lines_of 478044 records.tight_below ≡ stored.tight_below
  pub tight_above : lines_of 837498 records.tight_above ≡ stored.tight_above
  pub all_round_to_0 : lines_of 985284 records.all_round_to_0 ≡ stored.all_round_to_0
  pub both_ways : lines_of 80124 records.both_ways ≡ stored.both_ways
  pub random_0 : lines_of 331536 records.random_0 ≡ stored.random_0
  pub random_1 : lines_of 917598 records.random_1 ≡ stored.random_1
