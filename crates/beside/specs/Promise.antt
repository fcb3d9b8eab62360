-- What the call promises for every journal and all entries (N12).
use Rattle.std.specs.Prelude.{◌≡◌, List, ℕ, Result, Ok}
use Rattle.tracker.specs.Promise.{Refusal, number_of, number_met}
use Rattle.journal_rules.specs.Promise.{unless_refused}
use Rattle.comparison.specs.declared.Comparison.{Comparison}
use Rattle.comparison.specs.Comparison.{compared, AddUp}
use Rattle.comparison.specs.Entries.{entries_in}
use Rattle.beside.specs.Beside.{our_rows, beside_conditions, beside_of, values_of, beside_values}

-- The call, of journal s and entries b, returns what document 02 says: the number of the first condition met, or else the figures of the two lists.
-- And these add up, as document 02 has it, to the number of entries and to that of our rows; the lowest is none exactly if the last three are 0.
pub record BesidePromise (s b : List ℕ) (answer : Result Comparison Refusal) : Type 0 where
  pub is : answer ≡ beside_of s b
  pub number : number_of answer ≡ number_met (beside_conditions s b)
  pub values : beside_values answer ≡ unless_refused (number_met (beside_conditions s b)) (values_of (compared (our_rows s) (entries_in b)))
  pub add_up : {f : Comparison} → answer ≡ Ok f → AddUp (our_rows s) (entries_in b) f
