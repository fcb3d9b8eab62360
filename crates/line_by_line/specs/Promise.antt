-- What the call promises for every journal, every number of lines already given and every scratch (N3).
use Rattle.std.specs.Prelude.{List, [], ◌∷◌, ◌≡◌, ℕ, Result, ◌<◌, ◌≤◌, length}
use Rattle.tracker.specs.Promise.{Refusal, number_of, number_met}
use Rattle.journal_rules.specs.Promise.{unless_refused}
use Rattle.listing.specs.Listing.{longest_line}
use Rattle.line_by_line.specs.NextLine.{journal_lines, line_after, next_line_conditions, next_line_of, line_values, scratch_after, EndToEnd}

-- The call, of a journal, so many lines already given and scratch d, returns what document 02 says, the number of the condition met, or else the
-- length of the next line, and leaves in the scratch what document 02 says. The last four are laws of these definitions: no line, newline included,
-- is longer than 95; none is empty, so that 0 is given at the end and beyond alone; and calls in turn give the listing.
pub record NextLinePromise (journal : List ℕ) (given : ℕ) (d : List ℕ) (answer : Result ℕ Refusal) (left : List ℕ) : Type 0 where
  pub is : answer ≡ next_line_of journal given (length d)
  pub scratch : left ≡ scratch_after journal given d
  pub number : number_of answer ≡ number_met (next_line_conditions (length d))
  pub values : line_values answer ≡ unless_refused (number_met (next_line_conditions (length d))) (length (line_after journal given) ∷ [])
  pub short : length (line_after journal given) ≤ longest_line
  pub not_empty : given < length (journal_lines journal) → 0 < length (line_after journal given)
  pub beyond : length (journal_lines journal) ≤ given → line_after journal given ≡ []
  pub end_to_end : EndToEnd journal
