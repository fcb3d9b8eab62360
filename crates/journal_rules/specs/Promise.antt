-- What the calls of the journal promise for every input: what they return, in the documents' numbers and values, what the buffer that a write or
-- the second call (N7) is lent holds afterwards, the round trips, and what survivors are.
use Rattle.std.specs.Prelude.{List, [], ◌∷◌, ◌≡◌, ℕ, Result, ◌+◌, length}
use Rattle.std.proofs.Math.Option.{Option, none, some}
use Rattle.journal_rules.specs.declared.Contents.{Contents}
use Rattle.journal_rules.specs.Journal.{Refusal, trailer_length, number_of, number_met, count, first, last, part, read_conditions, read_of, records_of, found_values, write_conditions, written_of, buffer_of, written_values}
use Rattle.journal_rules.specs.Survivors.{survivors, survivors_conditions, surviving_of, survivors_buffer, surviving_values, HighestOfEach}
use Rattle.journal_rules.specs.RoundTrip.{ReadsBack, WritesBack}

-- A refusal returns only its number: where there is one, there are no values.
abbrev pub unless_refused : Option ℕ → List ℕ → List ℕ
unless_refused none values = values
unless_refused (some k) values = []

-- A read of journal s returns what document 01 says: the number of the first condition met, or else count, first n and last n. What it finds,
-- a write gives back.
pub record ReadPromise (s : List ℕ) (answer : Result Contents Refusal) : Type 0 where
  pub is : answer ≡ read_of s
  pub number : number_of answer ≡ number_met (read_conditions s)
  pub values : found_values answer ≡ unless_refused (number_met (read_conditions s)) (count s ∷ first s ∷ last s ∷ [])
  pub writes_back : WritesBack answer s

-- A write of records r into buffer d returns what document 01 says, the number of the first condition met, or else that of the bytes written,
-- and leaves in the buffer what document 01 says. What it writes, a read gives back.
pub record WritePromise (r d : List ℕ) (answer : Result ℕ Refusal) (left : List ℕ) : Type 0 where
  pub is : answer ≡ written_of r (length d)
  pub buffer : left ≡ buffer_of r d
  pub number : number_of answer ≡ number_met (write_conditions r (length d))
  pub values : written_values answer ≡ unless_refused (number_met (write_conditions r (length d))) ((length r + trailer_length) ∷ [])
  pub reads_back : ReadsBack answer r left

-- The second call (N7), of journal s and buffer d, returns what document 02 says, the number of the first condition met, or else how many records
-- survive, and leaves in the buffer what document 02 says. What it gives and writes are, for each n, the record of highest issue, in order of n
-- (records_of s is part s wherever a read accepts s, also where the buffer is too short).
pub record SurvivorsPromise (s d : List ℕ) (answer : Result ℕ Refusal) (left : List ℕ) : Type 0 where
  pub is : answer ≡ surviving_of s (length d)
  pub buffer : left ≡ survivors_buffer s d
  pub number : number_of answer ≡ number_met (survivors_conditions s (length d))
  pub values : surviving_values answer ≡ unless_refused (number_met (survivors_conditions s (length d))) (length (survivors (part s)) ∷ [])
  pub highest : HighestOfEach (records_of s) (survivors (records_of s))
