-- Document 02, N7: for each n the record of highest issue, and the second call of the journal, which writes these records to a lent buffer.
use Rattle.std.specs.Prelude.{Bool, not, cond, ◌&&◌, ◌≡◌, ℕ, zero, suc, Result, Ok, Err, ◌+◌, ◌<◌, ◌≤◌, eqb, ltb, length, get_or}
use mathlib.Core.List.{List, [], ◌∷◌, ◌++◌, flatten}
pub use Rattle.tracker.specs.Promise.{record_at}
use Rattle.tracker.specs.Promise.{record_number, issue}
use Rattle.words.specs.Buffer.{over}
use Rattle.journal_rules.specs.Journal.{Refusal, NoRoom, Outcome, Condition, ◌when◌, judged, each, record_count, number_at, issue_at, first_number, part, read_conditions}

-- Record j supersedes record i: it has the same n and a higher issue.
abbrev pub supersedes : List ℕ → ℕ → ℕ → Bool
supersedes r j i = eqb (number_at r j) (number_at r i) && ltb (issue_at r i) (issue_at r j)

-- Record i survives: none of its n has a higher issue. In records that are in order just one of each n does (HighestOfEach).
unfoldable pub survives : List ℕ → ℕ → Bool
survives r i = each (record_count r) (λ j. not (supersedes r j i))

-- The survivors, as they stand in the journal: among so many records from record i on, and among all.
unfoldable pub survivors_from : List ℕ → ℕ → ℕ → List (List ℕ)
survivors_from r i zero = []
survivors_from r i (suc more) = cond (survives r i) (record_at r i ∷ []) [] ++ survivors_from r (suc i) more

unfoldable pub survivors : List ℕ → List (List ℕ)
survivors r = survivors_from r 0 (record_count r)

-- The second call, with a buffer of length room: it refuses as a read does, then with 16, output too short for the survivors.
unfoldable pub survivors_conditions : List ℕ → ℕ → List Condition
survivors_conditions s room = read_conditions s ++ (NoRoom when ltb room (length (flatten (survivors (part s)))) ∷ [])

unfoldable pub survivors_outcome : List ℕ → ℕ → Outcome
survivors_outcome s room = judged (survivors_conditions s room)

-- It gives their count; a refusal returns only its number.
abbrev pub surviving_by : Outcome → List ℕ → Result ℕ Refusal
surviving_by (Ok done) s = Ok (length (survivors (part s)))
surviving_by (Err why) s = Err why

unfoldable pub surviving_of : List ℕ → ℕ → Result ℕ Refusal
surviving_of s room = surviving_by (survivors_outcome s room) s

-- The values of each of its answers, beside its number: the count, or none.
abbrev pub surviving_values : Result ℕ Refusal → List ℕ
surviving_values (Ok n) = n ∷ []
surviving_values (Err why) = []

-- The lent buffer afterwards: the survivors end to end at its start, and bytes after them keep their values; on a refusal all do.
abbrev pub survivors_buffer_by : Outcome → List ℕ → List ℕ → List ℕ
survivors_buffer_by (Ok done) s d = over (flatten (survivors (part s))) d
survivors_buffer_by (Err why) s d = d

unfoldable pub survivors_buffer : List ℕ → List ℕ → List ℕ
survivors_buffer s d = survivors_buffer_by (survivors_outcome s (length d)) s d

-- ---- what the survivors of records in order are, said without `survives`
-- Record b is one of the records r.
pub record Among (r b : List ℕ) : Type 0 where
  pub place : ℕ
  pub inside : place < record_count r
  pub is : record_at r place ≡ b

-- One of the records w has number n.
pub record HasNumber (w : List (List ℕ)) (n : ℕ) : Type 0 where
  pub place : ℕ
  pub inside : place < length w
  pub is : record_number (get_or w place []) ≡ n

-- Records w are, for each n of the records r, the record of highest issue, in order of n.
pub record HighestOfEach (r : List ℕ) (w : List (List ℕ)) : Type 0 where
  -- each n of r has one,
  pub each_number : (i : ℕ) → i < record_count r → HasNumber w (number_at r i)
  -- which is one of the records r,
  pub among : (k : ℕ) → k < length w → Among r (get_or w k [])
  -- and no record of its n has a higher issue;
  pub highest : (k : ℕ) → k < length w → (i : ℕ) → i < record_count r → number_at r i ≡ record_number (get_or w k []) → issue_at r i ≤ issue (get_or w k [])
  -- they stand in order of n, from the first n on, without a gap: so there is one for each n, and no more.
  pub in_turn : (k : ℕ) → k < length w → record_number (get_or w k []) ≡ first_number r + k
