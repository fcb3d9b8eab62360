-- A trailer that points at records inside the journal, the records by what a read gave, a record that is issued again (N7), at most 288 whole
-- records, and a tracker's rows. No promise cites this.
use Rattle.std.specs.Prelude.{◌≡◌, Bool, false, not, cond, List, [], ◌∷◌, ◌++◌, ℕ, Result, Ok, Err, ◌+◌, ◌*◌, ◌-◌, ◌%◌, ◌≤◌, eqb, ltb, length, take, drop}
use Rattle.tracker.specs.Promise.{Tracker, Row, record_number, of_directions, row_answer}
use Rattle.journal_rules.specs.declared.Contents.{Contents}
use Rattle.journal_rules.specs.Journal.{Refusal, record_length, most_records, trailer_length, record_count, count, distance}

-- the trailer points at records that are inside
pub record Shaped (s : List ℕ) : Type 0 where
  pub low : trailer_length ≤ length s
  pub most : count s ≤ most_records
  pub back : distance s ≡ record_length * count s
  pub inside : distance s + trailer_length ≤ length s

-- So many records, those that end at the trailer; nothing where they and a trailer are longer than the journal.
abbrev pub last_records : ℕ → List ℕ → List ℕ
last_records count s =
    let bytes = record_length * count in
    cond (ltb (length s) (bytes + trailer_length)) [] (take bytes (drop (length s - trailer_length - bytes) s))

-- By what a read gave: as many as it counted, or nothing on a refusal.
abbrev pub counted_records : Result Contents Refusal → List ℕ → List ℕ
counted_records (Ok held) s = last_records held.count s
counted_records (Err why) s = []

-- A record is issued again if the first of those behind it has the same n. In records that are in order this says that it is superseded
-- (proofs/OneByOne `next_tells`).
abbrev pub issued_again : List ℕ → List (List ℕ) → Bool
issued_again b [] = false
issued_again b (next ∷ bs) = eqb (record_number next) (record_number b)

-- Of records one by one those that are not issued again, each the last of its n. In records that are in order these are the survivors
-- (proofs/OneByOne `last_survive`).
abbrev pub last_of_each : List (List ℕ) → List (List ℕ)
last_of_each [] = []
last_of_each (b ∷ bs) = cond (not (issued_again b bs)) (b ∷ []) [] ++ last_of_each bs

-- at most 288 whole records
pub record Whole (r : List ℕ) : Type 0 where
  pub whole : length r % record_length ≡ 0
  pub few : record_count r ≤ most_records

-- the rows that a tracker's row calls return, by direction
abbrev pub rows_shown : Tracker → List Row
rows_shown t = of_directions (λ d. (row_answer t d).row)
