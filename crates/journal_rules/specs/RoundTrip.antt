-- The two round trips: what is written is read back, and what is read is written back, records of all issues (N7).
use Rattle.std.specs.Prelude.{◌≡◌, List, ℕ, Result, Ok, Err, ◌+◌, ◌≤◌, length, take, drop}
use Rattle.journal_rules.specs.declared.Contents.{Contents}
use Rattle.journal_rules.specs.Journal.{Refusal, holding, trailer_length, record_count, first_number, last_number, distance, preface, read_of, records_of, written_of, buffer_of}

-- A read of journal s finds exactly the records r.
pub record Finds (s r : List ℕ) : Type 0 where
  pub found : read_of s ≡ Ok (holding (record_count r) (first_number r) (last_number r))
  pub records : records_of s ≡ r

-- A write of r that is accepted leaves in buffer d a journal, the bytes that it counts, in which a read finds r.
abbrev pub ReadsBack : Result ℕ Refusal → List ℕ → List ℕ → Type 0
ReadsBack (Ok n) r d = Finds (take n d) r
ReadsBack (Err why) r d = Unit

-- The records of journal s, written into buffer d, give records and trailer of s: s without its preface.
pub record Rewrites (s d : List ℕ) : Type 0 where
  pub accepted : written_of (records_of s) (length d) ≡ Ok (distance s + trailer_length)
  pub same : take (distance s + trailer_length) (buffer_of (records_of s) d) ≡ drop (preface s) s

-- If a read accepts journal s, a write of its records into any buffer long enough is accepted, and records and trailer equal the journal's.
abbrev pub WritesBack : Result Contents Refusal → List ℕ → Type 0
WritesBack (Ok held) s = (d : List ℕ) → distance s + trailer_length ≤ length d → Rewrites s d
WritesBack (Err why) s = Unit
