-- Document 01, the journal: preface, records and trailer; what a read and a write give, and under which numbers they are refused.
use Rattle.std.specs.Prelude.{Bool, not, cond, ◌&&◌, ◌||◌, List, [], ◌∷◌, ◌++◌, ℕ, Result, Ok, Err, ◌+◌, ◌*◌, ◌-◌, eqb, ltb, length, take, drop}
pub use Rattle.tracker.specs.Promise.{Refusal, BadLength, BadTrailer, BadNumbers, NotInOrder, BadRecords, NoRoom, number, Outcome, number_of, Condition, ◌when◌, judged, number_met, record_length, record_count, most_records}
unfoldable pub use Rattle.tracker.specs.Promise.{u32_at, each, bad_records}
use Rattle.tracker.specs.Promise.{byte_at}
use Rattle.words.specs.Buffer.{little_of, over}
use Rattle.journal_rules.specs.declared.Contents.{Contents}

-- A journal is a preface of 0 to 1,024 free bytes, at most 288 records (most_records) end to end, superseded ones included (N7), and a trailer of
-- 16 bytes; a read takes up to 65,536 bytes.
abbrev pub longest_preface : ℕ
longest_preface = 1024

abbrev pub trailer_length : ℕ
trailer_length = 16

abbrev pub longest_journal : ℕ
longest_journal = 65536

-- Records end to end: the n of record i, which it starts with, and its issue, byte 13 of it (N7).
abbrev pub number_at : List ℕ → ℕ → ℕ
number_at r i = u32_at r (record_length * i)

abbrev pub issue_at : List ℕ → ℕ → ℕ
issue_at r i = byte_at r (record_length * i + 13)

-- First n and last n; 0 if empty.
unfoldable pub first_number : List ℕ → ℕ
first_number r = cond (eqb (record_count r) 0) 0 (number_at r 0)

unfoldable pub last_number : List ℕ → ℕ
last_number r = cond (eqb (record_count r) 0) 0 (number_at r (record_count r - 1))

-- After a record of number n and issue x comes one of number m and issue y: the same n and a higher issue, or the next n and any issue (N7). Numbers
-- are whole: 0 is not the next n after 4,294,967,295.
abbrev pub follows : ℕ → ℕ → ℕ → ℕ → Bool
follows n x m y = eqb m n && ltb x y || eqb m (n + 1)

abbrev pub followed_at : List ℕ → ℕ → Bool
followed_at r k = follows (number_at r k) (issue_at r k) (number_at r (k + 1)) (issue_at r (k + 1))

-- Each record after the first follows the one before it.
unfoldable pub in_order : List ℕ → Bool
in_order r = each (record_count r - 1) (followed_at r)

-- A trailer of four u32 ends the journal; word k of it: count, distance back from the trailer's start to the first record, first n, last n.
abbrev pub trailer_word : List ℕ → ℕ → ℕ
trailer_word s k = u32_at s (length s - trailer_length + 4 * k)

abbrev pub count : List ℕ → ℕ
count s = trailer_word s 0

abbrev pub distance : List ℕ → ℕ
distance s = trailer_word s 1

abbrev pub first : List ℕ → ℕ
first s = trailer_word s 2

abbrev pub last : List ℕ → ℕ
last s = trailer_word s 3

-- How long the preface is: what stands before the first record.
abbrev pub preface : List ℕ → ℕ
preface s = length s - trailer_length - distance s

-- The part of the lent journal that holds the records.
unfoldable pub part : List ℕ → List ℕ
part s = take (distance s) (drop (preface s) s)

-- Journal read: 11 length below 16 or above 65,536;
unfoldable pub bad_length : List ℕ → Bool
bad_length s = ltb (length s) trailer_length || ltb longest_journal (length s)

-- 12 count above 288, distance not 168 × count, or distance + 16 above the length, or preface above 1,024;
unfoldable pub bad_trailer : List ℕ → Bool
bad_trailer s =
    ltb most_records (count s)
    || (not (eqb (distance s) (record_length * count s)) || (ltb (length s) (distance s + trailer_length) || ltb longest_preface (preface s)))

-- 13 trailer numbers not those of the records, or not 0 when empty (the count is theirs already, by the distance);
unfoldable pub bad_numbers : ℕ → ℕ → List ℕ → Bool
bad_numbers first last r = not (eqb first (first_number r)) || not (eqb last (last_number r))

-- 14 a record that does not follow the one before it (N7).
unfoldable pub read_conditions : List ℕ → List Condition
read_conditions s =
    BadLength when bad_length s
    ∷ BadTrailer when bad_trailer s
    ∷ BadNumbers when bad_numbers (first s) (last s) (part s)
    ∷ NotInOrder when not (in_order (part s))
    ∷ []

unfoldable pub read_outcome : List ℕ → Outcome
read_outcome s = judged (read_conditions s)

abbrev pub holding : ℕ → ℕ → ℕ → Contents
holding count first last = record { count = count; first = first; last = last }

-- A read gives count, first n, last n, still of all records (N7); a refusal returns only its number.
abbrev pub found_by : Outcome → List ℕ → Result Contents Refusal
found_by (Ok done) s = Ok (holding (count s) (first s) (last s))
found_by (Err why) s = Err why

unfoldable pub read_of : List ℕ → Result Contents Refusal
read_of s = found_by (read_outcome s) s

-- The values of each answer of a read, beside its number (number_of): count, first n, last n, or none.
abbrev pub found_values : Result Contents Refusal → List ℕ
found_values (Ok held) = held.count ∷ held.first ∷ held.last ∷ []
found_values (Err why) = []

-- And the records, as the part of the lent journal that holds them; on a refusal it has length 0.
abbrev pub records_by : Outcome → List ℕ → List ℕ
records_by (Ok done) s = part s
records_by (Err why) s = []

unfoldable pub records_of : List ℕ → List ℕ
records_of s = records_by (read_outcome s) s

-- Ours has no preface: the records, then a trailer; all 0 if empty.
abbrev pub trailer_of : List ℕ → List ℕ
trailer_of r = little_of (record_count r) ++ (little_of (length r) ++ (little_of (first_number r) ++ little_of (last_number r)))

unfoldable pub journal_of : List ℕ → List ℕ
journal_of r = r ++ trailer_of r

-- Journal write, into a buffer of length room: 15 length not a multiple of 168, or above 288 records (bad_records, as of a set of intervals, N10);
-- 14; 16 output too short.
unfoldable pub write_conditions : List ℕ → ℕ → List Condition
write_conditions r room =
    BadRecords when bad_records r
    ∷ NotInOrder when not (in_order r)
    ∷ NoRoom when ltb room (length r + trailer_length)
    ∷ []

unfoldable pub write_outcome : List ℕ → ℕ → Outcome
write_outcome r room = judged (write_conditions r room)

-- A write gives the number of bytes written; a refusal returns only its number.
abbrev pub written_by : Outcome → List ℕ → Result ℕ Refusal
written_by (Ok done) r = Ok (length r + trailer_length)
written_by (Err why) r = Err why

unfoldable pub written_of : List ℕ → ℕ → Result ℕ Refusal
written_of r room = written_by (write_outcome r room) r

-- The values of each answer of a write, beside its number: how many bytes are written, or none.
abbrev pub written_values : Result ℕ Refusal → List ℕ
written_values (Ok n) = n ∷ []
written_values (Err why) = []

-- The lent buffer afterwards: on success bytes after the journal keep their values, on a refusal all do.
abbrev pub buffer_by : Outcome → List ℕ → List ℕ → List ℕ
buffer_by (Ok done) r d = over (journal_of r) d
buffer_by (Err why) r d = d

unfoldable pub buffer_of : List ℕ → List ℕ → List ℕ
buffer_of r d = buffer_by (write_outcome r (length d)) r d
