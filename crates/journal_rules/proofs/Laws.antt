-- Laws that pin from outside what a read, a write and the second call (N7) give: the documents' numbers and their order, the values beside them,
-- each limit, and what a refusal leaves as it was. Contracts and round trips use the same definitions, so that neither would show a wrong one.
-- Assumes nothing.
use mathlib.Core.Path.{◌≡◌, refl, ◌∙◌}
use mathlib.Core.Bool.{Bool, true, false, not, or-true}
use mathlib.Core.List.{List, [], ◌∷◌, ◌++◌, map, flatten}
use mathlib.Core.Option.{Option, none, some, some_inj}
use Prim.Native.Nat.{ℕ, ◌+◌, ◌%◌, ◌<◌}
use borrow.Author.Tests.{lt-ltb}
use lib.Dec.{ltb, eqb}
use lib.ListN.{length, drop, replicate, length-append}
use lib.Seq.{drop-append_seam}
use Rattle.words.specs.Buffer.{little_of}
use Rattle.tracker.proofs.Promise.{number_met_lem, numbers}
use Rattle.std.specs.Prelude.{Result, Ok, Err}
use Rattle.journal_rules.specs.declared.Contents.{Contents}
use Rattle.journal_rules.specs.Journal.{Refusal, BadLength, BadTrailer, BadNumbers, NotInOrder, BadRecords, number, Outcome, Condition, judged, number_of, number_met, u32_at, each, record_count, first_number, last_number, in_order, count, distance, part, bad_length, bad_trailer, bad_numbers, read_conditions, read_outcome, holding, read_of, found_values, records_of, trailer_of, journal_of, bad_records, write_conditions, write_outcome, written_of, written_values, buffer_by, buffer_of}
use Rattle.journal_rules.specs.Survivors.{survives, survivors_from, survivors, survivors_conditions, survivors_outcome, surviving_of, surviving_values, survivors_buffer_by, survivors_buffer}

-- ---- numbers and values, as document 01 writes them
-- Journal read: 11; 12; 13; 14.
pub read_numbers : (s : List ℕ) → numbers (read_conditions s) ≡ 11 ∷ 12 ∷ 13 ∷ 14 ∷ []
unfolding read_conditions
read_numbers s = refl

-- Journal write: 15; 14; 16.
pub write_numbers : (r : List ℕ) (room : ℕ) → numbers (write_conditions r room) ≡ 15 ∷ 14 ∷ 16 ∷ []
unfolding write_conditions
write_numbers r room = refl

-- The second call: 11 to 14 as a read, then 16.
pub survivors_numbers : (s : List ℕ) (room : ℕ) → numbers (survivors_conditions s room) ≡ 11 ∷ 12 ∷ 13 ∷ 14 ∷ 16 ∷ []
unfolding survivors_conditions read_conditions
survivors_numbers s room = refl

abbrev read_says : Result Contents Refusal → Option ℕ × List ℕ
read_says f = (number_of f, found_values f)

abbrev write_says : Result ℕ Refusal → Option ℕ × List ℕ
write_says w = (number_of w, written_values w)

abbrev second_says : Result ℕ Refusal → Option ℕ × List ℕ
second_says a = (number_of a, surviving_values a)

-- A refusal returns only its number,
pub refused_read : (why : Refusal) → read_says (Err why) ≡ (some (number why), [])
refused_read why = refl

pub refused_write : (why : Refusal) → write_says (Err why) ≡ (some (number why), [])
refused_write why = refl

pub refused_second : (why : Refusal) → second_says (Err why) ≡ (some (number why), [])
refused_second why = refl

-- and an acceptance has no number, but values.
pub accepted_read : read_says (Ok (holding 2 5 6)) ≡ (none, 2 ∷ 5 ∷ 6 ∷ [])
accepted_read = refl

pub accepted_write : write_says (Ok 352) ≡ (none, 352 ∷ [])
accepted_write = refl

pub accepted_second : second_says (Ok 2) ≡ (none, 2 ∷ [])
accepted_second = refl

-- ---- the first condition met gives the number; without one the call is accepted: every fault at once, then mended one by one
-- A record of this n and issue (N7), both below 256, with the rest 0.
abbrev record_of : ℕ × ℕ → List ℕ
record_of (n, issue) = n ∷ (replicate 12 0 ++ (issue ∷ replicate 154 0))

abbrev issued : List (ℕ × ℕ) → List ℕ
issued [] = []
issued (p ∷ ps) = record_of p ++ issued ps

-- Records of these n, all of issue 0.
abbrev records_at : List ℕ → List ℕ
records_at ns = issued (map (λ n. (n, 0)) ns)

-- A journal of records after a preface of two bytes, with any trailer.
abbrev journal_with : List ℕ → ℕ → ℕ → ℕ → ℕ → List ℕ
journal_with r count distance first last = 255 ∷ 255 ∷ (r ++ (little_of count ++ (little_of distance ++ (little_of first ++ little_of last))))

abbrev journal_at : List ℕ → ℕ → ℕ → ℕ → ℕ → List ℕ
journal_at ns = journal_with (records_at ns)

pub read_mended : map (λ s. read_says (read_of s))
    (drop 339 (journal_at (5 ∷ 5 ∷ []) 2 337 4 8)
    ∷ journal_at (5 ∷ 5 ∷ []) 2 337 4 8
    ∷ journal_at (5 ∷ 5 ∷ []) 2 336 4 8
    ∷ journal_at (5 ∷ 5 ∷ []) 2 336 5 5
    ∷ journal_at (5 ∷ 6 ∷ []) 2 336 5 6
    ∷ [])
    ≡ (some 11, []) ∷ (some 12, []) ∷ (some 13, []) ∷ (some 14, []) ∷ (none, 2 ∷ 5 ∷ 6 ∷ []) ∷ []
unfolding u32_at each first_number last_number in_order part bad_length bad_trailer bad_numbers read_conditions read_outcome read_of
read_mended = refl

pub write_mended : map write_says
    (written_of (records_at (5 ∷ 5 ∷ []) ++ (0 ∷ [])) 351
    ∷ written_of (records_at (5 ∷ 5 ∷ [])) 351
    ∷ written_of (records_at (5 ∷ 6 ∷ [])) 351
    ∷ written_of (records_at (5 ∷ 6 ∷ [])) 352
    ∷ [])
    ≡ (some 15, []) ∷ (some 14, []) ∷ (some 16, []) ∷ (none, 352 ∷ []) ∷ []
unfolding u32_at each in_order bad_records write_conditions write_outcome written_of
write_mended = refl

-- Of the second call: after the faults of a read, two records of which one survives, in a buffer that is a byte too short, and then long enough.
pub second_mended : map second_says
    (surviving_of (drop 339 (journal_at (5 ∷ 5 ∷ []) 2 337 4 8)) 167
    ∷ surviving_of (journal_at (5 ∷ 5 ∷ []) 2 337 4 8) 167
    ∷ surviving_of (journal_at (5 ∷ 5 ∷ []) 2 336 4 8) 167
    ∷ surviving_of (journal_at (5 ∷ 5 ∷ []) 2 336 5 5) 167
    ∷ surviving_of (journal_with (issued ((5, 0) ∷ (5, 1) ∷ [])) 2 336 5 5) 167
    ∷ surviving_of (journal_with (issued ((5, 0) ∷ (5, 1) ∷ [])) 2 336 5 5) 168
    ∷ [])
    ≡ (some 11, []) ∷ (some 12, []) ∷ (some 13, []) ∷ (some 14, []) ∷ (some 16, []) ∷ (none, 1 ∷ []) ∷ []
unfolding u32_at each first_number last_number in_order part bad_length bad_trailer bad_numbers read_conditions flatten survives survivors_from survivors survivors_conditions survivors_outcome surviving_of
second_mended = refl

-- ---- each fault, and at a limit what is still allowed and the first that is not
module _ (s : List ℕ) where
  -- Number 11, length below 16 or above 65,536, at each limit;
  abbrev BadAt : ℕ → Bool → Type 0
  BadAt n bad = length s ≡ n → bad_length s ≡ bad

  pub length_limits : (BadAt 15 true × BadAt 16 false) × (BadAt 65536 false × BadAt 65537 true)
  unfolding bad_length
  length_limits = ((λ l. rw l, λ l. rw l), (λ l. rw l, λ l. rw l))

  -- and whatever else is wrong.
  pub too_short : length s < 16 → read_of s ≡ Err BadLength
  unfolding bad_length read_conditions read_outcome read_of
  too_short l = rw (lt-ltb (length s) 16 l)

  pub too_long : 65536 < length s → read_of s ≡ Err BadLength
  unfolding bad_length read_conditions read_outcome read_of
  too_long l = rw (lt-ltb 65536 (length s) l, or-true (ltb (length s) 16))

  -- Number 12, count above 288, or preface above 1,024: with both at their limit a journal has 49,424 bytes.
  pub count_289 : count s ≡ 289 → bad_trailer s ≡ true
  unfolding bad_trailer
  count_289 c = rw c

  pub preface_limit : count s ≡ 288
      → distance s ≡ 48384
      → (length s ≡ 49424 → bad_trailer s ≡ false) × (length s ≡ 49425 → bad_trailer s ≡ true)
  unfolding bad_trailer
  preface_limit c d = (λ l. rw (c, d, l), λ l. rw (c, d, l))

-- Number 12, distance + 16 above the length; 13, trailer numbers not those of the records, or not 0 when empty.
pub misplaced_or_misnumbered : map read_of
    (journal_at (5 ∷ []) 2 336 5 6
    ∷ journal_at (5 ∷ 6 ∷ []) 2 336 6 6
    ∷ journal_at (5 ∷ 6 ∷ []) 2 336 5 5
    ∷ journal_at [] 0 0 1 0
    ∷ journal_at [] 0 0 0 1
    ∷ journal_at [] 0 0 0 0
    ∷ [])
    ≡ Err BadTrailer ∷ Err BadNumbers ∷ Err BadNumbers ∷ Err BadNumbers ∷ Err BadNumbers ∷ Ok (holding 0 0 0) ∷ []
unfolding u32_at each first_number last_number in_order part bad_length bad_trailer bad_numbers read_conditions read_outcome read_of
misplaced_or_misnumbered = refl

-- Number 14, a record's n not one more than the last one's, wherever it stands, where all have one issue.
pub disordered : map (λ ns. written_of (records_at ns) 520)
    ((5 ∷ 5 ∷ 6 ∷ []) ∷ (5 ∷ 6 ∷ 6 ∷ []) ∷ (5 ∷ 6 ∷ 8 ∷ []) ∷ (7 ∷ 6 ∷ 5 ∷ []) ∷ (5 ∷ 6 ∷ 7 ∷ []) ∷ [])
    ≡ Err NotInOrder ∷ Err NotInOrder ∷ Err NotInOrder ∷ Err NotInOrder ∷ Ok 520 ∷ []
unfolding u32_at each in_order bad_records write_conditions write_outcome written_of
disordered = refl

-- Number 14 (N7), by n and issue: a higher issue of the same n, and the next n under any issue, the first record's too; not an equal issue, not a
-- lower one, nor a higher one after the next n, after a gap or of the n before.
abbrev written_as : List (ℕ × ℕ) → Result ℕ Refusal
written_as ps = written_of (issued ps) 520

pub reissued : map written_as
    (((5, 0) ∷ (5, 1) ∷ (5, 255) ∷ [])
    ∷ ((5, 9) ∷ (6, 3) ∷ (7, 0) ∷ [])
    ∷ ((5, 0) ∷ (5, 1) ∷ (5, 1) ∷ [])
    ∷ ((5, 7) ∷ (5, 6) ∷ (6, 0) ∷ [])
    ∷ ((5, 0) ∷ (6, 0) ∷ (5, 1) ∷ [])
    ∷ ((5, 0) ∷ (6, 0) ∷ (8, 1) ∷ [])
    ∷ [])
    ≡ Ok 520 ∷ Ok 520 ∷ Err NotInOrder ∷ Err NotInOrder ∷ Err NotInOrder ∷ Err NotInOrder ∷ []
unfolding u32_at each in_order bad_records write_conditions write_outcome written_of
reissued = refl

-- The survivors of such records: for each n that of highest issue, in order of n.
pub of_highest_issue : survivors (issued ((5, 0) ∷ (5, 7) ∷ (6, 2) ∷ (7, 0) ∷ (7, 1) ∷ (7, 255) ∷ [])) ≡ map record_of ((5, 7) ∷ (6, 2) ∷ (7, 255) ∷ [])
unfolding u32_at each survives survivors_from survivors
of_highest_issue = refl

-- Number 15, above 288 records, whatever else is wrong.
module _ (r : List ℕ) where
  pub too_many : (room : ℕ) → 288 < record_count r → written_of r room ≡ Err BadRecords
  unfolding bad_records write_conditions write_outcome written_of
  too_many room c = rw (lt-ltb 288 (record_count r) c, or-true (not (eqb (length r % 168) 0)))

-- ---- the records, and the buffer that a write is lent
refused_by : (cs : List Condition) (k : ℕ) → number_met cs ≡ some k → (why : Refusal) × (judged cs ≡ Err why) × (number why ≡ k)
refused_by cs k e = go (judged cs) (number_met_lem cs ∙ e)
  where
    go : (o : Outcome) → number_of o ≡ some k → (why : Refusal) × (o ≡ Err why) × (number why ≡ k)
    go (Ok done) n = cc
    go (Err why) n = (why, refl, some_inj.0 n)

-- The part of the lent journal that holds them; on a refusal it has length 0.
module _ (s : List ℕ) where
  pub records_found : read_outcome s ≡ Ok tt → records_of s ≡ part s
  unfolding records_of
  records_found e = rw e

  pub no_records : (k : ℕ) → number_met (read_conditions s) ≡ some k → records_of s ≡ []
  unfolding records_of read_outcome
  no_records k e = rw (refused_by (read_conditions s) k e).1

pub journal_length : (r : List ℕ) → length (journal_of r) ≡ length r + 16
unfolding journal_of
journal_length r = length-append r (trailer_of r)

-- A refusal returns only its number, beside buffers as they were. On success bytes after the journal keep their values.
module _ (r d : List ℕ) where
  pub untouched : (k : ℕ) → number_met (write_conditions r (length d)) ≡ some k → buffer_of r d ≡ d
  unfolding buffer_of write_outcome
  untouched k e = rw (refused_by (write_conditions r (length d)) k e).1

  pub kept_after : drop (length r + 16) (buffer_of r d) ≡ drop (length r + 16) d
  unfolding buffer_of
  kept_after = go (write_outcome r (length d))
    where
      go : (o : Outcome) → drop (length r + 16) (buffer_by o r d) ≡ drop (length r + 16) d
      go (Ok done) = rw (← journal_length r) (drop-append_seam (journal_of r) (drop (length (journal_of r)) d))
      go (Err why) = refl

-- Of the second call (N7): a refusal leaves the buffer as it was, and on success bytes after the survivors keep their values.
module _ (s d : List ℕ) where
  pub second_untouched : (k : ℕ) → number_met (survivors_conditions s (length d)) ≡ some k → survivors_buffer s d ≡ d
  unfolding survivors_buffer survivors_outcome
  second_untouched k e = rw (refused_by (survivors_conditions s (length d)) k e).1

  pub second_kept_after : (let w = flatten (survivors (part s)) in drop (length w) (survivors_buffer s d) ≡ drop (length w) d)
  unfolding survivors_buffer
  second_kept_after = go (survivors_outcome s (length d))
    where
      go : (o : Outcome) → (let w = flatten (survivors (part s)) in drop (length w) (survivors_buffer_by o s d) ≡ drop (length w) d)
      go (Ok done) = let w = flatten (survivors (part s)) in drop-append_seam w (drop (length w) d)
      go (Err why) = refl
