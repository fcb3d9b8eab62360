-- The round trips, over the definitions: records written and read, and a journal read and written.
-- Assumes nothing.
use mathlib.Core.Path.{◌≡◌, refl, ap, sym, ◌∙◌, subst}
use mathlib.Core.Bool.{Bool, true, false, not, cond}
use mathlib.Core.List.{List, [], ◌++◌}
use Prim.Native.Nat.{ℕ, ◌+◌, ◌*◌, ◌-◌, ◌%◌, ◌<◌, ◌≤◌}
use native.Mathlib.Omega.{arith}
use borrow.Author.Tests.{le-ltb, eq-eqb}
use lib.Dec.{eqb}
use lib.ListN.{length, take, drop, length-drop, take-append-drop}
use lib.Seq.{take-append_seam, drop-drop}
use Rattle.words.specs.Buffer.{over}
use Rattle.std.specs.Prelude.{Ok, Err}
use Rattle.journal_rules.specs.Journal.{Outcome, u32_at, record_length, most_records, trailer_length, longest_journal, trailer_word, count, distance, first, last, preface, part, record_count, number_at, first_number, last_number, in_order, bad_length, bad_trailer, bad_numbers, read_conditions, read_outcome, found_by, read_of, records_of, trailer_of, journal_of, bad_records, write_conditions, write_outcome, written_by, written_of, buffer_by, buffer_of}
use Rattle.journal_rules.specs.Internal.{Whole}
use Rattle.journal_rules.specs.RoundTrip.{Finds, ReadsBack, Rewrites, WritesBack}
use Rattle.journal_rules.proofs.Laws.{journal_length, records_found}
use Rattle.journal_rules.proofs.Accept.{accepted_iff, sound, part_length, writable}
use Rattle.words.proofs.Little.{Bytewise, u32_below, u32_past, u32-drop, u32-little, bytes_drop, sixteen}

-- ---- written and read
zero_or_below : (t : Bool) (n : ℕ) → n < 4294967296 → cond t 0 n < 4294967296
zero_or_below true n h = omega arith
zero_or_below false n h = h

module _ (r : List ℕ) (bytes : Bytewise r) (w : Whole r) where
  number_below : (i : ℕ) → cond (eqb (record_count r) 0) 0 (number_at r i) < 4294967296
  number_below i = zero_or_below (eqb (record_count r) 0) (number_at r i) (u32_below r (record_length * i) bytes)

  word : (k : ℕ) → trailer_word (journal_of r) k ≡ u32_at (trailer_of r) (4 * k)
  unfolding journal_of
  word k = let l = journal_length r in u32_past r (trailer_of r) (length (journal_of r) - trailer_length) (4 * k) (omega arith)

  is_count : count (journal_of r) ≡ record_count r
  unfolding u32_at
  is_count = let few = w.few in word 0 ∙ u32-little (record_count r) [] (omega arith)

  is_distance : distance (journal_of r) ≡ length r
  unfolding u32_at
  is_distance = let few = w.few in word 1 ∙ u32-little (length r) [] (omega arith)

  is_first : first (journal_of r) ≡ first_number r
  unfolding u32_at first_number
  is_first = word 2 ∙ u32-little (first_number r) [] (number_below 0)

  is_last : last (journal_of r) ≡ last_number r
  unfolding u32_at last_number
  is_last = word 3 ∙ u32-little (last_number r) [] (number_below (record_count r - 1))

  no_preface : preface (journal_of r) ≡ 0
  no_preface = let l = journal_length r in let d = is_distance in omega arith

  is_part : part (journal_of r) ≡ r
  unfolding part journal_of
  is_part = let z = no_preface in let d = is_distance in rw (z, d) (take-append_seam r (trailer_of r))

  good_length : bad_length (journal_of r) ≡ false
  unfolding bad_length
  good_length =
      let l = journal_length r in
      let few = w.few in
      rw (le-ltb (length (journal_of r)) trailer_length (omega arith), le-ltb longest_journal (length (journal_of r)) (omega arith))

  good_trailer : bad_trailer (journal_of r) ≡ false
  unfolding bad_trailer
  good_trailer =
      let whole = w.whole in
      let l = journal_length r in
      let back : length r ≡ record_length * record_count r = omega arith in
      let inside = le-ltb (length (journal_of r)) (length r + trailer_length) (omega arith) in
      rw (is_count, le-ltb most_records (record_count r) w.few, no_preface, is_distance, eq-eqb _ _ back, inside)

  good_numbers : bad_numbers (first (journal_of r)) (last (journal_of r)) (part (journal_of r)) ≡ false
  unfolding bad_numbers
  good_numbers = simp (is_part, eq-eqb _ _ is_first, eq-eqb _ _ is_last)

  -- the journal that a write makes is accepted, and its records are those that were written
  module _ (order : in_order r ≡ true) where
    written_accepted : read_outcome (journal_of r) ≡ Ok tt
    unfolding read_outcome read_conditions
    written_accepted = (accepted_iff (read_conditions (journal_of r))).1 (good_length, (good_trailer, (good_numbers, (simp (is_part, order), tt))))

    written_found : Finds (journal_of r) r
    unfolding read_of records_of
    written_found = record {
      found = simp (written_accepted, is_count, is_first, is_last);
      records = simp (written_accepted, is_part);
    }

-- what lies over the start of a buffer can be taken from it again
taken : (p d : List ℕ) (n : ℕ) → n ≡ length p → take n (over p d) ≡ p
taken p d n e = rw e (take-append_seam p (drop (length p) d))

reads_back_by : (r d : List ℕ) → Bytewise r → (o : Outcome) → write_outcome r (length d) ≡ o → ReadsBack (written_by o r) r (buffer_by o r d)
reads_back_by r d b (Ok done) e =
    let w = writable r (length d) e in
    let same = taken (journal_of r) d (length r + trailer_length) (sym (journal_length r)) in
    subst (λ (s : List ℕ). Finds s r) (sym same) (written_found r b w.records w.order)
reads_back_by r d b (Err why) e = tt

pub reads_back : (r d : List ℕ) → Bytewise r → ReadsBack (written_of r (length d)) r (buffer_of r d)
unfolding written_of buffer_of
reads_back r d b = reads_back_by r d b (write_outcome r (length d)) refl

-- ---- read and written
module _ (s : List ℕ) (bytes : Bytewise s) (ok : read_outcome s ≡ Ok tt) where
  split : drop (preface s) s ≡ part s ++ drop (length s - trailer_length) s
  unfolding part
  split =
      let i = (sound s ok).shape.inside in
      let n : preface s + distance s ≡ length s - trailer_length = omega arith in
      sym (take-append-drop (distance s) (drop (preface s) s))
      ∙ ap (λ (l : List ℕ). part s ++ l) (drop-drop (distance s) (preface s) s ∙ ap (λ (k : ℕ). drop k s) n)

  tail_is : drop (length s - trailer_length) s ≡ trailer_of (part s)
  tail_is =
      let y = sound s ok in
      let low = y.shape.low in
      let back = y.shape.back in
      let l = part_length s y.shape in
      let t = drop (length s - trailer_length) s in
      let w : (k : ℕ) → u32_at t (4 * k) ≡ trailer_word s k = λ k. u32-drop (length s - trailer_length) (4 * k) s in
      let w0 : u32_at t 0 ≡ record_count (part s) = w 0 ∙ omega arith in
      let w1 : u32_at t 4 ≡ length (part s) = w 1 ∙ sym l in
      let w2 : u32_at t 8 ≡ first_number (part s) = w 2 ∙ y.first_n in
      let w3 : u32_at t 12 ≡ last_number (part s) = w 3 ∙ y.last_n in
      let z : length t ≡ trailer_length = simp length-drop (omega arith) in
      sixteen t z (bytes_drop (length s - trailer_length) s bytes) ∙ rw (w0, w1, w2, w3)

  -- the records of an accepted journal, written again, are the journal from its first record on: the preface alone is lost
  rewritten : journal_of (part s) ≡ drop (preface s) s
  unfolding journal_of
  rewritten = sym (split ∙ ap (λ (l : List ℕ). part s ++ l) tail_is)

  -- and the write is refused only for room
  rewritable : (room : ℕ) → distance s + trailer_length ≤ room → write_outcome (part s) room ≡ Ok tt
  unfolding write_outcome write_conditions bad_records
  rewritable room h =
      let y = sound s ok in
      let back = y.shape.back in
      let most = y.shape.most in
      let l = part_length s y.shape in
      let whole : length (part s) % record_length ≡ 0 = omega arith in
      let records : bad_records (part s) ≡ false = rw (eq-eqb (length (part s) % record_length) 0 whole, le-ltb most_records (record_count (part s)) (omega arith)) in
      (accepted_iff (write_conditions (part s) room)).1 (records, (ap not y.order, (le-ltb room (length (part s) + trailer_length) (omega arith), tt)))

  rewrites : (d : List ℕ) → distance s + trailer_length ≤ length d → Rewrites s d
  unfolding written_of buffer_of
  rewrites d h =
      let accept = rewritable (length d) h in
      let l = part_length s (sound s ok).shape in
      let n : distance s + trailer_length ≡ length (journal_of (part s)) = let j = journal_length (part s) in omega arith in
      record {
        accepted = rw (records_found s ok, accept) (ap (λ (k : ℕ). Ok (k + trailer_length)) l);
        same = rw (records_found s ok, accept) (taken (journal_of (part s)) d (distance s + trailer_length) n ∙ rewritten);
      }

writes_back_by : (s : List ℕ) → Bytewise s → (o : Outcome) → read_outcome s ≡ o → WritesBack (found_by o s) s
writes_back_by s b (Ok done) e = rewrites s b e
writes_back_by s b (Err why) e = tt

pub writes_back : (s : List ℕ) → Bytewise s → WritesBack (read_of s) s
unfolding read_of
writes_back s b = writes_back_by s b (read_outcome s) refl
