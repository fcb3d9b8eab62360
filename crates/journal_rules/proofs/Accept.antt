-- What a journal that a read or the second call (N7) accepts, and records that a write accepts, have passed.
-- Assumes nothing.
use mathlib.Core.Path.{◌≡◌, refl, ap, sym, ◌∙◌}
use mathlib.Core.Bool.{Bool, true, false, not, cond}
use mathlib.Core.List.{List, [], ◌∷◌, ◌++◌, flatten}
use Prim.Native.Nat.{ℕ, ◌+◌, ◌*◌, ◌%◌, ◌≤◌}
use native.Mathlib.Omega.{arith}
use borrow.Author.Tests.{ltb-false, le-ltb, eqb-true, not-false}
use lib.Dec.{ltb, eqb}
use lib.ListN.{length, length-take, length-drop}
use Rattle.tracker.proofs.Promise.{both_false}
pub use Rattle.tracker.proofs.Promise.{accepted_iff}
use Rattle.std.specs.Prelude.{Result, Ok, Err}
use Rattle.journal_rules.specs.declared.Contents.{Contents}
use Rattle.journal_rules.specs.Journal.{Refusal, NoRoom, Outcome, Condition, ◌when◌, judged, each, record_length, longest_preface, most_records, trailer_length, longest_journal, count, distance, first, last, preface, part, record_count, first_number, last_number, in_order, bad_length, bad_trailer, bad_numbers, read_conditions, read_outcome, found_by, read_of, records_by, records_of, bad_records, write_conditions, write_outcome}
use Rattle.journal_rules.specs.Survivors.{survivors, survivors_conditions, survivors_outcome}
use Rattle.journal_rules.specs.Internal.{Shaped, last_records, counted_records, Whole}
use Rattle.journal_rules.proofs.Laws.{records_found}

-- a test for another number that is not met
same : (a b : ℕ) → not (eqb a b) ≡ false → a ≡ b
same a b e = eqb-true a b (not-false (eqb a b) e)

-- ---- a journal
pub long_enough : (s : List ℕ) → bad_length s ≡ false → trailer_length ≤ length s
unfolding bad_length
long_enough s e = ltb-false (length s) trailer_length (both_false (ltb (length s) trailer_length) (ltb longest_journal (length s)) e).0

pub shaped : (s : List ℕ) → bad_length s ≡ false → bad_trailer s ≡ false → Shaped s
unfolding bad_trailer
shaped s l t =
    let few = both_false (ltb most_records (count s)) _ t in
    let back = both_false (not (eqb (distance s) (record_length * count s))) _ few.1 in
    let inside = both_false (ltb (length s) (distance s + trailer_length)) (ltb longest_preface (preface s)) back.1 in
    record {
      low = long_enough s l;
      most = ltb-false most_records (count s) few.0;
      back = same (distance s) (record_length * count s) back.0;
      inside = ltb-false (length s) (distance s + trailer_length) inside.0;
    }

-- the part is whole records
pub part_length : (s : List ℕ) → Shaped s → length (part s) ≡ distance s
unfolding part
part_length s h = let i = h.inside in simp (length-take, length-drop) (omega arith)

pub record Sound (s : List ℕ) : Type 0 where
  pub shape : Shaped s
  pub first_n : first s ≡ first_number (part s)
  pub last_n : last s ≡ last_number (part s)
  pub order : in_order (part s) ≡ true

pub sound : (s : List ℕ) → read_outcome s ≡ Ok tt → Sound s
unfolding read_outcome read_conditions bad_numbers
sound s e =
    let none = (accepted_iff (read_conditions s)).0 e in
    let numbers = both_false (not (eqb (first s) (first_number (part s)))) (not (eqb (last s) (last_number (part s)))) none.1.1.0 in
    record {
      shape = shaped s none.0 none.1.0;
      first_n = same (first s) (first_number (part s)) numbers.0;
      last_n = same (last s) (last_number (part s)) numbers.1;
      order = not-false (in_order (part s)) none.1.1.1.0;
    }

-- what a read gave tells its outcome
abbrev pub outcome_of : Result Contents Refusal → Outcome
outcome_of (Ok held) = Ok tt
outcome_of (Err why) = Err why

pub read_as : (s : List ℕ) → read_outcome s ≡ outcome_of (read_of s)
unfolding read_of
read_as s = go (read_outcome s)
  where
    go : (o : Outcome) → o ≡ outcome_of (found_by o s)
    go (Ok done) = refl
    go (Err why) = refl

-- the records that a read finds are whole ones, at most 288, and none on a refusal: what a caller relies on that goes through them
pub records_whole : (s : List ℕ) → Whole (records_of s)
unfolding records_of
records_whole s = go (read_outcome s) refl
  where
    go : (o : Outcome) → read_outcome s ≡ o → Whole (records_of s)
    go (Ok done) e =
        let h = (sound s e).shape in
        let l = part_length s h in
        let back = h.back in
        let most = h.most in
        rw (records_found s e) (record { whole = omega arith; few = omega arith })
    go (Err why) e = rw e (record { whole = refl; few = omega arith })

-- and they are in order
pub records_ordered : (s : List ℕ) → in_order (records_of s) ≡ true
unfolding records_of in_order each
records_ordered s = go (read_outcome s) refl
  where
    go : (o : Outcome) → read_outcome s ≡ o → in_order (records_by o s) ≡ true
    go (Ok done) e = (sound s e).order
    go (Err why) e = refl

-- the records by their count are that part
pub counted_part : (s : List ℕ) → bad_length s ≡ false → bad_trailer s ≡ false → last_records (count s) s ≡ part s
unfolding part
counted_part s l t =
    let h = shaped s l t in
    let inside = h.inside in
    rw (sym h.back, le-ltb (length s) (distance s + trailer_length) inside)

-- and so the records by what a read gave are the journal's
pub counted_records_lem : (s : List ℕ) → counted_records (read_of s) s ≡ records_of s
unfolding read_of records_of read_outcome read_conditions
counted_records_lem s = go (read_outcome s) refl
  where
    go : (o : Outcome) → read_outcome s ≡ o → counted_records (found_by o s) s ≡ records_by o s
    go (Ok done) e = let none = (accepted_iff (read_conditions s)).0 e in counted_part s none.0 none.1.0
    go (Err why) e = refl

-- ---- records
pub record Writable (r : List ℕ) (room : ℕ) : Type 0 where
  pub records : Whole r
  pub order : in_order r ≡ true
  pub fits : length r + trailer_length ≤ room

pub writable : (r : List ℕ) (room : ℕ) → write_outcome r room ≡ Ok tt → Writable r room
unfolding write_outcome write_conditions bad_records
writable r room e =
    let none = (accepted_iff (write_conditions r room)).0 e in
    let records = both_false (not (eqb (length r % record_length) 0)) (ltb most_records (record_count r)) none.0 in
    record {
      records = record { whole = same (length r % record_length) 0 records.0; few = ltb-false most_records (record_count r) records.1 };
      order = not-false (in_order r) none.1.0;
      fits = ltb-false room (length r + trailer_length) none.1.1.0;
    }

-- ---- the second call (N7)
-- conditions after others: they count once none of the others is met
pub none_before : (others cs : List Condition) → judged others ≡ Ok tt → judged (others ++ cs) ≡ judged cs
none_before [] cs e = refl
none_before (c ∷ others) cs e = go c.met (none_before others cs) e
  where
    go : (t : Bool) → (judged others ≡ Ok tt → judged (others ++ cs) ≡ judged cs) → cond t (Err c.refusal) (judged others) ≡ Ok tt → cond t (Err c.refusal) (judged (others ++ cs)) ≡ judged cs
    go true h e = cc
    go false h e = h e

pub one_before : (others cs : List Condition) {why : Refusal} → judged others ≡ Err why → judged (others ++ cs) ≡ Err why
one_before [] cs e = cc
one_before (c ∷ others) cs {why} e = go c.met (one_before others cs) e
  where
    go : (t : Bool) → (judged others ≡ Err why → judged (others ++ cs) ≡ Err why) → cond t (Err c.refusal) (judged others) ≡ Err why → cond t (Err c.refusal) (judged (others ++ cs)) ≡ Err why
    go true h e = e
    go false h e = h e

pub record Given (s : List ℕ) (room : ℕ) : Type 0 where
  pub read : read_outcome s ≡ Ok tt
  pub fits : length (flatten (survivors (part s))) ≤ room

pub given : (s : List ℕ) (room : ℕ) → survivors_outcome s room ≡ Ok tt → Given s room
unfolding survivors_outcome survivors_conditions read_outcome read_conditions
given s room e =
    let none = (accepted_iff (survivors_conditions s room)).0 e in
    record {
      read = (accepted_iff (read_conditions s)).1 (none.0, (none.1.0, (none.1.1.0, (none.1.1.1.0, tt))));
      fits = ltb-false room (length (flatten (survivors (part s)))) none.1.1.1.1.0;
    }

-- by what a read gave: its refusal, or whether there is room
module _ (s : List ℕ) (room : ℕ) where
  pub refused_before : {why : Refusal} → Err why ≡ read_of s → survivors_outcome s room ≡ Err why
  unfolding survivors_outcome survivors_conditions read_outcome
  refused_before e = one_before (read_conditions s) _ (read_as s ∙ ap outcome_of (sym e))

  pub by_room : read_outcome s ≡ Ok tt → survivors_outcome s room ≡ judged (NoRoom when ltb room (length (flatten (survivors (part s)))) ∷ [])
  unfolding survivors_outcome survivors_conditions read_outcome
  by_room e = none_before (read_conditions s) _ e

-- ---- for a caller of a read that gave contents
pub record Held (s : List ℕ) (held : Contents) : Type 0 where
  pub accepted : read_outcome s ≡ Ok tt
  pub passed : Sound s
  pub records : last_records held.count s ≡ part s

pub held_lem : (s : List ℕ) {held : Contents} → Ok held ≡ read_of s → Held s held
held_lem s e =
    let ok = read_as s ∙ ap outcome_of (sym e) in
    record { accepted = ok; passed = sound s ok; records = (rw (← e) at (counted_records_lem s)) ∙ records_found s ok }
