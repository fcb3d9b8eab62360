-- What the equations of the calls bring with them: the documents' numbers and values, the round trips, and what survivors are.
-- Assumes nothing.
use mathlib.Core.List.{List, [], ◌∷◌, flatten}
use mathlib.Core.Option.{Option}
use mathlib.Core.Path.{◌≡◌, refl, ◌∙◌}
use Prim.Native.Nat.{ℕ, ◌+◌, ◌*◌, ◌≤◌}
use native.Mathlib.Omega.{arith}
use lib.ListN.{length, take, drop}
use lib.Seq.{take_at}
use Rattle.tracker.proofs.Promise.{number_met_lem}
use Rattle.std.specs.Prelude.{Result, Ok, Err}
use Rattle.journal_rules.specs.declared.Contents.{Contents}
use Rattle.journal_rules.specs.Journal.{Refusal, Outcome, judged, number_of, record_length, trailer_length, count, first, last, part, read_conditions, read_outcome, found_by, read_of, records_of, found_values, write_conditions, write_outcome, written_by, written_of, buffer_of, written_values}
use Rattle.journal_rules.specs.Survivors.{survivors, survivors_conditions, survivors_outcome, surviving_by, surviving_of, survivors_buffer, surviving_values}
use Rattle.journal_rules.specs.Promise.{unless_refused, ReadPromise, WritePromise, SurvivorsPromise}
use Rattle.words.proofs.Little.{SliceOfBytes, bytewise}
use Rattle.journal_rules.proofs.Accept.{records_ordered, given}
use Rattle.journal_rules.proofs.Laws.{records_found}
use Rattle.journal_rules.proofs.Survivors.{survivors_length_lem, highest_of_each}
use Rattle.journal_rules.proofs.RoundTrip.{writes_back, reads_back}

-- ---- of a read
module _ (s : List ℕ) where
  abbrev held : List ℕ
  held = count s ∷ first s ∷ last s ∷ []

  found_says : (o : Outcome) {n : Option ℕ} → number_of o ≡ n → (number_of (found_by o s) ≡ n) × (found_values (found_by o s) ≡ unless_refused n held)
  found_says (Ok done) e = (e, rw (← e))
  found_says (Err why) e = (e, rw (← e))

  pub read_promise : {answer : Result Contents Refusal} → SliceOfBytes s → answer ≡ read_of s → ReadPromise s answer
  unfolding read_of read_outcome
  read_promise b e =
      let says = found_says (judged (read_conditions s)) (number_met_lem (read_conditions s)) in
      rw e (record {
        is = refl;
        number = says.0;
        values = says.1;
        writes_back = writes_back s (bytewise s b);
      })

-- ---- of a write
module _ (r d : List ℕ) where
  written_says : (o : Outcome) {n : Option ℕ}
      → number_of o ≡ n
      → (number_of (written_by o r) ≡ n) × (written_values (written_by o r) ≡ unless_refused n ((length r + trailer_length) ∷ []))
  written_says (Ok done) e = (e, rw (← e))
  written_says (Err why) e = (e, rw (← e))

  pub write_promise : {answer : Result ℕ Refusal} {left : List ℕ} → SliceOfBytes r → answer ≡ written_of r (length d) → left ≡ buffer_of r d → WritePromise r d answer left
  unfolding written_of buffer_of write_outcome
  write_promise b e buffer =
      let says = written_says (judged (write_conditions r (length d))) (number_met_lem (write_conditions r (length d))) in
      rw (e, buffer) (record {
        is = refl;
        buffer = refl;
        number = says.0;
        values = says.1;
        reads_back = reads_back r d (bytewise r b);
      })

-- ---- of the second call (N7)
module _ (s d : List ℕ) where
  surviving_says : (o : Outcome) {n : Option ℕ}
      → number_of o ≡ n
      → (number_of (surviving_by o s) ≡ n) × (surviving_values (surviving_by o s) ≡ unless_refused n (length (survivors (part s)) ∷ []))
  surviving_says (Ok done) e = (e, rw (← e))
  surviving_says (Err why) e = (e, rw (← e))

  pub survivors_promise : {answer : Result ℕ Refusal} {left : List ℕ} → answer ≡ surviving_of s (length d) → left ≡ survivors_buffer s d → SurvivorsPromise s d answer left
  unfolding surviving_of survivors_buffer survivors_outcome
  survivors_promise e buffer =
      let says = surviving_says (judged (survivors_conditions s (length d))) (number_met_lem (survivors_conditions s (length d))) in
      rw (e, buffer) (record {
        is = refl;
        buffer = refl;
        number = says.0;
        values = says.1;
        highest = highest_of_each (records_of s) (records_ordered s);
      })

-- What a caller has of the buffer where the second call gives a count: so many records are the survivors of the journal's, and they lie in the
-- buffer, at its start.
module _ (s d : List ℕ) {n : ℕ} {left : List ℕ} (p : SurvivorsPromise s d (Ok n) left) where
  accepted : survivors_outcome s (length d) ≡ Ok tt
  unfolding surviving_of
  accepted = go (survivors_outcome s (length d)) p.is
    where
      go : (o : Outcome) → Ok n ≡ surviving_by o s → o ≡ Ok tt
      go (Ok done) e = refl
      go (Err why) e = cc

  pub survivors_counted : n ≡ length (survivors (records_of s))
  unfolding surviving_of
  survivors_counted =
      let e : Ok n ≡ Ok (length (survivors (part s))) = p.is ∙ rw accepted in
      let same : n ≡ length (survivors (part s)) = cc in
      rw (records_found s (given s (length d) accepted).read) same

  pub survivors_inside : record_length * n ≤ length d
  survivors_inside =
      let g = given s (length d) accepted in
      let counted = rw (records_found s g.read) at survivors_counted in
      omega (arith, g.fits, survivors_length_lem (part s))

  pub survivors_there : take (record_length * n) left ≡ flatten (survivors (records_of s))
  unfolding survivors_buffer
  survivors_there =
      let found = records_found s (given s (length d) accepted).read in
      let w = flatten (survivors (part s)) in
      let size : length w ≡ record_length * n = omega (arith, survivors_length_lem (part s), rw found at survivors_counted) in
      rw (found, p.buffer, accepted) (take_at w (drop (length w) d) (record_length * n) size)
