-- A set of intervals (N10) ends as its single calls in their turn say.
-- Assumes nothing.
use mathlib.Core.Option.{some, some_inj}
use mathlib.Core.Path.{◌≡◌, refl, sym, ap, ◌∙◌}
use mathlib.Core.Bool.{true, false, not, false≢true}
use mathlib.Core.List.{List, [], ◌∷◌, foldl}
use Prim.Native.Nat.{ℕ, zero, suc, ◌+◌, ◌*◌, ◌%◌, ◌≤◌, ◌<◌}
use native.Mathlib.Omega.{arith}
use borrow.Author.Tests.{eqb-true, eq-eqb, ltb-false, le-ltb, not-false}
use lib.Dec.{eqb, ltb}
use lib.ListN.{length, take, drop, drop_of_length-le}
use lib.Seq.{drop-cons}
use Rattle.std.specs.Prelude.{Ok, Err}
use Rattle.rules.specs.declared.Refusal.{Refusal}
use Rattle.rules.specs.declared.Refusal.TheVariants.{BadRecords}
use Rattle.rules.specs.declared.Tracker.{Tracker}
use Rattle.rules.specs.Record.{record_number, record_length, record_count, records_in}
use Rattle.rules.specs.Refusal.{Outcome, number_of, is_accepted, judged, most_records, bad_records, interval_outcome}
use Rattle.rules.specs.Tracker.{accepts, advanced, interval_of, after}
use Rattle.rules.specs.Sets.{SetOutcome, number_and_index, else_rest, outcome_in_turn, set_conditions, set_outcome, accepts_set, set_of, single_outcome, AcceptedInTurn, BySingleCalls}
use Rattle.rules.proofs.Accepted.{is_accepted_lem}
use Rattle.rules.proofs.EachBelow.{both_false}
use Rattle.rules.proofs.EndToEnd.{how_many}

-- What is accepted at first and then, is accepted.
pub both_accepted : (o : Outcome) (index : ℕ) (rest : SetOutcome) → is_accepted (else_rest o index rest) ≡ true → (is_accepted o ≡ true) × (is_accepted rest ≡ true)
both_accepted (Ok done) index rest e = (refl, e)
both_accepted (Err why) index rest e = absurd (false≢true e)

-- After an accepted record the tracker is advanced, and the next n is awaited.
pub after_taken : (t : Tracker) (b : List ℕ) → accepts t.awaited b ≡ true → after t b ≡ advanced t b
unfolding interval_of
after_taken t b e = rw e refl

pub awaits_next : (t : Tracker) (b : List ℕ) → accepts t.awaited b ≡ true → (after t b).awaited ≡ suc (record_number b)
unfolding advanced
awaits_next t b e = rw (after_taken t b e) refl

goes_on : (t : Tracker) (b : List ℕ) → (interval_of t b).outcome ≡ Ok tt → accepts t.awaited b ≡ true
unfolding interval_of
goes_on t b e = ap is_accepted e

-- ---- records in their turn
-- The first of them accepted, it is left to the others.
first_accepted : (index : ℕ) (t : Tracker) (b : List ℕ) (bs : List (List ℕ)) → (interval_of t b).outcome ≡ Ok tt → outcome_in_turn t.awaited index (b ∷ bs) ≡ outcome_in_turn (after t b).awaited (suc index) bs
unfolding interval_of outcome_in_turn
first_accepted index t b bs e = rw (awaits_next t b (goes_on t b e), e)

-- The first k of them accepted in their turn, it is left to the others, from index k on.
left_to : (k : ℕ) (t : Tracker) (index : ℕ) (bs : List (List ℕ)) → k ≤ length bs → AcceptedInTurn t bs k
    → outcome_in_turn t.awaited index bs ≡ outcome_in_turn (foldl after t (take k bs)).awaited (index + k) (drop k bs)
left_to zero t index bs l all = let e : index + 0 ≡ index = omega arith in rw e
left_to (suc k) t index [] l all = absurd (omega arith)
left_to (suc k) t index (b ∷ bs) l all =
    let e : suc index + k ≡ index + suc k = omega arith in
    first_accepted index t b bs (all 0 (omega arith)) ∙ rw (← e) (left_to k (after t b) (suc index) bs (omega arith) (λ i h. all (suc i) (omega arith)))

-- All of them accepted, each is so in its turn.
each_in_turn : (t : Tracker) (index : ℕ) (bs : List (List ℕ)) → is_accepted (outcome_in_turn t.awaited index bs) ≡ true → AcceptedInTurn t bs (length bs)
unfolding outcome_in_turn interval_of
each_in_turn t index [] e i h = absurd (omega arith)
each_in_turn t index (b ∷ bs) e zero h = is_accepted_lem (interval_outcome t.awaited b) (both_accepted (interval_outcome t.awaited b) index _ e).0
each_in_turn t index (b ∷ bs) e (suc i) h =
    let both = both_accepted (interval_outcome t.awaited b) index _ e in
    each_in_turn (after t b) (suc index) bs (rw (awaits_next t b both.0) both.1) i (omega arith)

-- The records of an accepted set are accepted in their turn.
pub records_accepted : (awaited : ℕ) (s : List ℕ) → accepts_set awaited s ≡ true → is_accepted (outcome_in_turn awaited 0 (records_in s)) ≡ true
unfolding set_outcome
records_accepted awaited s e = (both_accepted (judged (set_conditions s)) 0 (outcome_in_turn awaited 0 (records_in s)) e).1

-- ---- a set's length, as a journal's records have it
module _ (s : List ℕ) where
  -- 0 to 288 whole records are taken,
  pub whole_records : (k : ℕ) → k ≤ 288 → length s ≡ 168 * k → bad_records s ≡ false
  unfolding bad_records
  whole_records k few l = rw (eq-eqb (length s % record_length) 0 (omega (arith, l)), le-ltb most_records (record_count s) (omega (arith, l)))

  -- and no other length.
  pub only_whole_records : bad_records s ≡ false → (record_count s ≤ 288) × (length s ≡ 168 * record_count s)
  unfolding bad_records
  only_whole_records e =
      let none = both_false (not (eqb (length s % record_length) 0)) (ltb most_records (record_count s)) e in
      (ltb-false most_records (record_count s) none.1, omega (arith, eqb-true (length s % record_length) 0 (not-false (eqb (length s % record_length) 0) none.0)))

-- An empty set is accepted, and leaves the tracker as it was.
pub empty_set : (t : Tracker) → set_of t [] ≡ record { outcome = Ok tt; tracker = t }
unfolding bad_records outcome_in_turn set_conditions set_outcome set_of
empty_set t = refl

-- ---- a set
module _ (t : Tracker) (s : List ℕ) where
  -- Refused for its length it has that number and index 0,
  pub refused_length : {why : Refusal} → judged (set_conditions s) ≡ Err why → set_outcome t.awaited s ≡ Err (record { why = why; index = 0 })
  unfolding set_outcome
  refused_length e = rw e refl

  module _ (whole : bad_records s ≡ false) where
    -- and else its records decide:
    by_records : set_outcome t.awaited s ≡ outcome_in_turn t.awaited 0 (records_in s)
    unfolding set_conditions set_outcome
    by_records = rw whole refl

    -- the first that is refused in its turn,
    pub refused_record : (i : ℕ) → i < record_count s → AcceptedInTurn t (records_in s) i → (why : Refusal) → single_outcome t (records_in s) i ≡ Err why → set_outcome t.awaited s ≡ Err (record { why = why; index = i })
    unfolding outcome_in_turn interval_of
    refused_record i l all why e =
        let bs = records_in s in
        let z : 0 + i ≡ i = omega arith in
        by_records ∙ left_to i t 0 bs (omega (arith, how_many s)) all ∙ rw (z, drop-cons bs i [] (omega (arith, how_many s)), e) refl

    -- or none.
    pub none_refused : AcceptedInTurn t (records_in s) (record_count s) → set_outcome t.awaited s ≡ Ok tt
    unfolding outcome_in_turn
    none_refused all =
        let bs = records_in s in
        let none : drop (record_count s) bs ≡ [] = drop_of_length-le bs (omega (arith, how_many s)) in
        by_records ∙ left_to (record_count s) t 0 bs (omega (arith, how_many s)) all ∙ rw none refl

    -- Accepted, it has none.
    all_accepted : set_outcome t.awaited s ≡ Ok tt → AcceptedInTurn t (records_in s) (record_count s)
    all_accepted e i l = each_in_turn t 0 (records_in s) (ap is_accepted (sym by_records ∙ e)) i (omega (arith, how_many s))

    -- The number that the first refused one has in its turn is the set's, with its index.
    first_refused_number : (i k : ℕ) → i < record_count s → AcceptedInTurn t (records_in s) i → number_of (single_outcome t (records_in s) i) ≡ some k → number_and_index (set_outcome t.awaited s) ≡ some (k, i)
    first_refused_number i k l all n = go (single_outcome t (records_in s) i) refl n
      where
        go : (o : Outcome) → single_outcome t (records_in s) i ≡ o → number_of o ≡ some k → number_and_index (set_outcome t.awaited s) ≡ some (k, i)
        go (Ok done) e n = cc
        go (Err why) e n = ap number_and_index (refused_record i l all why e) ∙ ap (λ (k : ℕ). some (k, i)) (some_inj.0 n)

  pub by_single_calls : BySingleCalls t s (set_of t s)
  unfolding set_conditions set_of
  by_single_calls = record {
    wrong_length = λ bad. ap number_and_index (refused_length {why = BadRecords} (rw bad refl));
    all_or_none = λ whole. (all_accepted whole, none_refused whole);
    first_refused = first_refused_number;
    in_order = λ e. rw e refl;
    as_before = λ e. rw e refl;
  }
