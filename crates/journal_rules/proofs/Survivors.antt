-- The survivors (N7), record by record: how long they are, where each comes from, and that for each n they are the record of highest issue, in
-- order of n.
-- Assumes nothing.
use mathlib.Core.Path.{◌≡◌, refl, ap, sym, ◌∙◌}
use mathlib.Core.Bool.{Bool, true, false, not, cond}
use mathlib.Core.List.{List, [], ◌∷◌, ◌++◌, flatten}
use Prim.Native.Nat.{ℕ, zero, suc, ◌+◌, ◌*◌, ◌-◌, ◌<◌, ◌≤◌}
use native.Mathlib.Nat.{add-zero}
use native.Mathlib.Numerals.{add-one}
use native.Mathlib.Omega.{arith}
use borrow.Author.Tests.{ltb-true, ltb-false, eq-eqb, ne_eqb, not-true}
use lib.Dec.{eqb, ltb}
use lib.ListN.{length, drop, get_or, length-append, length-drop}
use lib.Seq.{get_or-take, get_or-drop, ext_get_or, length-take-le}
use Rattle.tracker.specs.Promise.{byte_at, record_number, issue}
use Rattle.tracker.proofs.Promise.{each_at}
use Rattle.journal_rules.specs.Journal.{u32_at, record_length, record_count, number_at, issue_at, first_number, in_order}
use Rattle.journal_rules.specs.Survivors.{record_at, supersedes, survives, survivors_from, survivors, HighestOfEach}
use Rattle.journal_rules.proofs.Order.{one_place, no_lower, next_number_lem, same_number}

-- ---- a record taken out
pub record_length_lem : (r : List ℕ) (i : ℕ) → i < record_count r → length (record_at r i) ≡ record_length
record_length_lem r i h = length-take-le record_length (drop (record_length * i) r) (simp length-drop (omega arith))

byte_of : (r : List ℕ) (i k : ℕ) → k < record_length → byte_at (record_at r i) k ≡ byte_at r (record_length * i + k)
byte_of r i k h = get_or-take record_length (drop (record_length * i) r) k 0 h ∙ get_or-drop (record_length * i) r k 0

pub number_of : (r : List ℕ) (i : ℕ) → record_number (record_at r i) ≡ number_at r i
unfolding u32_at
number_of r i =
    let first : byte_at (record_at r i) 0 ≡ byte_at r (record_length * i) = byte_of r i 0 (omega arith) ∙ ap (byte_at r) (add-zero (record_length * i)) in
    rw (first, byte_of r i 1 (omega arith), byte_of r i 2 (omega arith), byte_of r i 3 (omega arith))

pub issue_of : (r : List ℕ) (i : ℕ) → issue (record_at r i) ≡ issue_at r i
issue_of r i = byte_of r i 13 (omega arith)

-- ---- the survivors from record i on
abbrev pub rest : List ℕ → ℕ → List (List ℕ)
rest r i = survivors_from r i (record_count r - i)

pub rest_all : (r : List ℕ) → survivors r ≡ rest r 0
unfolding survivors
rest_all r = let e : record_count r - 0 ≡ record_count r = omega arith in rw e

pub rest_none : (r : List ℕ) (i : ℕ) → record_count r ≤ i → rest r i ≡ []
unfolding survivors_from
rest_none r i h = let e : record_count r - i ≡ 0 = omega arith in rw e

module _ (r : List ℕ) (i : ℕ) (h : i < record_count r) where
  one_on : {t : Bool} → survives r i ≡ t → rest r i ≡ cond t (record_at r i ∷ []) [] ++ rest r (i + 1)
  unfolding survivors_from
  one_on s =
      let e : record_count r - i ≡ suc (record_count r - (i + 1)) = omega arith in
      rw (e, s, add-one i)

  pub kept : survives r i ≡ true → rest r i ≡ record_at r i ∷ rest r (i + 1)
  kept = one_on

  pub passed_over : survives r i ≡ false → rest r i ≡ rest r (i + 1)
  passed_over = one_on

-- What holds where no record is left, and goes on to a record, whether it survives or not, from what is after it, holds of all survivors.
module _ (r : List ℕ) (P : ℕ → List (List ℕ) → Type 0) (none : P (record_count r) [])
    (one : (i : ℕ) → i < record_count r → survives r i ≡ true → P (i + 1) (rest r (i + 1)) → P i (record_at r i ∷ rest r (i + 1)))
    (gone : (i : ℕ) → i < record_count r → survives r i ≡ false → P (i + 1) (rest r (i + 1)) → P i (rest r (i + 1))) where
  from : (left i : ℕ) → i + left ≡ record_count r → P i (rest r i)
  from zero i h = let e : i ≡ record_count r = omega arith in rw (e, rest_none r (record_count r) (omega arith)) none
  from (suc left) i h = go (from left (i + 1) (omega arith)) (survives r i) refl
    where
      go : P (i + 1) (rest r (i + 1)) → (t : Bool) → survives r i ≡ t → P i (rest r i)
      go p true s = rw (kept r i (omega arith) s) (one i (omega arith) s p)
      go p false s = rw (passed_over r i (omega arith) s) (gone i (omega arith) s p)

  over_survivors : P 0 (survivors r)
  over_survivors = rw (rest_all r) (from (record_count r) 0 (omega arith))

-- each has the length of a record, and there are no more than records
pub survivors_length_lem : (r : List ℕ) → length (flatten (survivors r)) ≡ record_length * length (survivors r)
unfolding flatten
survivors_length_lem r =
    over_survivors r (λ i w. length (flatten w) ≡ record_length * length w) refl
    (λ i h s p. omega (arith, length-append (record_at r i) (flatten (rest r (i + 1))), record_length_lem r i h))
    (λ i h s p. p)

pub no_more : (r : List ℕ) → length (survivors r) ≤ record_count r
no_more r = omega (arith, over_survivors r (λ i w. i + length w ≤ record_count r) (omega arith) (λ i h s p. omega arith) (λ i h s p. omega arith))

-- ---- where a survivor comes from
record Survivor (r b : List ℕ) : Type 0 where
  place : ℕ
  inside : place < record_count r
  lives : survives r place ≡ true
  is : record_at r place ≡ b

comes : (r : List ℕ) (k : ℕ) → k < length (survivors r) → Survivor r (get_or (survivors r) k [])
comes r =
    over_survivors r (λ i w. (k : ℕ) → k < length w → Survivor r (get_or w k []))
    (λ k l. absurd (omega arith))
    (λ i h s p. first i h s (rest r (i + 1)) p)
    (λ i h s p. p)
  where
    first : (i : ℕ)
        → i < record_count r
        → survives r i ≡ true
        → (w : List (List ℕ))
        → ((k : ℕ) → k < length w → Survivor r (get_or w k []))
        → (k : ℕ) → k < length (record_at r i ∷ w) → Survivor r (get_or (record_at r i ∷ w) k [])
    first i h s w p zero l = record { place = i; inside = h; lives = s; is = refl }
    first i h s w p (suc k) l = p k (omega arith)

-- no record of its n has a higher issue
highest_issue : (r : List ℕ) (place : ℕ)
    → survives r place ≡ true
    → (i : ℕ) → i < record_count r → number_at r i ≡ number_at r place → issue_at r i ≤ issue_at r place
unfolding survives
highest_issue r place lives i l q =
    let not-superseded = not-true (supersedes r i place) (each_at (λ j. not (supersedes r j place)) (record_count r) lives i l) in
    ltb-false (issue_at r place) (issue_at r i) (rw (eq-eqb (number_at r i) (number_at r place) q) at not-superseded)

-- ---- in order of n
-- one number after the other
one_after_the_other : (b : List ℕ) (w : List (List ℕ)) (n : ℕ)
    → record_number b ≡ n
    → ((k : ℕ) → k < length w → record_number (get_or w k []) ≡ n + 1 + k)
    → (k : ℕ) → k < length (b ∷ w) → record_number (get_or (b ∷ w) k []) ≡ n + k
one_after_the_other b w n e p zero l = e ∙ sym (add-zero n)
one_after_the_other b w n e p (suc k) l = p k (omega arith) ∙ omega arith

module _ (r : List ℕ) (order : in_order r ≡ true) where
  -- From record i on: survivor k has k more than its n, and they go on to the last n.
  record InTurn (i : ℕ) (w : List (List ℕ)) : Type 0 where
    number : (k : ℕ) → k < length w → record_number (get_or w k []) ≡ number_at r i + k
    count : i < record_count r → number_at r i + length w ≡ number_at r (record_count r - 1) + 1

  one_turn : (i : ℕ) → i < record_count r → survives r i ≡ true → InTurn (i + 1) (rest r (i + 1)) → InTurn i (record_at r i ∷ rest r (i + 1))
  one_turn i h s p = go (ltb (i + 1) (record_count r)) refl
    where
      go : (more : Bool) → ltb (i + 1) (record_count r) ≡ more → InTurn i (record_at r i ∷ rest r (i + 1))
      go true e =
          let k = ltb-true (i + 1) (record_count r) e in
          let up = next_number_lem r order i h s k in
          record {
            number = one_after_the_other (record_at r i) (rest r (i + 1)) (number_at r i) (number_of r i) (rw up at p.number);
            count = λ l. omega (arith, p.count k);
          }
      go false e =
          let last = ltb-false (i + 1) (record_count r) e in
          let at-end : record_count r - 1 ≡ i = omega arith in
          rw (rest_none r (i + 1) last) (record {
            number = one_after_the_other (record_at r i) [] (number_at r i) (number_of r i) (λ k l. absurd (omega arith));
            count = λ l. rw at-end;
          })

  in_turn : InTurn 0 (survivors r)
  in_turn =
      over_survivors r InTurn
      (record { number = λ k l. absurd (omega arith); count = λ l. absurd (omega arith) })
      one_turn
      (λ i h s p.
      let again = same_number r order i h s in
      record { number = λ k l. p.number k l ∙ rw again.1; count = λ l. rw (← again.1) (p.count again.0) })

  first_is : 0 < record_count r → first_number r ≡ number_at r 0
  unfolding first_number
  first_is h = let z : eqb (record_count r) 0 ≡ false = ne_eqb (record_count r) 0 (λ e. omega arith) in rw z

  -- where there are records there are survivors
  pub some_survive : 0 < record_count r → 0 < length (survivors r)
  some_survive h = omega (arith, in_turn.count h, no_lower r order 0 (record_count r - 1) (omega arith) (omega arith))

  -- For each n the record of highest issue, in order of n.
  pub highest_of_each : HighestOfEach r (survivors r)
  highest_of_each = record {
    each_number = λ i l.
        let low = no_lower r order 0 i (omega arith) l in
        let high = no_lower r order i (record_count r - 1) (omega arith) (omega arith) in
        let inside : number_at r i - number_at r 0 < length (survivors r) = omega (arith, in_turn.count (omega arith)) in
        record { place = number_at r i - number_at r 0; inside = inside; is = in_turn.number (number_at r i - number_at r 0) inside ∙ omega arith };
    among = λ k l. let c = comes r k l in record { place = c.place; inside = c.inside; is = c.is };
    highest = λ k l i h q.
        let c = comes r k l in
        let number = ap record_number (sym c.is) ∙ number_of r c.place in
        omega (arith, highest_issue r c.place c.lives i h (q ∙ number), ap issue (sym c.is) ∙ issue_of r c.place);
    in_turn = λ k l. in_turn.number k l ∙ ap (λ (n : ℕ). n + k) (sym (first_is (omega (arith, no_more r))));
  }

-- ---- and nothing else is
all_below : (m n : ℕ) → ((k : ℕ) → k < m → k < n) → m ≤ n
all_below zero n h = omega arith
all_below (suc m) n h = let l = h m (omega arith) in omega arith

module _ (r : List ℕ) (order : in_order r ≡ true) where
  -- what one of two such lists has, the other has
  no_longer : {v w : List (List ℕ)} → HighestOfEach r v → HighestOfEach r w → (k : ℕ) → k < length v → k < length w
  no_longer {v} {w} a b k l =
      let m = a.among k l in
      let n = b.each_number m.place m.inside in
      let same : first_number r + k ≡ first_number r + n.place =
      sym (a.in_turn k l) ∙ ap record_number (sym m.is) ∙ number_of r m.place ∙ sym n.is ∙ b.in_turn n.place n.inside in
      omega (arith, n.inside)

  same_record : {v w : List (List ℕ)} → HighestOfEach r v → HighestOfEach r w → (k : ℕ) → k < length v → get_or v k [] ≡ get_or w k []
  same_record {v} {w} a b k l =
      let h = no_longer a b k l in
      let p = a.among k l in
      let q = b.among k h in
      let n : number_at r p.place ≡ record_number (get_or v k []) = sym (number_of r p.place) ∙ ap record_number p.is in
      let m : number_at r q.place ≡ record_number (get_or w k []) = sym (number_of r q.place) ∙ ap record_number q.is in
      let same : record_number (get_or v k []) ≡ record_number (get_or w k []) = a.in_turn k l ∙ sym (b.in_turn k h) in
      let x : issue_at r p.place ≡ issue (get_or v k []) = sym (issue_of r p.place) ∙ ap issue p.is in
      let y : issue_at r q.place ≡ issue (get_or w k []) = sym (issue_of r q.place) ∙ ap issue q.is in
      let up = a.highest k l q.place q.inside (m ∙ sym same) in
      let down = b.highest k h p.place p.inside (n ∙ same) in
      let place = one_place r order p.place q.place p.inside q.inside (n ∙ same ∙ sym m) (omega arith) in
      sym p.is ∙ ap (record_at r) place ∙ q.is

  pub only_survivors : (w : List (List ℕ)) → HighestOfEach r w → w ≡ survivors r
  only_survivors w a =
      let b = highest_of_each r order in
      let short = all_below (length w) (length (survivors r)) (no_longer a b) in
      let long = all_below (length (survivors r)) (length w) (no_longer b a) in
      ext_get_or [] w (survivors r) (omega arith) (same_record a b)
