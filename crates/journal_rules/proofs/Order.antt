-- Records that are in order (N7): a later one has no lower n, and of the same n a higher issue. So a record survives exactly if the next one has
-- another n, or there is none.
-- Assumes nothing.
use mathlib.Core.Path.{◌≡◌, refl, ap, sym, ◌∙◌}
use mathlib.Core.Bool.{Bool, true, false, not, ◌||◌, false≢true}
use mathlib.Core.List.{List}
use Prim.Native.Nat.{ℕ, zero, suc, ◌+◌, ◌-◌, ◌<◌, ◌≤◌}
use native.Mathlib.Numerals.{add-one}
use native.Mathlib.Omega.{arith}
use borrow.Author.Tests.{ltb-true, ltb-false, eqb-true, eqb-false, lt-ltb, le-ltb, eq-eqb, ne_eqb}
use lib.Dec.{eqb, ltb}
use Rattle.tracker.proofs.Promise.{below_or_last, each_at, each_by, each_fails}
use Rattle.journal_rules.specs.Journal.{record_count, number_at, issue_at, follows, followed_at, in_order}
use Rattle.journal_rules.specs.Survivors.{supersedes, survives}

-- ---- what `follows` says
-- 0 is not the next n after the highest, under any issue.
pub highest : (x y : ℕ) → follows 4294967295 x 0 y ≡ false
highest x y = refl

or_false : (t : Bool) → (t || false) ≡ t
or_false true = refl
or_false false = refl

module _ (n x m y : ℕ) where
  -- Of the same n, a higher issue,
  pub of_same : m ≡ n → follows n x m y ≡ ltb x y
  of_same q = let z : eqb m (n + 1) ≡ false = ne_eqb m (n + 1) (λ e. omega arith) in rw (eq-eqb m n q, z) (or_false (ltb x y))

  -- or the next n and any issue.
  pub of_other : (m ≡ n → ⊥) → follows n x m y ≡ eqb m (n + 1)
  of_other q = rw (ne_eqb m n q)

-- An equal or lower issue of the same n does not follow; the next n follows under any issue.
pub issue_not_higher : (n x y : ℕ) → y ≤ x → follows n x n y ≡ false
issue_not_higher n x y h = of_same n x n y refl ∙ le-ltb x y h

pub any_issue : (n x y : ℕ) → follows n x (n + 1) y ≡ true
any_issue n x y = of_other n x (n + 1) y (λ e. omega arith) ∙ eq-eqb (n + 1) (n + 1) refl

module _ (n x m y : ℕ) (f : follows n x m y ≡ true) where
  higher : m ≡ n → x < y
  higher q = ltb-true x y (sym (of_same n x m y q) ∙ f)

  one_more : (m ≡ n → ⊥) → m ≡ n + 1
  one_more q = eqb-true m (n + 1) (sym (of_other n x m y q) ∙ f)

  rises : n ≤ m
  rises = go (eqb m n) refl
    where
      go : (t : Bool) → eqb m n ≡ t → n ≤ m
      go true e = omega (arith, eqb-true m n e)
      go false e = omega (arith, one_more (eqb-false m n e))

-- ---- records in order
-- Record j does not come after record i.
record Ahead (r : List ℕ) (j i : ℕ) : Type 0 where
  number : number_at r j ≤ number_at r i
  issue : number_at r j ≡ number_at r i → issue_at r j ≤ issue_at r i

itself : (r : List ℕ) (i : ℕ) → Ahead r i i
itself r i = record { number = omega arith; issue = λ q. omega arith }

one_on : (r : List ℕ) (j i : ℕ) → followed_at r i ≡ true → Ahead r j i → Ahead r j (i + 1)
one_on r j i f a =
    let up = rises (number_at r i) (issue_at r i) (number_at r (i + 1)) (issue_at r (i + 1)) f in
    record {
      number = omega (arith, a.number);
      issue = λ q.
          let s : number_at r j ≡ number_at r i = omega (arith, a.number) in
          let h = higher (number_at r i) (issue_at r i) (number_at r (i + 1)) (issue_at r (i + 1)) f (omega arith) in
          omega (arith, a.issue s);
    }

module _ (r : List ℕ) (order : in_order r ≡ true) where
  step : (k : ℕ) → k + 1 < record_count r → followed_at r k ≡ true
  unfolding in_order
  step k h = each_at (followed_at r) (record_count r - 1) order k (omega arith)

  ahead : (i : ℕ) → i < record_count r → (j : ℕ) → j < suc i → Ahead r j i
  ahead zero h j l = let q : j ≡ 0 = omega arith in rw q (itself r 0)
  ahead (suc i) h j l =
      below_or_last {P = λ (j : ℕ). Ahead r j (suc i)} (suc i)
      (λ j l. rw (← add-one i) (one_on r j i (step i (omega arith)) (ahead i (omega arith) j l))) (itself r (suc i)) j l

  -- n and issue tell a record
  later : (j i : ℕ) → j < i → i < record_count r → number_at r j ≡ number_at r i → issue_at r j < issue_at r i
  later j i l h q =
      let k : j + 1 < record_count r = omega arith in
      let low = ahead i h (j + 1) (omega arith) in
      let up = rises (number_at r j) (issue_at r j) (number_at r (j + 1)) (issue_at r (j + 1)) (step j k) in
      let same : number_at r (j + 1) ≡ number_at r j = omega (arith, low.number) in
      omega (arith, higher (number_at r j) (issue_at r j) (number_at r (j + 1)) (issue_at r (j + 1)) (step j k) same, low.issue (omega arith))

  pub one_place : (j i : ℕ)
      → j < record_count r
      → i < record_count r
      → number_at r j ≡ number_at r i
      → issue_at r j ≡ issue_at r i
      → j ≡ i
  one_place j i hj hi q e = go (ltb j i) (ltb i j) refl refl
    where
      go : (less more : Bool) → ltb j i ≡ less → ltb i j ≡ more → j ≡ i
      go true more p q' = absurd (omega (arith, later j i (ltb-true j i p) hi q))
      go false true p q' = absurd (omega (arith, later i j (ltb-true i j q') hj (sym q)))
      go false false p q' = omega (arith, ltb-false j i p, ltb-false i j q')

  -- n never falls
  pub no_lower : (j i : ℕ) → j ≤ i → i < record_count r → number_at r j ≤ number_at r i
  no_lower j i l h = (ahead i h j (omega arith)).number

  module _ (i : ℕ) (h : i < record_count r) where
    -- a record that does not come after it does not supersede it
    before : (j : ℕ) → j < suc i → supersedes r j i ≡ false
    before j l = go (eqb (number_at r j) (number_at r i)) refl
      where
        go : (t : Bool) → eqb (number_at r j) (number_at r i) ≡ t → supersedes r j i ≡ false
        go true e = rw (e, le-ltb (issue_at r i) (issue_at r j) ((ahead i h j l).issue (eqb-true (number_at r j) (number_at r i) e)))
        go false e = rw e

    -- nor does a later one, where the next one has another n
    stays : (i + 1 < record_count r → number_at r (i + 1) ≡ number_at r i → ⊥) → (j : ℕ) → j < record_count r → not (supersedes r j i) ≡ true
    stays other j l = go (ltb j (suc i)) refl
      where
        go : (t : Bool) → ltb j (suc i) ≡ t → not (supersedes r j i) ≡ true
        go true e = ap not (before j (ltb-true j (suc i) e))
        go false e =
            let g = ltb-false j (suc i) e in
            let k : i + 1 < record_count r = omega arith in
            let up = one_more (number_at r i) (issue_at r i) (number_at r (i + 1)) (issue_at r (i + 1)) (step i k) (other k) in
            let far = no_lower (i + 1) j (omega arith) l in
            let z : eqb (number_at r j) (number_at r i) ≡ false = ne_eqb (number_at r j) (number_at r i) (λ q. omega arith) in
            rw z

    pub last_of_number : (i + 1 < record_count r → number_at r (i + 1) ≡ number_at r i → ⊥) → survives r i ≡ true
    unfolding survives
    last_of_number other = each_by (λ j. not (supersedes r j i)) (record_count r) (stays other)

    pub followed_in_number : i + 1 < record_count r → number_at r (i + 1) ≡ number_at r i → survives r i ≡ false
    unfolding survives
    followed_in_number k q =
        let up = higher (number_at r i) (issue_at r i) (number_at r (i + 1)) (issue_at r (i + 1)) (step i k) q in
        let gone : not (supersedes r (i + 1) i) ≡ false = rw (eq-eqb (number_at r (i + 1)) (number_at r i) q, lt-ltb (issue_at r i) (issue_at r (i + 1)) up) in
        each_fails (λ j. not (supersedes r j i)) (record_count r) (i + 1) k gone

    -- After a survivor comes the next n.
    pub next_number_lem : survives r i ≡ true → i + 1 < record_count r → number_at r (i + 1) ≡ number_at r i + 1
    next_number_lem lives k =
        one_more (number_at r i) (issue_at r i) (number_at r (i + 1)) (issue_at r (i + 1)) (step i k)
        (λ q. false≢true (sym (followed_in_number k q) ∙ lives))

    -- After a superseded record comes one of its n.
    pub same_number : survives r i ≡ false → (i + 1 < record_count r) × (number_at r (i + 1) ≡ number_at r i)
    same_number gone = go (ltb (i + 1) (record_count r)) (eqb (number_at r (i + 1)) (number_at r i)) refl refl
      where
        survives_not : (i + 1 < record_count r → number_at r (i + 1) ≡ number_at r i → ⊥) → ⊥
        survives_not other = false≢true (sym gone ∙ last_of_number other)

        go : (more same : Bool)
            → ltb (i + 1) (record_count r) ≡ more
            → eqb (number_at r (i + 1)) (number_at r i) ≡ same
            → (i + 1 < record_count r) × (number_at r (i + 1) ≡ number_at r i)
        go true true e q = (ltb-true (i + 1) (record_count r) e, eqb-true (number_at r (i + 1)) (number_at r i) q)
        go true false e q = absurd (survives_not (λ k. eqb-false (number_at r (i + 1)) (number_at r i) q))
        go false same e q = absurd (survives_not (λ k. absurd (omega (arith, ltb-false (i + 1) (record_count r) e))))
