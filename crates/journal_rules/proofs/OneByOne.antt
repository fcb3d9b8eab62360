-- The n and the issue of records one by one; of records in order, those that are not issued again are the survivors.
-- Assumes nothing.
use Rattle.std.proofs.Common.{◌≡◌, refl, ap, ◌∙◌, Bool, true, false, not, ℕ, zero, suc, ◌+◌, ◌*◌, ◌<◌, add-one, List, [], ◌∷◌, get_or, drop, drop-drop, arith}
use borrow.Author.Tests.{eqb-true, eqb-false}
use lib.Dec.{eqb}
use Rattle.std.specs.Simd.{first_chunks}
use Rattle.tracker.specs.Promise.{record_number, issue, records_in}
pub use Rattle.tracker.proofs.Promise.{record_in, how_many}
use Rattle.journal_rules.specs.Journal.{record_length, record_count, number_at, issue_at, in_order}
use Rattle.journal_rules.specs.Survivors.{record_at, survives, survivors_from, survivors}
use Rattle.journal_rules.specs.Internal.{issued_again, last_of_each}
use Rattle.journal_rules.proofs.Order.{last_of_number, followed_in_number}
use Rattle.journal_rules.proofs.Survivors.{number_of, issue_of}

-- the n and the issue of one
pub number_in : (r : List ℕ) (i : ℕ) → i < record_count r → record_number (get_or (records_in r) i []) ≡ number_at r i
number_in r i h = ap record_number (record_in r i h) ∙ number_of r i

pub issue_in : (r : List ℕ) (i : ℕ) → i < record_count r → issue (get_or (records_in r) i []) ≡ issue_at r i
issue_in r i h = ap issue (record_in r i h) ∙ issue_of r i

-- in records in order those that are not issued again are the survivors
module _ (r : List ℕ) (order : in_order r ≡ true) where
  -- so many records from record i on
  abbrev on : ℕ → ℕ → List (List ℕ)
  on i k = first_chunks record_length k (drop (record_length * i) r)

  next_on : (i k : ℕ) → on i (suc k) ≡ record_at r i ∷ on (suc i) k
  next_on i k =
      let e : record_length * i + record_length ≡ record_length * suc i = omega arith in
      ap (λ (d : List ℕ). record_at r i ∷ first_chunks record_length k d) (drop-drop record_length (record_length * i) r ∙ ap (λ (m : ℕ). drop m r) e)

  -- The record of highest issue is the last of its n: it survives exactly if it is not issued again.
  pub next_tells : (k i : ℕ) → i + suc k ≡ record_count r → survives r i ≡ not (issued_again (record_at r i) (on (suc i) k))
  next_tells zero i h = last_of_number r order i (omega arith) (λ l. absurd (omega (arith, l)))
  next_tells (suc k) i h = rw (number_of r (suc i), number_of r i, ← add-one i) (go (eqb (number_at r (i + 1)) (number_at r i)) refl)
    where
      go : (same : Bool) → eqb (number_at r (i + 1)) (number_at r i) ≡ same → survives r i ≡ not same
      go true e = followed_in_number r order i (omega arith) (omega arith) (eqb-true (number_at r (i + 1)) (number_at r i) e)
      go false e = last_of_number r order i (omega arith) (λ l. eqb-false (number_at r (i + 1)) (number_at r i) e)

  from : (k i : ℕ) → i + k ≡ record_count r → last_of_each (on i k) ≡ survivors_from r i k
  unfolding survivors_from
  from zero i h = refl
  from (suc k) i h = ap last_of_each (next_on i k) ∙ rw (← next_tells k i h, from k (suc i) (omega arith))

  pub last_survive : last_of_each (records_in r) ≡ survivors r
  unfolding survivors
  last_survive = from (record_count r) 0 (omega arith)
