-- Neighbours that pass a test, two by two and one after the other.
use Rattle.std.proofs.Common.{◌≡◌, refl, ap, ◌∙◌, ℕ, zero, suc, ◌+◌, ◌-◌, ◌<◌, add-one, Bool, List, [], ◌∷◌, length, get_or, rules, arith}
use Rattle.std.specs.Iterator.{AlwaysYields}
use Rattle.std.specs.List.{list_all}
use Rattle.std.specs.Slice.Iter.{windows_rest, windows_size, windows_steps}
use Rattle.std.specs.declared.slice.Windows.{Windows}
use Rattle.std.proofs.lemmas.Iterator.{YieldsList}
use Rattle.std.proofs.lemmas.Iterator.Search.{all_from_yields_List}
use borrow.Author.Tests.{tests}
use Rattle.tracker.specs.Promise.{record_number, issue, records_in}
use Rattle.tracker.proofs.Promise.{each_item, each_same}
use Rattle.journal_rules.specs.Journal.{follows, followed_at, record_count, in_order}
use Rattle.journal_rules.proofs.OneByOne.{how_many, number_in, issue_in}
use Rattle.journal.proofs.in_order.Goals as goal

-- two by two
abbrev pairs : {A : Type 0} → List A → List (List A)
pairs [] = []
pairs (x ∷ []) = []
pairs (x ∷ y ∷ ys) = (x ∷ y ∷ []) ∷ pairs (y ∷ ys)

yields : {A : Type 0} (xs : List A) (s : Windows A) → windows_rest s ≡ xs → windows_size s ≡ 2 → AlwaysYields windows_steps (λ y. y.now) s (pairs xs)
yields [] s e n = λ x j p. absurd (omega (arith, p.1.0, ap length e))
yields (x ∷ []) s e n = λ x j p. absurd (omega (arith, p.1.0, ap length e))
yields (x ∷ y ∷ ys) s e n =
    (λ j p. absurd (omega (arith, p.1.0, ap length e)), λ w j p. (p.1.1 ∙ rw (n, e), yields (y ∷ ys) j (p.1.2 ∙ rw e) (p.0 ∙ n)))

two_by_two : {A : Type 0} {s : Windows A} (xs : List A) → windows_rest s ≡ xs → windows_size s ≡ 2 → YieldsList windows_steps (λ y. y.now) s (pairs xs)
two_by_two {s = s} xs e n = record { runs = yields xs s e n }

how_many_pairs : {A : Type 0} (xs : List A) → length (pairs xs) ≡ length xs - 1
how_many_pairs [] = refl
how_many_pairs (x ∷ []) = refl
how_many_pairs (x ∷ y ∷ ys) = omega (arith, how_many_pairs (y ∷ ys))

pair_at : {A : Type 0} (xs : List A) (d : A) (i : ℕ) → i < length xs - 1 → get_or (pairs xs) i [] ≡ get_or xs i d ∷ get_or xs (suc i) d ∷ []
pair_at [] d i h = absurd (omega arith)
pair_at (x ∷ []) d i h = absurd (omega arith)
pair_at (x ∷ y ∷ ys) d zero h = refl
pair_at (x ∷ y ∷ ys) d (suc i) h = pair_at (y ∷ ys) d i (omega arith)

-- may the second stand after the first?
abbrev in_turn : List (List ℕ) → Bool
in_turn w = follows (record_number (get_or w 0 [])) (issue (get_or w 0 [])) (record_number (get_or w 1 [])) (issue (get_or w 1 []))

all_in_turn : (r : List ℕ) → list_all in_turn (pairs (records_in r)) ≡ in_order r
unfolding in_order
all_in_turn r =
    each_item in_turn [] (pairs (records_in r)) (how_many_pairs (records_in r) ∙ ap (λ (n : ℕ). n - 1) (how_many r))
    ∙ each_same (record_count r - 1) _ (followed_at r) (λ i l. one i l)
  where
    one : (i : ℕ) → i < record_count r - 1 → in_turn (get_or (pairs (records_in r)) i []) ≡ followed_at r i
    one i l =
        let h : i + 1 < record_count r = omega arith in
        let k : i < record_count r = omega arith in
        rw (pair_at (records_in r) [] i (omega (arith, how_many r)), ← add-one i, number_in r i k, issue_in r i k, number_in r (i + 1) h, issue_in r (i + 1) h)

pub returns : goal.returns
returns c =
    all_from_yields_List in_turn _ _ _ c.all.ensures.ran
    (two_by_two (records_in c.args.records.now) (c.windows.ensures.rest ∙ c.as_records-records.ensures) c.windows.ensures.size)
    (λ x b q k. search (rules, tests))
    ∙ all_in_turn c.args.records.now
