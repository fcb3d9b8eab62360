-- Entries that rise, as bytes end to end: the first two of them, and the others.
-- Assumes nothing.
use Rattle.std.proofs.Common.{◌≡◌, refl, ℕ, ◌≤◌, ◌<◌, Bool, true, false, ◌&&◌, List, [], ◌∷◌, map, length, get_or, drop, arith}
use Rattle.std.proofs.lemmas.List.Elements.{All-nil}
use Rattle.comparison.specs.declared.Entry.{Entry}
use Rattle.comparison.specs.Comparison.{is_lower}
use Rattle.comparison.specs.Entries.{entry_of, rising}
use Rattle.comparison.specs.Internal.{Rises}
use Rattle.comparison.proofs.Totals.{below_all}

abbrev pub rise : List (List ℕ) → Bool
rise bs = rising (map entry_of bs)

pub few_rise : (bs : List (List ℕ)) → length bs < 2 → rise bs ≡ true
unfolding rising
few_rise [] h = refl
few_rise (b ∷ []) h = refl
few_rise (b ∷ c ∷ bs) h = absurd (omega arith)

pub first_rises : (bs : List (List ℕ)) → 2 ≤ length bs → rise bs ≡ (is_lower (entry_of (get_or bs 0 [])).key (entry_of (get_or bs 1 [])).key && rise (drop 1 bs))
unfolding rising
first_rises [] h = absurd (omega arith)
first_rises (b ∷ []) h = absurd (omega arith)
first_rises (b ∷ c ∷ bs) h = refl

-- each comes before every later one
pub rises : (xs : List Entry) → rising xs ≡ true → Rises xs
unfolding rising
rises [] e = tt
rises (x ∷ []) e = (All-nil (λ y. is_lower x.key y.key ≡ true), tt)
rises (x ∷ y ∷ ys) e = go (is_lower x.key y.key) refl e (rises (y ∷ ys))
  where
    go : (t : Bool) → is_lower x.key y.key ≡ t → (t && rising (y ∷ ys)) ≡ true → (rising (y ∷ ys) ≡ true → Rises (y ∷ ys)) → Rises (x ∷ y ∷ ys)
    go true l e ih = let h = ih e in (below_all x y ys l h.0, h)
    go false l e ih = cc
