-- A merge on its way: an entry is passed, a row is taken, with an entry or alone. The figures that it will have stay as they are.
-- Assumes nothing.
use Rattle.std.proofs.Common.{◌≡◌, refl, sym, ap, ◌∙◌, ℕ, ◌+◌, ◌≤◌, ◌<◌, true, List, [], ◌∷◌, map, length, get_or, take, drop, ◌-◌, add_assoc, add-zero, Option, Some, None, arith}
use Rattle.std.proofs.lemmas.List.{take_all}
use Rattle.comparison.specs.declared.Entry.{Entry}
use Rattle.comparison.specs.declared.Key.{Key}
use Rattle.comparison.specs.declared.Comparison.{Comparison}
use Rattle.comparison.specs.Comparison.{same, same_amount, equal_pairs, different_pairs, only_there, only_here, lowest_of, compared}
use Rattle.comparison.specs.Entries.{entry_of}
use Rattle.comparison.specs.Internal.{Below, Rises, first_found, followed_by, rows_counted, Merging, with_rows, entries_for}
use Rattle.comparison.proofs.Totals.{there_first, here_first, pair_first, there_one, here_one, one_pair}

-- the entries behind the first of those that are left, as the code names them
abbrev pub behind : List (List ℕ) → List Entry
behind bs = map entry_of (take (length bs - 1) (drop 1 bs))

pub all_behind : {A : Type 0} (xs : List A) → take (length xs - 1) (drop 1 xs) ≡ drop 1 xs
all_behind [] = refl
all_behind (x ∷ xs) = take_all (length (x ∷ xs) - 1) xs (omega arith)

split : (bs : List (List ℕ)) → 1 ≤ length bs → map entry_of bs ≡ entry_of (get_or bs 0 []) ∷ behind bs
split [] h = absurd (omega arith)
split (b ∷ bs) h = ap (λ l. entry_of b ∷ map entry_of l) (sym (all_behind (b ∷ bs)))

no_bytes : (bs : List (List ℕ)) → length bs < 1 → map entry_of bs ≡ []
no_bytes [] h = refl
no_bytes (b ∷ bs) h = absurd (omega arith)

firsts : (o u v : Option Key) → first_found o (first_found u v) ≡ first_found (first_found o u) v
firsts None u v = refl
firsts (Some p) u v = refl

in_parts : (f g h : Comparison) → followed_by f (followed_by g h) ≡ followed_by (followed_by f g) h
in_parts f g h = λ i. record {
  equal = sym (add_assoc f.equal g.equal h.equal) i;
  different = sym (add_assoc f.different g.different h.different) i;
  only_there = sym (add_assoc f.only_there g.only_there h.only_there) i;
  only_here = sym (add_assoc f.only_here g.only_here h.only_here) i;
  lowest = firsts f.lowest g.lowest h.lowest i;
}

-- nothing more comes
first_alone : (o : Option Key) → first_found o None ≡ o
first_alone None = refl
first_alone (Some p) = refl

none_behind : (f : Comparison) → followed_by f (compared [] []) ≡ f
unfolding compared equal_pairs different_pairs only_there only_here lowest_of
none_behind f = λ i. record {
  equal = add-zero f.equal i;
  different = add-zero f.different i;
  only_there = add-zero f.only_there i;
  only_here = add-zero f.only_here i;
  lowest = first_alone f.lowest i;
}

pub nothing_more : (m : Merging) → m.left ≡ [] → with_rows m [] ≡ m.figures
nothing_more m none = ap (λ l. followed_by m.figures (compared [] l)) none ∙ none_behind m.figures

-- Figures of what comes next, and the entries that are left then.
abbrev pub after : Merging → Comparison → List Entry → Merging
after m next left = record { figures = followed_by m.figures next; left = left }

-- a merge as its fields say it, with entries left, or none
module _ {m : Merging} {f : Comparison} (bs : List (List ℕ)) (is : ◌≡◌ {A = Merging} (record { figures = f; left = map entry_of bs }) m) where
  pub first_left : 1 ≤ length bs → {e : Entry} → e ≡ entry_of (get_or bs 0 []) → m.left ≡ e ∷ behind bs
  first_left h at = ap (λ (m : Merging). m.left) (sym is) ∙ split bs h ∙ ap (λ e. e ∷ behind bs) (sym at)

  pub none_left : length bs < 1 → m.left ≡ []
  none_left h = ap (λ (m : Merging). m.left) (sym is) ∙ no_bytes bs h

  pub as_figures : f ≡ m.figures
  as_figures = ap (λ (m : Merging). m.figures) is

  pub added : {g next : Comparison} {es : List Entry} {n : Merging} → n ≡ record { figures = followed_by f g; left = es } → g ≡ next → n ≡ after m next es
  added {es = es} to g = to ∙ (λ i. record { figures = followed_by (as_figures i) (g i); left = es })

module _ (m : Merging) where
  -- the next entry is only there
  module _ {e : Entry} {es : List Entry} (parts : m.left ≡ e ∷ es) where
    pub passed : (rows : List Entry) → Below e rows → Rises m.left → Rises es × (with_rows m rows ≡ with_rows (after m (compared [] (e ∷ [])) es) rows)
    passed rows h up =
        let k = rw parts at up in
        (k.1, ap (λ l. followed_by m.figures (compared rows l)) parts ∙ ap (followed_by m.figures) (there_first e rows es h k.0) ∙ in_parts m.figures (compared [] (e ∷ [])) (compared rows es))

    pub passed_counted : (rows_counted (after m (compared [] (e ∷ [])) es).figures ≡ rows_counted m.figures) × (entries_for (after m (compared [] (e ∷ [])) es) ≡ entries_for m)
    passed_counted = let n = ap length parts in rw (there_one e) (omega arith, omega arith)

    -- the row has its n and direction
    module _ (row : Entry) (is : same row.key e.key ≡ true) where
      pub paired : (rows : List Entry) → Rises (row ∷ rows) → Rises m.left
          → (with_rows m (row ∷ rows) ≡ with_rows (after m (compared (row ∷ []) (e ∷ [])) es) rows) × Rises es
      paired rows h up =
          let k = rw parts at up in
          (ap (λ l. followed_by m.figures (compared (row ∷ rows) l)) parts ∙ ap (followed_by m.figures) (pair_first row rows es e is h.0 k.0) ∙ in_parts m.figures (compared (row ∷ []) (e ∷ [])) (compared rows es), k.1)

      pub paired_counted : (rows_counted (after m (compared (row ∷ []) (e ∷ [])) es).figures ≡ rows_counted m.figures + 1) × (entries_for (after m (compared (row ∷ []) (e ∷ [])) es) ≡ entries_for m)
      paired_counted = let n = ap length parts in let one = one_pair row e is (same_amount e row) refl in (omega arith, omega arith)

  -- a row with no entry
  module _ (row : Entry) where
    pub alone : (rows : List Entry) → Rises (row ∷ rows) → Below row m.left → with_rows m (row ∷ rows) ≡ with_rows (after m (compared (row ∷ []) []) m.left) rows
    alone rows h below = ap (followed_by m.figures) (here_first row rows m.left h.0 below) ∙ in_parts m.figures (compared (row ∷ []) []) (compared rows m.left)

    pub alone_counted : (rows_counted (after m (compared (row ∷ []) []) m.left).figures ≡ rows_counted m.figures + 1) × (entries_for (after m (compared (row ∷ []) []) m.left) ≡ entries_for m)
    alone_counted = rw (here_one row) (omega arith, omega arith)
