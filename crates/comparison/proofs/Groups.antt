-- Two parts of the rows and of the entries, the first of which comes before the second: figures of the whole are those of the first part, followed by
-- those of the second.
-- Assumes nothing.
use Rattle.std.proofs.Common.{◌≡◌, refl, sym, ap, ◌∙◌, Bool, true, false, not, cond, List, [], ◌∷◌, ◌++◌, length, length-append, get_or}
use Rattle.std.specs.List.{All, flat_map, filter}
use Rattle.std.proofs.lemmas.List.Elements.{All-nil, All-head, All-tail, All-filter, All-append}
use Rattle.std.proofs.lemmas.List.Concat.{flat_map-append}
use Rattle.comparison.specs.declared.Entry.{Entry}
use Rattle.comparison.specs.Comparison.{same, is_lower, same_amount, with_key, has_none, equal_pairs, different_pairs, only_there, only_here, lowest_of, last_three, compared}
use Rattle.comparison.specs.Internal.{Below, followed_by}
use Rattle.comparison.proofs.Parts.{AllBelow, Free, free_behind, free_front, of_first, of_second, none_first, none_second}
use Rattle.comparison.proofs.Lowest.{both_parts}

-- What a group has of an entry, among rows, is what it has of it among those rows that may have its n and direction.
record Local (g : List Entry → Entry → List Entry) : Type 0 where
  first : (a b : List Entry) (x : Entry) → has_none b x ≡ true → g (a ++ b) x ≡ g a x
  second : (a b : List Entry) (x : Entry) → has_none a x ≡ true → g (a ++ b) x ≡ g b x

pairs_local : (test : Entry → Entry → Bool) → Local (λ rows e. filter (test e) (with_key rows e))
pairs_local test = record { first = λ a b e h. ap (filter (test e)) (of_first a b e h); second = λ a b e h. ap (filter (test e)) (of_second a b e h) }

abbrev only : List Entry → Entry → List Entry
only others x = cond (has_none others x) (x ∷ []) []

only_local : Local only
only_local = record {
  first = λ a b x h. ap (λ t. cond t (x ∷ []) []) (none_first a b x h);
  second = λ a b x h. ap (λ t. cond t (x ∷ []) []) (none_second a b x h);
}

as_filter : {A : Type 0} (p : A → Bool) (xs : List A) → flat_map (λ x. cond (p x) (x ∷ []) []) xs ≡ filter p xs
as_filter p [] = refl
as_filter {A} p (x ∷ xs) = go (p x) (as_filter p xs)
  where
    go : (t : Bool) → flat_map (λ x. cond (p x) (x ∷ []) []) xs ≡ filter p xs → cond t (x ∷ []) [] ++ flat_map (λ x. cond (p x) (x ∷ []) []) xs ≡ cond t (x ∷ filter p xs) (filter p xs)
    go true ih = ap (λ (l : List A). x ∷ l) ih
    go false ih = ih

agree : {A B : Type 0} {f g : A → List B} (P : A → Type 0) → ((x : A) → P x → f x ≡ g x) → (xs : List A) → All P xs → flat_map f xs ≡ flat_map g xs
agree P same [] h = refl
agree P same (x ∷ xs) h = λ i. same x (All-head P x xs h) i ++ agree P same xs (All-tail P x xs h) i

blocks : {g : List Entry → Entry → List Entry} → Local g → (a b xs ys : List Entry) → Free b xs → Free a ys
    → flat_map (g (a ++ b)) (xs ++ ys) ≡ flat_map (g a) xs ++ flat_map (g b) ys
blocks {g} l a b xs ys f h =
    flat_map-append (g (a ++ b)) xs ys
    ∙ (λ i. agree (λ x. has_none b x ≡ true) (λ x k. l.first a b x k) xs f i ++ agree (λ x. has_none a x ≡ true) (λ x k. l.second a b x k) ys h i)

filtered : (a b xs ys : List Entry) → Free b xs → Free a ys → filter (has_none (a ++ b)) (xs ++ ys) ≡ filter (has_none a) xs ++ filter (has_none b) ys
filtered a b xs ys f h =
    sym (as_filter (has_none (a ++ b)) (xs ++ ys)) ∙ blocks only_local a b xs ys f h ∙ (λ i. as_filter (has_none a) xs i ++ as_filter (has_none b) ys i)

-- ---- the lists of the groups
module _ (rows entries : List Entry) (P : Entry → Type 0) where
  of_pairs : (test : Entry → Entry → Bool) (es : List Entry) → All P rows → All P (flat_map (λ e. filter (test e) (with_key rows e)) es)
  of_pairs test [] h = All-nil P
  of_pairs test (e ∷ es) h =
      All-append P (filter (test e) (with_key rows e)) (flat_map (λ e. filter (test e) (with_key rows e)) es)
      (All-filter (test e) P (with_key rows e) (All-filter (λ o. same e.key o.key) P rows h)) (of_pairs test es h)

  -- what all rows and all entries are, those of the last three groups are
  of_three : All P rows → All P entries → All P (last_three rows entries)
  unfolding different_pairs only_there only_here
  of_three h k =
      All-append P (different_pairs rows entries) (only_there rows entries ++ only_here rows entries) (of_pairs (λ e r. not (same_amount e r)) entries h)
      (All-append P (only_there rows entries) (only_here rows entries) (All-filter (has_none rows) P entries k) (All-filter (has_none entries) P rows h))

-- part 1, the rows a and the entries xs, comes before part 2, the rows b and the entries ys
pub record InTurn (a xs b ys : List Entry) : Type 0 where
  pub rows : AllBelow a b
  pub row_entry : AllBelow a ys
  pub entry_row : AllBelow xs b
  pub entries : AllBelow xs ys

module _ {a xs b ys : List Entry} (t : InTurn a xs b ys) where
  three_below : AllBelow (last_three a xs) (last_three b ys)
  three_below =
      of_three a xs (λ x. Below x (last_three b ys))
      (λ k d l. of_three b ys (λ y. is_lower (get_or a k d).key y.key ≡ true) (t.rows k d l) (t.row_entry k d l))
      (λ k d l. of_three b ys (λ y. is_lower (get_or xs k d).key y.key ≡ true) (t.entry_row k d l) (t.entries k d l))

  pub in_turn : compared (a ++ b) (xs ++ ys) ≡ followed_by (compared a xs) (compared b ys)
  unfolding compared equal_pairs different_pairs only_there only_here
  in_turn =
      let f = free_behind xs b t.entry_row in
      let h = free_front a ys t.row_entry in
      let equal = blocks (pairs_local same_amount) a b xs ys f h in
      let different = blocks (pairs_local (λ e r. not (same_amount e r))) a b xs ys f h in
      let there = filtered a b xs ys f h in
      let here = filtered xs ys a b (free_behind a ys t.row_entry) (free_front xs b t.entry_row) in
      λ i. record {
        equal = (ap length equal ∙ length-append (equal_pairs a xs) (equal_pairs b ys)) i;
        different = (ap length different ∙ length-append (different_pairs a xs) (different_pairs b ys)) i;
        only_there = (ap length there ∙ length-append (only_there a xs) (only_there b ys)) i;
        only_here = (ap length here ∙ length-append (only_here a xs) (only_here b ys)) i;
        lowest = ((λ j. lowest_of (different j ++ (there j ++ here j))) ∙ both_parts (different_pairs a xs) (different_pairs b ys) (only_there a xs) (only_there b ys) (only_here a xs) (only_here b ys) three_below) i;
      }
