-- Two parts of a list, one after the other: what is searched in the whole is in one of them.
-- Assumes nothing.
use Rattle.std.proofs.Common.{◌≡◌, refl, ap, ◌∙◌, Bool, true, false, not, cond, ◌||◌, List, [], ◌∷◌, ◌++◌, append-nil, get_or}
use Rattle.std.specs.List.{All, list_any, filter}
use Rattle.std.proofs.lemmas.List.Elements.{filter-append}
use Rattle.std.proofs.lemmas.List.Folds.{list_any-append, list_any_none}
use Rattle.comparison.specs.declared.Entry.{Entry}
use Rattle.comparison.specs.Comparison.{same, with_key, has_none}
use Rattle.comparison.specs.Internal.{Below}
use Rattle.comparison.proofs.Order.{apart, apart_back}

-- each of some comes before all of others
abbrev pub AllBelow : List Entry → List Entry → Type 0
AllBelow xs ys = All (λ x. Below x ys) xs

-- none of some has the n and direction of one of the others
abbrev pub Free : List Entry → List Entry → Type 0
Free others xs = All (λ x. has_none others x ≡ true) xs

-- those behind have none in front of their n and direction, and those in front none behind
pub free_behind : (xs ys : List Entry) → AllBelow xs ys → Free ys xs
free_behind xs ys h = λ k d l. ap not (list_any_none _ ys (λ j e m. apart (get_or xs k d).key (get_or ys j e).key (h k d l j e m)))

pub free_front : (xs ys : List Entry) → AllBelow xs ys → Free xs ys
free_front xs ys h = λ k d l. ap not (list_any_none _ xs (λ j e m. apart_back (get_or xs j e).key (get_or ys k d).key (h j e m k d l)))

-- ---- those of the same n and direction, and whether there are any
none_left : {A : Type 0} (p : A → Bool) (xs : List A) → not (list_any p xs) ≡ true → filter p xs ≡ []
none_left p [] h = refl
none_left p (x ∷ xs) h = go (p x) h (none_left p xs)
  where
    go : (t : Bool) → not (t || list_any p xs) ≡ true → (not (list_any p xs) ≡ true → filter p xs ≡ []) → cond t (x ∷ filter p xs) (filter p xs) ≡ []
    go true h ih = cc
    go false h ih = ih h

nor : (s t : Bool) → not t ≡ true → not (s || t) ≡ not s
nor true t h = refl
nor false t h = h

nor_first : (s t : Bool) → not s ≡ true → not (s || t) ≡ not t
nor_first true t h = cc
nor_first false t h = refl

module _ (a b : List Entry) (x : Entry) where
  pub of_first : has_none b x ≡ true → with_key (a ++ b) x ≡ with_key a x
  of_first h = filter-append (λ o. same x.key o.key) a b ∙ rw (none_left _ b h) (append-nil (with_key a x))

  pub of_second : has_none a x ≡ true → with_key (a ++ b) x ≡ with_key b x
  of_second h = filter-append (λ o. same x.key o.key) a b ∙ rw (none_left _ a h) refl

  pub none_first : has_none b x ≡ true → has_none (a ++ b) x ≡ has_none a x
  none_first h = ap not (list_any-append (λ o. same x.key o.key) a b) ∙ nor (list_any (λ o. same x.key o.key) a) (list_any (λ o. same x.key o.key) b) h

  pub none_second : has_none a x ≡ true → has_none (a ++ b) x ≡ has_none b x
  none_second h = ap not (list_any-append (λ o. same x.key o.key) a b) ∙ nor_first (list_any (λ o. same x.key o.key) a) (list_any (λ o. same x.key o.key) b) h
