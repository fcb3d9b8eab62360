-- The lowest n and direction: which it is, that there is one such, and of parts of which the first comes before the second.
-- Assumes nothing.
use Rattle.std.proofs.Common.{◌≡◌, refl, sym, ap, ◌∙◌, Bool, true, false, cond, List, [], ◌∷◌, ◌++◌, Option, Some, None, arith}
use Rattle.std.proofs.lemmas.List.Elements.{All-nil, All-cons, All-weaker, All-contains, Contains-append_right}
use Rattle.comparison.specs.declared.Entry.{Entry}
use Rattle.comparison.specs.declared.Key.{Key}
use Rattle.comparison.specs.Comparison.{is_lower, lower_key, lowest_of, Has, IsLowest}
use Rattle.comparison.specs.Internal.{Below, first_found}
use Rattle.comparison.proofs.Parts.{AllBelow}
use Rattle.comparison.proofs.Order.{never_below}

has_more : (x : Entry) (xs : List Entry) (p : Key) → Has xs p → Has (x ∷ xs) p
has_more x xs p h = (h.0, Contains-append_right (x ∷ []) xs h.0 h.1, h.2)

-- x, and the lowest of others
lower_is : (x : Entry) (xs : List Entry) (o : Option Key) → IsLowest xs o → IsLowest (x ∷ xs) (Some (lower_key x.key o))
lower_is x xs None e = rw e ((x, (0, omega arith, refl), refl), All-cons (λ y. is_lower y.key x.key ≡ false) x [] (grind arith) (All-nil (λ y. is_lower y.key x.key ≡ false)))
lower_is x xs (Some q) h = go (is_lower q x.key) refl
  where
    go : (t : Bool) → is_lower q x.key ≡ t → IsLowest (x ∷ xs) (Some (cond t q x.key))
    go true e = (has_more x xs q h.0, All-cons (λ y. is_lower y.key q ≡ false) x xs (never_below q x.key e) h.1)
    go false e = (
      (x, (0, omega arith, refl), refl),
      All-cons (λ y. is_lower y.key x.key ≡ false) x xs (grind arith) (All-weaker (λ y. is_lower y.key q ≡ false) (λ y. is_lower y.key x.key ≡ false) (λ y k. grind arith) xs h.1),
    )

pub lowest_is : (xs : List Entry) → IsLowest xs (lowest_of xs)
unfolding lowest_of
lowest_is [] = refl
lowest_is (x ∷ xs) = lower_is x xs (lowest_of xs) (lowest_is xs)

-- ---- the lower of two lowest
abbrev lower_both : Option Key → Option Key → Option Key
lower_both None o = o
lower_both (Some p) o = Some (lower_key p o)

swap : (o u : Option Key) → lower_both o u ≡ lower_both u o
swap None None = refl
swap None (Some q) = refl
swap (Some p) None = refl
swap (Some p) (Some q) = ap Some (grind arith)

over : (o u v : Option Key) → lower_both (lower_both o u) v ≡ lower_both o (lower_both u v)
over None u v = refl
over (Some p) None v = refl
over (Some p) (Some q) None = refl
over (Some p) (Some q) (Some r) = ap Some (grind arith)

joined : (xs ys : List Entry) → lowest_of (xs ++ ys) ≡ lower_both (lowest_of xs) (lowest_of ys)
unfolding lowest_of
joined [] ys = refl
joined (x ∷ xs) ys = ap (lower_both (Some x.key)) (joined xs ys) ∙ sym (over (Some x.key) (lowest_of xs) (lowest_of ys))

crossed : (o u v w : Option Key) → lower_both (lower_both o u) (lower_both v w) ≡ lower_both (lower_both o v) (lower_both u w)
crossed o u v w =
    over o u (lower_both v w)
    ∙ ap (lower_both o) (sym (over u v w) ∙ ap (λ x. lower_both x w) (swap u v) ∙ over v u w)
    ∙ sym (over o v (lower_both u w))

-- the first part's, where it comes before the second
first_part : (xs ys : List Entry) (o u : Option Key) → IsLowest xs o → IsLowest ys u → AllBelow xs ys → lower_both o u ≡ first_found o u
first_part xs ys None u h k below = refl
first_part xs ys (Some p) None h k below = refl
first_part xs ys (Some p) (Some q) h k below =
    let x = h.0.0 in
    let y = k.0.0 in
    let l = All-contains (λ y. is_lower x.key y.key ≡ true) ys y (All-contains (λ x. Below x ys) xs x below h.0.1) k.0.1 in
    ap Some (rw (never_below p q (rw (h.0.2, k.0.2) at l)) refl)

pub both_parts : (d d' t t' h h' : List Entry) → AllBelow (d ++ (t ++ h)) (d' ++ (t' ++ h'))
    → lowest_of ((d ++ d') ++ ((t ++ t') ++ (h ++ h'))) ≡ first_found (lowest_of (d ++ (t ++ h))) (lowest_of (d' ++ (t' ++ h')))
both_parts d d' t t' h h' below =
    let l = lowest_of in
    joined (d ++ d') ((t ++ t') ++ (h ++ h'))
    ∙ (λ i. lower_both (joined d d' i) (joined (t ++ t') (h ++ h') i))
    ∙ (λ i. lower_both (lower_both (l d) (l d')) (lower_both (joined t t' i) (joined h h' i)))
    ∙ ap (lower_both (lower_both (l d) (l d'))) (crossed (l t) (l t') (l h) (l h'))
    ∙ crossed (l d) (l d') (lower_both (l t) (l h)) (lower_both (l t') (l h'))
    ∙ sym (λ i. lower_both (lower_both (l d) (joined t h i)) (lower_both (l d') (joined t' h' i)))
    ∙ sym (λ i. lower_both (joined d (t ++ h) i) (joined d' (t' ++ h') i))
    ∙ first_part (d ++ (t ++ h)) (d' ++ (t' ++ h')) (l (d ++ (t ++ h))) (l (d' ++ (t' ++ h'))) (lowest_is (d ++ (t ++ h))) (lowest_is (d' ++ (t' ++ h'))) below
