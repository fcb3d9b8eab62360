-- Bytes put into a buffer part by part: each writer is lent what is behind the bytes of those before it, and in the end the whole is there.
-- Assumes nothing.
use Rattle.std.proofs.Common.{◌≡◌, ℕ, ◌+◌, ◌-◌, ◌<◌, ◌≤◌, List, [], ◌∷◌, ◌++◌, length, get_or, take, drop, refl, ap, sym, ◌∙◌, arith, append_assoc, append-nil, length-append, drop-drop}
use Rattle.std.proofs.lemmas.Grind.{common_steps}
use Rattle.std.proofs.lemmas.List.{map_more, map-append, take-append-drop}
use mathlib.Core.List.{flatten, map}
use borrow.Rule.Slice.PartMut.{mid_of, post_of, put_mid}
use Rattle.words.specs.Buffer.{Puts, Filled, put_before}

-- nothing put yet: for a loop's start
pub nothing : (d : List ℕ) → Puts [] d 0 d
nothing d = record { counted = refl; bytes = refl }

-- y behind x
pub chained : {x y d out tail : List ℕ} {a b : ℕ} → Puts x d a out → Puts y (mid_of a (length out - a) out) b tail
    → Puts (x ++ y) d (a + b) (put_mid a (length out - a) out tail)
chained {x} {y} {d} {out} {tail} {a} {b} p q =
    let m : mid_of a (length out - a) out ≡ drop a d = grind (arith, common_steps) in
    let e : post_of a (length out - a) out ≡ [] = grind (arith, common_steps) in
    let t : take a out ≡ x = grind (arith, common_steps) in
    let f : tail ≡ y ++ drop (a + length y) d = q.bytes ∙ rw m (rw drop-drop) in
    record { counted = grind (arith, common_steps); bytes = rw (t, e, f) (simp (append-nil, append_assoc, length-append, p.counted)) }

-- y has room there, where the buffer has room for both
pub room_behind : {x d out : List ℕ} {a : ℕ} (y : List ℕ) → Puts x d a out → length (x ++ y) ≤ length d → length y ≤ length (mid_of a (length out - a) out)
room_behind y p h = grind (arith, common_steps)

-- ---- parts end to end, in a loop
pub flatten-append : (xs ys : List (List ℕ)) → flatten (xs ++ ys) ≡ flatten xs ++ flatten ys
unfolding flatten
flatten-append [] ys = refl
flatten-append (x ∷ xs) ys = ap (λ (l : List ℕ). x ++ l) (flatten-append xs ys) ∙ sym (append_assoc x (flatten xs) (flatten ys))

pub no_part : (d : List ℕ) → Puts (flatten []) d 0 d
unfolding flatten
no_part d = nothing d

-- f gives each of xs its bytes, and those of the first i are put
module _ {A : Type 0} (f : A → List ℕ) (xs : List A) (i : ℕ) (def : A) (h : i < length xs) where
  first_more : flatten (map f (take (i + 1) xs)) ≡ flatten (map f (take i xs)) ++ f (get_or xs i def)
  unfolding flatten
  first_more = rw (map_more f xs i def h, flatten-append, append-nil)

  no_longer : length (flatten (map f (take (i + 1) xs))) ≤ length (flatten (map f xs))
  no_longer =
      let e : flatten (map f xs) ≡ flatten (map f (take (i + 1) xs)) ++ flatten (map f (drop (i + 1) xs)) =
      ap (λ (l : List A). flatten (map f l)) (sym (take-append-drop (i + 1) xs)) ∙ rw (map-append, flatten-append) in
      grind (arith, common_steps)

  pub part_room : {d out : List ℕ} {a : ℕ} → Puts (flatten (map f (take i xs))) d a out → length (flatten (map f xs)) ≤ length d
      → length (f (get_or xs i def)) ≤ length (mid_of a (length out - a) out)
  part_room p r = room_behind (f (get_or xs i def)) p (rw (← first_more) (omega (arith, no_longer)))

  pub part_put : {d out tail : List ℕ} {a b : ℕ} → Puts (flatten (map f (take i xs))) d a out → Puts (f (get_or xs i def)) (mid_of a (length out - a) out) b tail
      → Puts (flatten (map f (take (i + 1) xs))) d (a + b) (put_mid a (length out - a) out tail)
  part_put p q = rw first_more (chained p q)

-- ---- from the end on
pub text_put : (x : List ℕ) (r : Filled) → (put_before x r).text ≡ x ++ r.text
unfolding put_before
text_put x r = refl

pub free_left : (x : List ℕ) (r : Filled) → length (put_before x r).free ≡ length r.free - length x
unfolding put_before
free_left x r = grind (arith, common_steps)

pub put_twice : (x y : List ℕ) (r : Filled) → put_before x (put_before y r) ≡ put_before (x ++ y) r
unfolding put_before
put_twice x y r = grind (arith, common_steps)

-- for a writer that puts its bytes by others
pub ruleset before = (text_put, free_left, put_twice, common_steps)
