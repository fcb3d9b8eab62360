-- The figures of rising lists add up: to the number of entries, and to the number of rows.
-- Assumes nothing.
use Rattle.std.proofs.Common.{◌≡◌, refl, ℕ, ◌+◌, Bool, true, false, List, [], ◌∷◌, ◌++◌, length, length-append, Some, None, arith}
use Rattle.std.specs.List.{All}
use Rattle.std.proofs.lemmas.List.Elements.{All-nil, All-cons, All-weaker}
use Rattle.comparison.specs.declared.Entry.{Entry}
use Rattle.comparison.specs.declared.Comparison.{Comparison}
use Rattle.comparison.specs.Comparison.{same, is_lower, same_amount, equal_pairs, different_pairs, only_there, only_here, lowest_of, last_three, compared, AddUp}
use Rattle.comparison.specs.Internal.{Below, Rises, followed_by, rows_counted}
use Rattle.comparison.proofs.Order.{lower_than_lower, same_one, same_by, same_back, none_lower}
use Rattle.comparison.proofs.Lowest.{lowest_is}
use Rattle.comparison.proofs.Groups.{in_turn}

one : (P : Entry → Type 0) (x : Entry) → P x → All P (x ∷ [])
one P x p = All-cons P x [] p (All-nil P)

-- ---- the one that comes first, or the pair
module _ (e : Entry) (rows entries : List Entry) where
  pub there_first : Below e rows → Below e entries → compared rows (e ∷ entries) ≡ followed_by (compared [] (e ∷ [])) (compared rows entries)
  there_first h k = in_turn (record {
    rows = All-nil (λ x. Below x rows);
    row_entry = All-nil (λ x. Below x entries);
    entry_row = one (λ x. Below x rows) e h;
    entries = one (λ x. Below x entries) e k;
  })

module _ (r : Entry) (rows entries : List Entry) where
  pub here_first : Below r rows → Below r entries → compared (r ∷ rows) entries ≡ followed_by (compared (r ∷ []) []) (compared rows entries)
  here_first h k = in_turn (record {
    rows = one (λ x. Below x rows) r h;
    row_entry = one (λ x. Below x entries) r k;
    entry_row = All-nil (λ x. Below x rows);
    entries = All-nil (λ x. Below x entries);
  })

  pub pair_first : (e : Entry) → same r.key e.key ≡ true → Below r rows → Below e entries
      → compared (r ∷ rows) (e ∷ entries) ≡ followed_by (compared (r ∷ []) (e ∷ [])) (compared rows entries)
  pair_first e is h k =
      let at = same_one r.key e.key is in
      in_turn (record {
        rows = one (λ x. Below x rows) r h;
        row_entry = one (λ x. Below x entries) r (rw at k);
        entry_row = one (λ x. Below x rows) e (rw at at h);
        entries = one (λ x. Below x entries) e k;
      })

-- what comes before the first of a rising list comes before all of it
pub below_all : (x y : Entry) (ys : List Entry) → is_lower x.key y.key ≡ true → Below y ys → Below x (y ∷ ys)
below_all x y ys l h =
    All-cons (λ z. is_lower x.key z.key ≡ true) y ys l
    (All-weaker (λ z. is_lower y.key z.key ≡ true) (λ z. is_lower x.key z.key ≡ true) (λ z k. lower_than_lower x.key y.key z.key l k) ys h)

-- ---- of one, or one pair
pub there_one : (e : Entry) → compared [] (e ∷ []) ≡ record { equal = 0; different = 0; only_there = 1; only_here = 0; lowest = Some e.key }
unfolding compared equal_pairs different_pairs only_there only_here lowest_of
there_one e = refl

pub here_one : (r : Entry) → compared (r ∷ []) [] ≡ record { equal = 0; different = 0; only_there = 0; only_here = 1; lowest = Some r.key }
unfolding compared equal_pairs different_pairs only_there only_here lowest_of
here_one r = refl

module _ (r e : Entry) (is : same r.key e.key ≡ true) where
  pub pair_same : same_amount e r ≡ true → compared (r ∷ []) (e ∷ []) ≡ record { equal = 1; different = 0; only_there = 0; only_here = 0; lowest = None }
  unfolding compared equal_pairs different_pairs only_there only_here lowest_of
  pair_same a = rw (is, same_back r.key e.key is, a) refl

  pub pair_other : same_amount e r ≡ false → compared (r ∷ []) (e ∷ []) ≡ record { equal = 0; different = 1; only_there = 0; only_here = 0; lowest = Some r.key }
  unfolding compared equal_pairs different_pairs only_there only_here lowest_of
  pair_other a = rw (is, same_back r.key e.key is, a) refl

-- ---- the sums
abbrev pub entries_counted : Comparison → ℕ
entries_counted f = f.equal + f.different + f.only_there

abbrev pub Sums : List Entry → List Entry → Type 0
Sums rows entries = (rows_counted (compared rows entries) ≡ length rows) × (entries_counted (compared rows entries) ≡ length entries)

pub one_pair : (r e : Entry) → same r.key e.key ≡ true → (b : Bool) → same_amount e r ≡ b → Sums (r ∷ []) (e ∷ [])
one_pair r e is true a = rw (pair_same r e is a) (refl, refl)
one_pair r e is false a = rw (pair_other r e is a) (refl, refl)

none_counted : Sums [] []
unfolding compared equal_pairs different_pairs only_there only_here
none_counted = (refl, refl)

-- of two parts in turn
module _ (a b xs ys : List Entry) (parts : compared (a ++ b) (xs ++ ys) ≡ followed_by (compared a xs) (compared b ys)) (first : Sums a xs) (second : Sums b ys) where
  both_counted : Sums (a ++ b) (xs ++ ys)
  both_counted = rw parts (omega (arith, first.0, second.0, length-append a b), omega (arith, first.1, second.1, length-append xs ys))

sums : (rows entries : List Entry) → Rises rows → Rises entries → Sums rows entries
sums [] [] h k = none_counted
sums [] (e ∷ es) h k =
    both_counted [] [] (e ∷ []) es (there_first e [] es (All-nil (λ y. is_lower e.key y.key ≡ true)) k.0) (rw (there_one e) (refl, refl)) (sums [] es h k.1)
sums (r ∷ rs) [] h k =
    both_counted (r ∷ []) rs [] [] (here_first r rs [] h.0 (All-nil (λ y. is_lower r.key y.key ≡ true))) (rw (here_one r) (refl, refl)) (sums rs [] h.1 k)
sums (r ∷ rs) (e ∷ es) h k = go (is_lower e.key r.key) (is_lower r.key e.key) refl refl (sums (r ∷ rs) es h k.1) (sums rs (e ∷ es) h.1 k) (sums rs es h.1 k.1)
  where
    go : (t u : Bool) → is_lower e.key r.key ≡ t → is_lower r.key e.key ≡ u → Sums (r ∷ rs) es → Sums rs (e ∷ es) → Sums rs es → Sums (r ∷ rs) (e ∷ es)
    go true u l m there here pair = both_counted [] (r ∷ rs) (e ∷ []) es (there_first e (r ∷ rs) es (below_all e r rs l h.0) k.0) (rw (there_one e) (refl, refl)) there
    go false true l m there here pair = both_counted (r ∷ []) rs [] (e ∷ es) (here_first r rs (e ∷ es) h.0 (below_all r e es m k.0)) (rw (here_one r) (refl, refl)) here
    go false false l m there here pair =
        let is : same r.key e.key ≡ true = same_by r.key e.key (none_lower r.key e.key m l) in
        both_counted (r ∷ []) rs (e ∷ []) es (pair_first r rs es e is h.0 k.0) (one_pair r e is (same_amount e r) refl) pair

-- ---- all that follows
three_counted : (rows entries : List Entry)
    → (compared rows entries).different + (compared rows entries).only_there + (compared rows entries).only_here ≡ length (last_three rows entries)
unfolding compared
three_counted rows entries = omega (arith, length-append (different_pairs rows entries), length-append (only_there rows entries))

none_if : (xs : List Entry) → length xs ≡ 0 → lowest_of xs ≡ None
unfolding lowest_of
none_if [] e = refl
none_if (x ∷ xs) e = absurd (omega arith)

only_if : (xs : List Entry) → lowest_of xs ≡ None → length xs ≡ 0
unfolding lowest_of
only_if [] e = refl
only_if (x ∷ xs) e = cc

pub add_up : (rows entries : List Entry) → Rises rows → Rises entries → AddUp rows entries (compared rows entries)
unfolding compared
add_up rows entries h k =
    let t = sums rows entries h k in
    let n = three_counted rows entries in
    record {
      of_entries = t.1;
      of_rows = t.0;
      lowest = lowest_is (last_three rows entries);
      none = (λ e. let z = only_if (last_three rows entries) e in (omega arith, omega arith, omega arith), λ z. none_if (last_three rows entries) (omega arith));
    }
