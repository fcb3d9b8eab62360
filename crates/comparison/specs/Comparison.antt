-- Document 02, N12: what the four figures and the lowest n and direction mean, from the two lists alone: our rows, and the published
-- entries.
use Rattle.std.specs.Prelude.{◌≡◌, Bool, false, cond, not, ◌&&◌, ◌||◌, ◌+◌, eqb, ltb, List, [], ◌∷◌, ◌++◌, length, filter, flat_map, ◌↔◌, Option, Some, None}
use Rattle.std.specs.List.{All, Contains, list_any}
use Rattle.signed.specs.Range.{eq_z}
use Rattle.comparison.specs.declared.Key.{Key}
use Rattle.comparison.specs.declared.Entry.{Entry}
use Rattle.comparison.specs.declared.Comparison.{Comparison}

-- Two have the same n and direction.
abbrev pub same : Key → Key → Bool
same p q = eqb p.n q.n && eqb p.direction q.direction

-- p is lower than q: by n, then direction.
abbrev pub is_lower : Key → Key → Bool
is_lower p q = ltb p.n q.n || eqb p.n q.n && ltb p.direction q.direction

-- Of some rows or entries those with the n and direction of x, and whether there is none.
abbrev pub with_key : List Entry → Entry → List Entry
with_key others x = filter (λ o. same x.key o.key) others

abbrev pub has_none : List Entry → Entry → Bool
has_none others x = not (list_any (λ o. same x.key o.key) others)

abbrev pub same_amount : Entry → Entry → Bool
same_amount x o = eq_z x.amount.0 o.amount.0

-- An entry and a row of the same n and direction are a pair, which is listed as its row. Pairs equal: for each entry, its rows with the same amount.
unfoldable pub equal_pairs : List Entry → List Entry → List Entry
equal_pairs rows entries = flat_map (λ e. filter (same_amount e) (with_key rows e)) entries

-- Pairs with different amounts.
unfoldable pub different_pairs : List Entry → List Entry → List Entry
different_pairs rows entries = flat_map (λ e. filter (λ r. not (same_amount e r)) (with_key rows e)) entries

-- Entries only there: with no row.
unfoldable pub only_there : List Entry → List Entry → List Entry
only_there rows entries = filter (has_none rows) entries

-- Rows only here: with no entry.
unfoldable pub only_here : List Entry → List Entry → List Entry
only_here rows entries = filter (has_none entries) rows

-- The lowest n and direction of some, or none.
abbrev pub lower_key : Key → Option Key → Key
lower_key p None = p
lower_key p (Some q) = cond (is_lower q p) q p

unfoldable pub lowest_of : List Entry → Option Key
lowest_of [] = None
lowest_of (x ∷ xs) = Some (lower_key x.key (lowest_of xs))

-- The last three groups together.
abbrev pub last_three : List Entry → List Entry → List Entry
last_three rows entries = different_pairs rows entries ++ (only_there rows entries ++ only_here rows entries)

-- The four figures are how many each group has; with them goes the lowest n and direction in the last three groups together, or none.
unfoldable pub compared : List Entry → List Entry → Comparison
compared rows entries = record {
  equal = length (equal_pairs rows entries);
  different = length (different_pairs rows entries);
  only_there = length (only_there rows entries);
  only_here = length (only_here rows entries);
  lowest = lowest_of (last_three rows entries);
}

-- ---- what document 02 says of the answer
-- A lowest n and direction of some: one of them has it, and none has a lower one. Where there are none of them it is none.
abbrev pub Has : List Entry → Key → Type 0
Has xs p = (x : Entry) × Contains xs x × (x.key ≡ p)

abbrev pub IsLowest : List Entry → Option Key → Type 0
IsLowest xs None = xs ≡ []
IsLowest xs (Some p) = Has xs p × All (λ x. is_lower x.key p ≡ false) xs

-- The sums hold for lists that rise, as both do wherever the call is accepted.
pub record AddUp (rows entries : List Entry) (f : Comparison) : Type 0 where
  -- Equal + different + only there is the number of entries; equal + different + only here is the number of our rows.
  pub of_entries : f.equal + f.different + f.only_there ≡ length entries
  pub of_rows : f.equal + f.different + f.only_here ≡ length rows
  -- The lowest is that of the last three groups, and none exactly if these three figures are 0.
  pub lowest : IsLowest (last_three rows entries) f.lowest
  pub none : (f.lowest ≡ None) ↔ ((f.different ≡ 0) × (f.only_there ≡ 0) × (f.only_here ≡ 0))
