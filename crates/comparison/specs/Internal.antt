-- Lists that rise, figures put together from those of parts of two lists, and what figures a merge will have. No promise cites this.
use Rattle.std.specs.Prelude.{◌≡◌, true, ℕ, ◌+◌, ◌^◌, ◌<◌, List, [], ◌∷◌, length, Option, Some, None, ⊤}
use Rattle.std.specs.List.{All}
use Rattle.comparison.specs.declared.Entry.{Entry}
use Rattle.comparison.specs.declared.Key.{Key}
use Rattle.comparison.specs.declared.Comparison.{Comparison}
use Rattle.comparison.specs.Comparison.{is_lower, compared}

-- x comes before all of some; each of some comes before every later one
abbrev pub Below : Entry → List Entry → Type 0
Below x ys = All (λ y. is_lower x.key y.key ≡ true) ys

abbrev pub Rises : List Entry → Type 0
Rises [] = ⊤
Rises (x ∷ xs) = Below x xs × Rises xs

-- Figures of two lists, and of what comes after them in both: the first that has a lowest has that of all.
abbrev pub first_found : Option Key → Option Key → Option Key
first_found None q = q
first_found (Some p) q = Some p

abbrev pub followed_by : Comparison → Comparison → Comparison
followed_by f g = record {
  equal = f.equal + g.equal;
  different = f.different + g.different;
  only_there = f.only_there + g.only_there;
  only_here = f.only_here + g.only_here;
  lowest = first_found f.lowest g.lowest;
}

-- How many entries and rows are counted in figures, a pair once; and how many rows.
abbrev pub counted : Comparison → ℕ
counted f = f.equal + f.different + f.only_there + f.only_here

abbrev pub rows_counted : Comparison → ℕ
rows_counted f = f.equal + f.different + f.only_here

-- A merge on its way: figures of what is passed, and the entries that are left. What figures it will have, with these rows to come.
pub record Merging : Type 0 where
  pub figures : Comparison
  pub left : List Entry

abbrev pub with_rows : Merging → List Entry → Comparison
with_rows m rows = followed_by m.figures (compared rows m.left)

-- How many entries there are: those counted, and those left.
abbrev pub entries_for : Merging → ℕ
entries_for m = m.figures.equal + m.figures.different + m.figures.only_there + length m.left

-- More rows, or entries, than a merge meets. With fewer of both, what is counted fits in 64 bits.
abbrev pub most : ℕ
most = 2 ^ 62

abbrev pub HasRoom : Merging → Type 0
HasRoom m = (rows_counted m.figures < most) × (entries_for m < most)
