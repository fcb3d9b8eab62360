-- What the definitions give for lists and bytes that are written out: each figure, the lowest n and direction, and the ends of what 24 and 25 ask.
-- Assumes nothing.
use Rattle.std.proofs.Common.{◌≡◌, refl, ℕ, true, false, List, [], ◌∷◌, ◌++◌, map, take, Some, None}
use Rattle.std.specs.Prelude.{ℤ, pos, replicate}
use Rattle.signed.specs.Range.{minus}
use Rattle.units.specs.Units.{cents}
use Rattle.rules.specs.Record.{u32_at}
use Rattle.comparison.specs.declared.Entry.{Entry}
use Rattle.comparison.specs.Comparison.{equal_pairs, different_pairs, only_there, only_here, lowest_of, compared}
use Rattle.comparison.specs.Entries.{key, i64_at, entry_of, entries_in, bad_entry, bad_entries, rising}

-- n, direction, and how many cents below 0
at : ℕ → ℕ → ℕ → Entry
at n direction below = record { key = key n direction; amount = cents (minus below) }

abbrev rows : List Entry
rows = at 5 0 100 ∷ at 5 1 90 ∷ at 5 3 20 ∷ at 6 0 1 ∷ at 7 6 1 ∷ at 7 7 9 ∷ at 8 0 5 ∷ []

abbrev entries : List Entry
entries = at 5 0 100 ∷ at 5 1 90 ∷ at 5 4 20 ∷ at 6 0 2 ∷ at 8 1 1 ∷ at 9 0 4 ∷ []

-- two pairs equal, at n 6 one with different amounts, three entries only there, four rows only here, of which the first is the lowest
each_figure : compared rows entries ≡ record { equal = 2; different = 1; only_there = 3; only_here = 4; lowest = Some (key 5 3) }
unfolding at compared equal_pairs different_pairs only_there only_here lowest_of
each_figure = refl

-- the lowest by n, then direction, in each of the three groups; equal pairs have none
lowest_in_each : map (λ es. (compared rows es).lowest) ((at 4 7 1 ∷ rows) ∷ (at 5 0 99 ∷ at 5 1 89 ∷ []) ∷ rows ∷ []) ≡ Some (key 4 7) ∷ Some (key 5 0) ∷ None ∷ []
unfolding at compared different_pairs only_there only_here lowest_of
lowest_in_each = refl

by_n_first : map lowest_of ((at 6 0 1 ∷ at 5 7 1 ∷ []) ∷ (at 5 7 1 ∷ at 5 6 1 ∷ at 6 0 1 ∷ []) ∷ []) ≡ Some (key 5 7) ∷ Some (key 5 6) ∷ []
unfolding at lowest_of
by_n_first = refl

-- n, direction and amount, the lowest byte first; the highest and the lowest i64
abbrev bytes : List ℕ
bytes = 1 ∷ 2 ∷ 3 ∷ 4 ∷ 5 ∷ 6 ∷ 7 ∷ 8 ∷ 254 ∷ replicate 7 255

parts : entry_of bytes ≡ at 67305985 134678021 2
unfolding at entry_of i64_at u32_at
parts = refl

ends : map (λ b. i64_at b 0) ((replicate 7 255 ++ (127 ∷ [])) ∷ (replicate 7 0 ++ (128 ∷ [])) ∷ []) ≡ pos 9223372036854775807 ∷ minus 9223372036854775808 ∷ []
unfolding i64_at u32_at
ends = refl

-- 24: a direction above 7, an amount not negative, a length that is no multiple of 16
amount_of : ℕ → ℤ → Entry
amount_of direction z = record { key = key 0 direction; amount = cents z }

bad : map bad_entry (amount_of 7 (minus 1) ∷ amount_of 8 (minus 1) ∷ amount_of 7 (pos 0) ∷ amount_of 7 (pos 1) ∷ []) ≡ false ∷ true ∷ true ∷ true ∷ []
unfolding amount_of
bad = refl

abbrev one : List ℕ
one = replicate 8 0 ++ replicate 8 255

lengths : map bad_entries ([] ∷ one ∷ (one ++ one) ∷ take 8 one ∷ take 15 one ∷ (one ++ (0 ∷ [])) ∷ []) ≡ false ∷ false ∷ false ∷ true ∷ true ∷ true ∷ []
unfolding bad_entries entries_in entry_of i64_at u32_at
lengths = refl

-- every entry is read, and looked at
eighth : List ℕ
eighth = 0 ∷ 0 ∷ 0 ∷ 0 ∷ 8 ∷ 0 ∷ 0 ∷ 0 ∷ replicate 8 255

all_read : entries_in (bytes ++ (one ++ eighth)) ≡ at 67305985 134678021 2 ∷ at 0 0 1 ∷ at 0 8 1 ∷ []
unfolding at eighth entries_in entry_of i64_at u32_at
all_read = refl

all_looked_at : map bad_entries ((one ++ eighth) ∷ (eighth ++ one) ∷ []) ≡ true ∷ true ∷ []
unfolding eighth bad_entries entries_in entry_of i64_at u32_at
all_looked_at = refl

-- 25: strictly, by n, then direction
rise : map rising ((at 5 3 1 ∷ at 5 4 1 ∷ at 6 0 1 ∷ []) ∷ (at 5 3 1 ∷ at 5 3 2 ∷ []) ∷ (at 5 4 1 ∷ at 5 3 1 ∷ []) ∷ (at 6 0 1 ∷ at 5 7 1 ∷ []) ∷ []) ≡ true ∷ false ∷ false ∷ false ∷ []
unfolding at rising
rise = refl
