-- Document 02, N12: the published side as bytes, and what is asked of it.
use Rattle.std.specs.Prelude.{Bool, true, cond, not, ◌&&◌, ◌||◌, ℕ, ◌+◌, ◌*◌, ◌-◌, ◌/◌, ◌%◌, eqb, ltb, ℤ, pos, List, [], ◌∷◌, length, map}
use Rattle.std.specs.List.{list_any}
use Rattle.std.specs.Simd.{first_chunks}
use Rattle.signed.specs.Range.{minus, negative}
use Rattle.units.specs.Units.{cents}
use Rattle.rules.specs.Record.{u32_at}
use Rattle.comparison.specs.declared.Key.{Key}
use Rattle.comparison.specs.declared.Entry.{Entry}
use Rattle.comparison.specs.Comparison.{is_lower}

-- Eight bytes, the lowest first, as a u64, and as an i64, in two's complement.
abbrev pub u64_at : List ℕ → ℕ → ℕ
u64_at b at = u32_at b at + 4294967296 * u32_at b (at + 4)

abbrev pub twos64 : ℕ → ℤ
twos64 u = cond (ltb u 9223372036854775808) (pos u) (minus (18446744073709551616 - u))

unfoldable pub i64_at : List ℕ → ℕ → ℤ
i64_at b at = twos64 (u64_at b at)

-- A 16-byte entry, little-endian: n (u32), direction (u32), amount (i64).
abbrev pub entry_length : ℕ
entry_length = 16

abbrev pub key : ℕ → ℕ → Key
key n direction = record { n = n; direction = direction }

unfoldable pub entry_of : List ℕ → Entry
entry_of b = record { key = key (u32_at b 0) (u32_at b 4); amount = cents (i64_at b 8) }

-- Entries end to end. (Bytes too few for one are left out: 24 refuses them.)
unfoldable pub entries_in : List ℕ → List Entry
entries_in b = map entry_of (first_chunks entry_length (length b / entry_length) b)

-- For 24: length not a multiple of 16, a direction above 7 or an amount not negative.
abbrev pub bad_entry : Entry → Bool
bad_entry e = ltb 7 e.key.direction || not (negative e.amount.0)

unfoldable pub bad_entries : List ℕ → Bool
bad_entries b = not (eqb (length b % entry_length) 0) || list_any bad_entry (entries_in b)

-- For 25: rising strictly by n, then direction.
unfoldable pub rising : List Entry → Bool
rising [] = true
rising (x ∷ []) = true
rising (x ∷ y ∷ ys) = is_lower x.key y.key && rising (y ∷ ys)
