-- Words of four bytes: as they are read from a list, and as they are written into one.
-- Assumes nothing.
use Rattle.std.proofs.Common.{◌≡◌, ℕ, ◌+◌, ◌<◌, ◌≤◌, List, [], ◌++◌, length, get_or, take, drop, w32, Fits, w8, sym, ◌∙◌, arith, get_or-drop, drop-drop, take-append-drop}
use Rattle.std.proofs.lemmas.Nat.{from_le_bytes-to_le_bytes_4, le_bytes_4}
use Rattle.std.proofs.lemmas.Grind.{common_steps}
use Rattle.std.specs.Int.{from_le_bytes}
use Rattle.rules.specs.Record.{u32_at}
use Rattle.words.specs.Buffer.{little_of}

-- every element is a byte
abbrev pub Bytewise : List ℕ → Type 0
Bytewise s = (i : ℕ) → get_or s i 0 < 256

-- as the borrow checker says it of a slice
abbrev pub SliceOfBytes : List ℕ → Type 0
SliceOfBytes s = (i : ℕ) → Fits w8 (get_or s i 0)

pub bytewise : (s : List ℕ) → SliceOfBytes s → Bytewise s
bytewise s b i = omega (arith, b i)

pub u32_below : (s : List ℕ) (at : ℕ) → Bytewise s → u32_at s at < 4294967296
unfolding u32_at
u32_below s at b = omega (arith, b at, b (at + 1), b (at + 2), b (at + 3))

-- a word past the front of a list
pub u32_past : (r t : List ℕ) (n k : ℕ) → n ≡ length r → u32_at (r ++ t) (n + k) ≡ u32_at t k
unfolding u32_at
u32_past r t n k e = grind (arith, common_steps)

pub u32-drop : (n k : ℕ) (s : List ℕ) → u32_at (drop n s) k ≡ u32_at s (n + k)
unfolding u32_at
u32-drop n k s = grind (arith, common_steps)

-- four bytes make the word that they were made of
pub u32-little : (n : ℕ) (t : List ℕ) → n < 4294967296 → u32_at (little_of n ++ t) 0 ≡ n
unfolding u32_at
u32-little n t h = omega (arith, from_le_bytes-to_le_bytes_4 n h)

pub bytes_drop : (n : ℕ) (s : List ℕ) → Bytewise s → Bytewise (drop n s)
bytes_drop n s b i = rw (get_or-drop n s i 0) (b (n + i))

-- a word that is read, and what follows it
next : (t : List ℕ) (k : ℕ) → k + 4 ≤ length t → Bytewise t → drop k t ≡ little_of (u32_at t k) ++ drop (k + 4) t
unfolding u32_at
next t k h b =
    let part = take 4 (drop k t) in
    let is : u32_at t k ≡ from_le_bytes w32 part = grind (arith, common_steps) in
    let bytes : (i : ℕ) → get_or part i 0 < 256 = λ i. grind (arith, common_steps, b (k + i)) in
    let four = le_bytes_4 part (u32_at t k) (grind (arith, common_steps)) bytes is in
    sym (take-append-drop 4 (drop k t)) ∙ rw (← four) (rw drop-drop)

-- sixteen bytes are their four words
pub sixteen : (t : List ℕ) → length t ≡ 16 → Bytewise t
    → t ≡ little_of (u32_at t 0) ++ (little_of (u32_at t 4) ++ (little_of (u32_at t 8) ++ little_of (u32_at t 12)))
sixteen t h b =
    let a = next t 0 (omega arith) b in
    let c = next t 4 (omega arith) b in
    let d = next t 8 (omega arith) b in
    let e = next t 12 (omega arith) b in
    let f : drop 16 t ≡ [] = grind (arith, common_steps) in
    simp (c, d, e, f) at a
