-- A u32 as four bytes, and bytes put into a lent buffer, from its start or from its end.
use Rattle.std.specs.Borrow.{GName}
use Rattle.std.specs.Prelude.{◌≡◌, List, [], ◌∷◌, ◌++◌, ℕ, ◌-◌, ◌/◌, ◌%◌, length, take, drop}

-- four bytes, the lowest first
abbrev pub little_of : ℕ → List ℕ
little_of n = n % 256 ∷ n / 256 % 256 ∷ n / 65536 % 256 ∷ n / 16777216 % 256 ∷ []

-- buffer d with x over its start
abbrev pub over : List ℕ → List ℕ → List ℕ
over x d = x ++ drop (length x) d

-- What a writer does: it puts x at the start of buffer d, every other byte stays as it was, and it gives how many bytes it put.
pub record Puts (x d : List ℕ) (count : ℕ) (out : List ℕ) : Type 0 where
  pub counted : count ≡ length x
  pub bytes : out ≡ over x d

-- A lent room that is filled from its end on: whose loan it is, and all its bytes, those that are free and the text behind them.
pub record Filled : Type 0 where
  pub loan : GName
  pub free : List ℕ
  pub text : List ℕ

-- What a writer does there: it puts x before the text, over the last free bytes. Every other byte stays as it was.
unfoldable pub put_before : List ℕ → Filled → Filled
put_before x r = record { loan = r.loan; free = take (length r.free - length x) r.free; text = x ++ r.text }
