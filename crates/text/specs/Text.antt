-- Numbers as text.
use Rattle.std.specs.Prelude.{cond, List, [], ◌∷◌, ◌++◌, ℕ, zero, suc, ◌+◌, ◌/◌, ◌%◌, ltb, ℤ, pos, negsuc}

-- the decimal digits of n, the most significant first, given that `turns` divisions by ten are enough
unfoldable pub decimal : ℕ → ℕ → List ℕ
decimal zero n = (48 + n) ∷ []
decimal (suc turns) n = cond (ltb n 10) ((48 + n) ∷ []) (decimal turns (n / 10) ++ ((48 + n % 10) ∷ []))

-- the decimal digits of n, which is below 10 ^ 20
unfoldable pub dec_of : ℕ → List ℕ
dec_of n = decimal 19 n

-- a signed number: a minus, 45, before one that is negative
unfoldable pub signed_of : ℤ → List ℕ
signed_of (pos n) = dec_of n
signed_of (negsuc n) = 45 ∷ dec_of (suc n)

-- a plain number, and a signed one, with the byte that ends it
unfoldable pub number_cell : ℕ → ℕ → List ℕ
number_cell n ender = dec_of n ++ (ender ∷ [])

unfoldable pub signed_cell : ℤ → ℕ → List ℕ
signed_cell z ender = signed_of z ++ (ender ∷ [])
