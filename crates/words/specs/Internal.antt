-- A signed number as it is read: which it is, and how large at most.
use Rattle.std.specs.Prelude.{◌≡◌, List, ℕ, ◌^◌, ◌≤◌, ℤ, nat_abs}
use Rattle.rules.specs.Record.{i32_at}

-- The largest magnitude of an i32, 2 ^ 31.
abbrev pub largest_i32 : ℕ
largest_i32 = 2 ^ 31

-- A number that was read: what it is, and how large at most.
pub record IsI32 (b : List ℕ) (at : ℕ) (r : ℤ) : Type 0 where
  pub is : r ≡ i32_at b at
  pub small : nat_abs r ≤ largest_i32
