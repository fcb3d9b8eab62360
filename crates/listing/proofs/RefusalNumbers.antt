-- A refusal's number has at most two digits.
-- Assumes nothing.
use mathlib.Core.Path.{◌≡◌}
use mathlib.Core.Bool.{Bool, true, false, cond}
use mathlib.Core.List.{List, [], ◌∷◌}
use mathlib.Core.Option.{some}
use Prim.Native.Nat.{ℕ, ◌≤◌}
use native.Mathlib.Omega.{arith}
use Rattle.tracker.specs.Promise.{Refusal, Condition, number, number_met}

pub two_digits : (why : Refusal) → number why ≤ 99
two_digits why = grind arith

pub met_two_digits : (cs : List Condition) (k : ℕ) → number_met cs ≡ some k → k ≤ 99
met_two_digits [] k e = let z : ◌≡◌ {A = ℕ} 0 1 = cc in omega arith
met_two_digits (c ∷ cs) k e = go c.met (met_two_digits cs k) e
  where
    go : (b : Bool) → (number_met cs ≡ some k → k ≤ 99) → cond b (some (number c.refusal)) (number_met cs) ≡ some k → k ≤ 99
    go true rest e = let same : number c.refusal ≡ k = cc in omega (arith, two_digits c.refusal)
    go false rest e = rest e
