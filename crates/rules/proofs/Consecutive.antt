-- Numbers in turn: the half-hour of the latest interval is this interval, and, unless it is the first of its half-hour, that of the one before.
-- Assumes nothing.
use mathlib.Core.Path.{◌≡◌, refl, ap}
use mathlib.Core.Bool.{Bool, true, false, not, cond}
use mathlib.Core.List.{List, [], ◌∷◌}
use Prim.Native.Nat.{ℕ, suc, ◌*◌, ◌/◌, ◌%◌, ◌≤◌}
use native.Mathlib.Omega.{arith}
use lib.Dec.{T, eqb}
use lib.IntN.{pos}
use borrow.Author.Tests.{eq-eqb, ne_eqb, eqb-true, eqb-false}
use Rattle.rules.specs.declared.Event.{Event}
use Rattle.rules.specs.Interval.{place, half_hour}
use Rattle.rules.specs.History.{in_half_hour, latest_half_hour}

-- the number after a history
abbrev pub next_number : ℕ → List Event → ℕ
next_number first [] = first
next_number first (e ∷ es) = suc e.n

-- What a history of accepted intervals has: each number is the one after the last, and at flag 0 there is no estimate.
abbrev pub InTurn : ℕ → List Event → Type 0
InTurn first [] = Unit {0}
InTurn first (e ∷ es) = (e.n ≡ next_number first es) × (T (not e.flag) → e.next.0 ≡ pos 0) × InTurn first es

older : (first : ℕ) (es : List Event) → InTurn first es → (h : ℕ) → next_number first es ≤ 6 * h → in_half_hour h es ≡ []
unfolding in_half_hour
older first [] t h l = refl
older first (e ∷ es) t h l = rw (ne_eqb (e.n / 6) h (omega arith)) (older first es t.2 h (omega (arith, t.0)))

before : (first : ℕ) (e : Event) (b : Bool) → eqb (place e.n) 0 ≡ b → (es : List Event) → InTurn first (e ∷ es) → in_half_hour (half_hour e.n) es ≡ cond b [] (latest_half_hour es)
unfolding in_half_hour latest_half_hour
before first e true q es t = older first es t.2 (e.n / 6) (omega (arith, t.0, eqb-true (e.n % 6) 0 q))
before first e false q [] t = refl
before first e false q (x ∷ es) t =
    let k : e.n / 6 ≡ x.n / 6 = omega (arith, t.0, eqb-false (e.n % 6) 0 q) in
    ap (λ (h : ℕ). in_half_hour h (x ∷ es)) k

pub latest_half_hour_lem : (first : ℕ) (e : Event) (es : List Event) → InTurn first (e ∷ es) → latest_half_hour (e ∷ es) ≡ e ∷ cond (eqb (place e.n) 0) [] (latest_half_hour es)
unfolding latest_half_hour in_half_hour
latest_half_hour_lem first e es t = rw (eq-eqb (e.n / 6) (e.n / 6) refl) (ap (λ (l : List Event). e ∷ l) (before first e (eqb (place e.n) 0) refl es t))
