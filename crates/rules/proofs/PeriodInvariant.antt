-- The period: rule 4 holds one exactly as long as an interval within the last twelve got there.
-- Nothing here reads an amount. `Was i` stands for: i intervals ago the direction got there, without review.
-- Assumes nothing.
use mathlib.Core.Path.{◌≡◌, refl}
use mathlib.Core.Bool.{Bool, true, false, not, ◌&&◌, ◌||◌, true≢false, false≢true}
use Prim.Native.Nat.{ℕ, zero, suc, ◌+◌, ◌*◌, ◌/◌, ◌%◌, ◌≤◌, ◌<◌, min}
use native.Mathlib.Omega.{arith}
use lib.Dec.{T, leb, eqb, le→leb}
use mir.Facts.{yes_and}
use borrow.Author.Tests.{eqb-true, eqb-false, ne_eqb}
use Rattle.rules.specs.declared.Period.{Period}
use Rattle.rules.specs.declared.Period.TheVariants.{None, Held}
use Rattle.rules.specs.Interval.{extends, lengthened, is_over, closed, ended, rule4}
use Rattle.rules.specs.History.{lies_in}

-- What holds of a period held, where a is the awaited number.
pub record Holds (Was : ℕ → Type 0) (a first last : ℕ) : Type 0 where
  pub from : first ≤ a
  pub to : a ≤ last
  pub whole : last % 6 ≡ 5
  pub near : last ≤ 6 * (a / 6) + 11
  pub age : ℕ
  pub was : Was age
  pub recent : last + age ≤ a + 11

-- of a period, held or not; and of one that is held
abbrev pub Kept : (ℕ → Type 0) → ℕ → Period → Type 0
Kept Was a None = Unit {0}
Kept Was a (Held first last extended) = Holds Was a first last

abbrev Inside : (ℕ → Type 0) → ℕ → Period → Type 0
Inside Was a None = ⊥
Inside Was a (Held first last extended) = Holds Was a first last

pub T_true : (a : Bool) → T a → a ≡ true
T_true true t = refl
T_true false t = absurd t

inside_kept : (Was : ℕ → Type 0) (a : ℕ) (p : Period) → Inside Was a p → Kept Was a p
inside_kept Was a None s = absurd s
inside_kept Was a (Held first last x) s = s

inside_lies : (Was : ℕ → Type 0) (a : ℕ) (p : Period) → Inside Was a p → T (lies_in a p)
inside_lies Was a None s = absurd s
inside_lies Was a (Held first last x) s = yes_and (leb first a) (leb a last) (le→leb first a s.from) (le→leb a last s.to)

-- a period in which the awaited number lies reaches back no further than twelve intervals
pub recent_of : (Was : ℕ → Type 0) (a : ℕ) (p : Period) → Kept Was a p → T (lies_in a p) → (i : ℕ) × (i < 12) × Was i
recent_of Was a None s t = absurd t
recent_of Was a (Held first last x) s t = (s.age, omega arith, s.was)

-- rule 4's test for a longer period, and what it leaves
room : (n last : ℕ) (x : Bool) → extends n last x ≡ true → last ≤ 6 * (n / 6) + 11 → (last + 6 ≤ n + 12) × (last + 6 ≤ 6 * (suc n / 6) + 11)
room n last x e h = go (eqb (n % 6) 5) refl (eqb last (6 * (n / 6) + 5)) refl e
  where
    go : (b : Bool) → eqb (n % 6) 5 ≡ b → (c : Bool) → eqb last (6 * (n / 6) + 5) ≡ c → (b || (c && not x)) ≡ true → (last + 6 ≤ n + 12) × (last + 6 ≤ 6 * (suc n / 6) + 11)
    go true p c q e = omega (arith, eqb-true (n % 6) 5 p)
    go false p true q e = omega (arith, eqb-true last (6 * (n / 6) + 5) q)
    go false p false q e = absurd (false≢true e)

full : (n last : ℕ) (x : Bool) → extends n last x ≡ false → last % 6 ≡ 5 → n ≤ last → n < last
full n last x e w t = go (eqb (n % 6) 5) refl e
  where
    go : (b : Bool) → eqb (n % 6) 5 ≡ b → (b || (eqb last (6 * (n / 6) + 5) && not x)) ≡ false → n < last
    go true p e = absurd (true≢false e)
    go false p e = omega (arith, eqb-false (n % 6) 5 p)

-- a period that goes on beyond n is not over at n, and the other way round
goes_on : (n last : ℕ) → n < last → is_over n last ≡ false
goes_on n last h = omega (arith, ne_eqb)

not_over : (n last : ℕ) → is_over n last ≡ false → n ≤ last → n < last
not_over n last e h = omega (arith, eqb-false)

-- One interval. `Now` is `Was` after it.
module _ (Was Now : ℕ → Type 0) (later : (i : ℕ) → Was i → Now (suc i)) (n : ℕ) where
  -- the period does not end before n + 1, with what it had
  stay : (first last : ℕ) → Holds Was n first last → (last' : ℕ) → n < last' → last' ≤ last → last' % 6 ≡ 5 → Holds Now (suc n) first last'
  stay first last s last' lt le w = record {
    from = omega (arith, s.from);
    to = omega arith;
    whole = w;
    near = omega (arith, s.near);
    age = suc s.age;
    was = later s.age s.was;
    recent = omega (arith, s.recent);
  }

  ends : (first last last' : ℕ) (x : Bool) → Holds Was n first last → n ≤ last' → last' ≤ last → last' % 6 ≡ 5 → Kept Now (suc n) (ended n (Held first last' x)).period
  ends first last last' x s lt le w = go (is_over n last') refl
    where
      go : (over : Bool) → is_over n last' ≡ over → Kept Now (suc n) (closed over (Held first last' x)).period
      go true e = tt
      go false e = stay first last s last' (not_over n last' e lt) le w

  -- the interval got there: a period is held afterwards
  reach_held : (first last : ℕ) (x b : Bool) → extends n last x ≡ b → Now zero → Holds Was n first last → Inside Now (suc n) (ended n (lengthened b first last x)).period
  reach_held first last x true e now s =
      let k = room n last x e s.near in
      rw (goes_on n (last + 6) (omega (arith, s.to))) (record {
        from = omega (arith, s.from);
        to = omega (arith, s.to);
        whole = omega (arith, s.whole);
        near = k.1;
        age = zero;
        was = now;
        recent = omega (arith, k.0);
      })
  reach_held first last x false e now s =
      let k = full n last x e s.whole s.to in
      rw (goes_on n last k) (stay first last s last k (omega arith) s.whole)

  reach : (p : Period) → Now zero → Kept Was n p → Inside Now (suc n) (rule4 n true true p).period
  reach None now s = record { from = omega arith; to = omega arith; whole = omega arith; near = omega arith; age = zero; was = now; recent = omega arith }
  reach (Held first last x) now s = reach_held first last x (extends n last x) refl now s

  -- it did not
  idle : (flag : Bool) (p : Period) → Kept Was n p → Kept Now (suc n) (rule4 n flag false p).period
  idle flag None s = tt
  idle true (Held first last x) s = ends first last last x s s.to (omega arith) s.whole
  idle false (Held first last x) s = ends first last (min last (6 * (n / 6) + 5)) x s (omega (arith, s.to)) (omega arith) (omega (arith, s.whole))

  -- both, told that an interval gets there only at flag 1
  pub advance : (flag got : Bool) (p : Period) → (T got → T flag) → (T got → Now zero) → Kept Was n p → Kept Now (suc n) (rule4 n flag got p).period × (T got → T (lies_in (suc n) (rule4 n flag got p).period))
  advance true true p f now s =
      let k = reach p (now tt) s in
      (inside_kept Now (suc n) (rule4 n true true p).period k, λ _. inside_lies Now (suc n) (rule4 n true true p).period k)
  advance true false p f now s = (idle true p s, λ t. absurd t)
  advance false true p f now s = absurd (f tt)
  advance false false p f now s = (idle false p s, λ t. absurd t)
