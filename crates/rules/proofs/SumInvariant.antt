-- The sum: what rules 1 and 2 keep is the sum since the latest clearing interval.
-- Of an interval's number its place alone is read, and only where rule 2 is set beside the history: at flag 1 both clear at q = 5 alone.
-- Assumes nothing.
use mathlib.Core.Path.{◌≡◌, refl, sym, ap, ◌∙◌, subst}
use mathlib.Core.Bool.{Bool, true, false, not, cond, ◌&&◌, ◌||◌, and-false}
use Prim.Native.Nat.{ℕ, zero, suc, ◌+◌}
use lib.Dec.{T, eqb}
use lib.IntN.{ℤ, pos, negsuc, ◌+ℤ◌, +ℤ_assoc, +ℤ_idr, +ℤ_idl, pos-ne-negsuc}
use Rattle.signed.specs.Range.{negative}
use Rattle.units.specs.Units.{cents, lower_of_zero}
use Rattle.rules.specs.declared.Sums.{Sums}
use Rattle.rules.specs.Interval.{clears_at, no_sums, at_half_hour_start, cleared_if_zero, rule2, amount}

-- not above zero
pub data NonPos : ℤ → Type 0 where
  none : NonPos (pos zero)
  some : (k : ℕ) → NonPos (negsuc k)

pub nonpos_plus : {a b : ℤ} → NonPos a → NonPos b → NonPos (a +ℤ b)
nonpos_plus none none = none
nonpos_plus none (some k) = subst NonPos (sym (+ℤ_idl (negsuc k))) (some k)
nonpos_plus (some k) none = subst NonPos (sym (+ℤ_idr (negsuc k))) (some k)
nonpos_plus (some k) (some l) = some (suc (k + l))

abbrev pub low : ℤ → ℤ
low r = (lower_of_zero (cents r)).0

pub nonpos_low : (r : ℤ) → NonPos (low r)
nonpos_low (pos k) = none
nonpos_low (negsuc k) = some k

-- What holds of the sums continued, where `sum` is the sum since the latest clearing interval and `seen` says whether the latest
-- interval's half-hour has a negative residue.
pub record SumInvariant (sum : ℤ) (seen : Bool) (s : Sums) : Type 0 where
  pub total : (amount s).0 ≡ sum
  pub old : NonPos s.previous.0
  pub below : NonPos s.current.0
  pub quiet : T (not seen) → s.current.0 ≡ pos zero
  pub spent : T seen → s.current.0 ≡ pos zero → s.previous.0 ≡ pos zero

pub invariant_fresh : SumInvariant (pos 0) false no_sums
invariant_fresh = record { total = refl; old = none; below = none; quiet = λ _. refl; spent = λ _ _. refl }

-- the sum after one interval more
abbrev pub sum_next : Bool → Bool → ℤ → Bool → ℤ → ℤ
sum_next flag closes r seen sum = cond (not flag || (closes && not seen)) (pos 0) (sum +ℤ low r)

-- Rule 1: afterwards the current is that of this interval's half-hour, in which nothing negative is seen if it begins now.
pub invariant_at_start : (begins : Bool) {sum : ℤ} {seen : Bool} {s : Sums} → SumInvariant sum seen s → SumInvariant sum (cond begins false seen) (at_half_hour_start begins s)
invariant_at_start true b = record { total = +ℤ_idr _ ∙ b.total; old = nonpos_plus b.old b.below; below = none; quiet = λ _. refl; spent = λ f _. absurd f }
invariant_at_start false b = b

abbrev sums : ℤ → ℤ → ℤ → Sums
sums previous current net = record { previous = cents previous; current = cents current; net = cents net }

-- with a current below zero nothing clears
busy : (clears : Bool) (p n : ℤ) {sum x : ℤ} {m : ℕ} → NonPos p → x ≡ negsuc m → p +ℤ x ≡ sum → SumInvariant sum true (cleared_if_zero clears (sums p x n))
busy clears p n {sum} {x} {m} o e t = subst (λ (z : ℤ). p +ℤ z ≡ sum → SumInvariant sum true (cleared_if_zero clears (sums p z n))) (sym e)
    (λ u. record { total = u; old = o; below = some m; quiet = λ f. absurd f; spent = λ _ f. absurd (pos-ne-negsuc 0 m (sym f)) }) t

less : {c : ℤ} → NonPos c → (k : ℕ) → (m : ℕ) × (c +ℤ negsuc k ≡ negsuc m)
less none k = (k, +ℤ_idl (negsuc k))
less (some m) k = (suc (m + k), refl)

-- Rule 2 at flag 1 with no negative residue, at a current of 0 and below
mild : (clears seen : Bool) {p c n sum : ℤ} → NonPos c → SumInvariant sum seen (sums p c n) → (m : ℤ) → SumInvariant (sum_next true clears (pos 0) seen sum) seen (cleared_if_zero clears (sums p (c +ℤ pos 0) m))
mild true false none b m = record { total = refl; old = none; below = none; quiet = λ _. refl; spent = λ f _. absurd f }
mild false false none b m = record { total = b.total ∙ sym (+ℤ_idr _); old = b.old; below = none; quiet = λ _. refl; spent = λ f _. absurd f }
mild true true none b m = record { total = ap (λ (z : ℤ). z +ℤ pos 0) (sym (b.spent tt refl)) ∙ b.total ∙ sym (+ℤ_idr _); old = none; below = none; quiet = λ f. absurd f; spent = λ _ _. refl }
mild false true none b m = record { total = b.total ∙ sym (+ℤ_idr _); old = b.old; below = none; quiet = λ f. absurd f; spent = b.spent }
mild clears false (some k) b m = absurd (pos-ne-negsuc 0 k (sym (b.quiet tt)))
mild clears true {p} (some k) b m = rw (and-false clears) (busy clears p m b.old (+ℤ_idr (negsuc k)) (ap (λ (z : ℤ). p +ℤ z) (+ℤ_idr (negsuc k)) ∙ b.total ∙ sym (+ℤ_idr _)))

-- Rule 2 and the history, where both clear or neither does.
invariant_alike : (flag clears : Bool) (r : ℤ) (seen : Bool) {sum : ℤ} {s : Sums} → SumInvariant sum seen s → SumInvariant (sum_next flag clears r (negative r || seen) sum) (negative r || seen) (rule2 flag clears (cents r) s)
invariant_alike false clears r seen b = record { total = refl; old = none; below = none; quiet = λ _. refl; spent = λ _ _. refl }
invariant_alike true clears (pos k) seen {s = s} b = mild clears seen b.below b (s.net.0 +ℤ pos k)
invariant_alike true clears (negsuc k) seen {s = s} b =
    let l = less b.below k in
    rw (and-false clears) (busy clears s.previous.0 (s.net.0 +ℤ negsuc k) b.old l.1 (sym (+ℤ_assoc s.previous.0 s.current.0 (negsuc k)) ∙ ap (λ (z : ℤ). z +ℤ negsuc k) b.total))

-- Rule 2 at place q, beside a history that at flag 1 clears at q = 5 alone.
pub invariant_rule2 : (flag : Bool) (q : ℕ) (r : ℤ) (seen : Bool) {sum : ℤ} {s : Sums} → SumInvariant sum seen s → SumInvariant (sum_next flag (eqb q 5) r (negative r || seen) sum) (negative r || seen) (rule2 flag (clears_at q) (cents r) s)
unfolding clears_at
invariant_rule2 flag q r seen b = invariant_alike flag (eqb q 5) r seen b
