-- The first condition met, as listed, gives the number; without one the call is accepted: how a function shows it that tests the conditions in
-- their order and returns at the first that is met. For callers, by tracker/proofs/Promise.
-- Assumes nothing.
use mathlib.Core.Path.{◌≡◌, refl, ◌∙◌}
use mathlib.Core.Bool.{true, false, false≢true}
use mathlib.Core.List.{List, [], ◌∷◌}
use Prim.Native.Nat.{ℕ, zero, suc}
use lib.ListN.{drop, get_or}
use Rattle.std.specs.Prelude.{Ok, Err}
use Rattle.rules.specs.declared.Refusal.TheVariants.{NotARecord}
use Rattle.rules.specs.Refusal.{Condition, ◌when◌, judged}

-- stands past the end of a list
abbrev pub never : Condition
never = NotARecord when false

-- None of the first k conditions is met: the outcome is what the others give.
pub record Passed (k : ℕ) (cs : List Condition) : Type 0 where
  pub others : judged cs ≡ judged (drop k cs)

pub untested : {cs : List Condition} → Passed 0 cs
untested = record { others = refl }

pass_one : (k : ℕ) (cs : List Condition) → (get_or cs k never).met ≡ false → judged (drop k cs) ≡ judged (drop (suc k) cs)
pass_one zero [] e = refl
pass_one zero (c ∷ cs) e = rw e
pass_one (suc k) [] e = refl
pass_one (suc k) (c ∷ cs) e = pass_one k cs e

met_one : (k : ℕ) (cs : List Condition) → (get_or cs k never).met ≡ true → judged (drop k cs) ≡ Err (get_or cs k never).refusal
met_one zero [] e = absurd (false≢true e)
met_one zero (c ∷ cs) e = rw e
met_one (suc k) [] e = absurd (false≢true e)
met_one (suc k) (c ∷ cs) e = met_one k cs e

module _ {cs : List Condition} (k : ℕ) (p : Passed k cs) where
  -- The next one is not met;
  pub pass : (get_or cs k never).met ≡ false → Passed (suc k) cs
  pass e = record { others = p.others ∙ pass_one k cs e }

  -- it is met;
  pub refused_at : (get_or cs k never).met ≡ true → judged cs ≡ Err (get_or cs k never).refusal
  refused_at e = p.others ∙ met_one k cs e

  -- there is none.
  pub accepted_past : drop k cs ≡ [] → judged cs ≡ Ok tt
  accepted_past e = p.others ∙ rw e
