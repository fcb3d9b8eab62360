-- The records of a set (N10) in their turn.
-- Assumes nothing.
use mathlib.Core.Bool.{false}
use mathlib.Core.Path.{◌≡◌, refl, sym, ap, ◌∙◌}
use mathlib.Core.List.{List, [], ◌∷◌, foldl, foldl-append}
use Prim.Native.Nat.{ℕ, suc, ◌+◌, ◌<◌}
use native.Mathlib.Omega.{arith}
use lib.ListN.{length, get_or, take}
use lib.Seq.{take-suc}
use Rattle.std.specs.Prelude.{Ok, Err}
use Rattle.rules.specs.Refusal.{judged, bad_records}
use Rattle.rules.specs.declared.Answer.{Answer}
use Rattle.rules.specs.declared.SetRefusal.{SetRefusal}
use Rattle.rules.specs.declared.Tracker.{Tracker}
use Rattle.rules.specs.Tracker.{interval_of, after}
use Rattle.rules.specs.Sets.{SetOutcome, set_conditions, single_outcome, AcceptedInTurn}
use Rattle.rules.specs.Claim.{Came}
use Rattle.rules.proofs.Accepted.{accepted_iff}
use Rattle.tracker.specs.Internal.{or_refused}

-- The call of record i, on the tracker that the calls before it left: it ends so, and leaves the tracker of one call more.
module _ (t : Tracker) (bs : List (List ℕ)) (i : ℕ) {now : Tracker} {a : Answer} (was : now ≡ foldl after t (take i bs)) (is : a ≡ interval_of now (get_or bs i [])) where
  pub in_its_turn : a.outcome ≡ single_outcome t bs i
  in_its_turn = ap (λ (a : Answer). a.outcome) is ∙ ap (λ (now : Tracker). (interval_of now (get_or bs i [])).outcome) was

  pub one_later : i < length bs → a.tracker ≡ foldl after t (take (i + 1) bs)
  one_later l =
      let next : i + 1 ≡ suc i = omega arith in
      ap (λ (a : Answer). a.tracker) is
      ∙ ap (λ (now : Tracker). after now (get_or bs i [])) was
      ∙ sym (ap (λ (k : ℕ). foldl after t (take k bs)) next ∙ ap (foldl after t) (take-suc bs i [] l) ∙ foldl-append after t (take i bs) (get_or bs i [] ∷ []))

-- A set whose length is taken is one of 0 to 288 records.
pub length_taken : (s : List ℕ) → judged (set_conditions s) ≡ Ok tt → bad_records s ≡ false
unfolding set_conditions
length_taken s e = ((accepted_iff (set_conditions s)).0 e).0

-- The first i records were accepted in their turn, and the tracker is the one that their single calls left.
pub record TakenSoFar (t : Tracker) (bs : List (List ℕ)) (now : Tracker) (i : ℕ) : Type 0 where
  pub came : Came now
  pub is : now ≡ foldl after t (take i bs)
  pub accepted : AcceptedInTurn t bs i

-- What the function below the call gave tells how the set ended.
pub is_taken : (o : SetOutcome) {t now : Tracker} → or_refused o t ≡ Ok now → (o ≡ Ok tt) × (now ≡ t)
is_taken (Ok done) e = (refl, cc)
is_taken (Err r) e = absurd cc

pub is_refused : (o : SetOutcome) (t : Tracker) {r : SetRefusal} → or_refused o t ≡ Err r → o ≡ Err r
is_refused (Ok done) t e = absurd cc
is_refused (Err other) t e = cc
