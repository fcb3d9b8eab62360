-- N14: a lent tracker holds afterwards what the other call gives, and its record is accepted as there. So which calls of a list are on a lent tracker
-- makes no difference to what the list leaves, nor to which records it accepts.
-- Assumes nothing.
use mathlib.Core.Path.{◌≡◌, refl, sym, ap, ◌∙◌}
use mathlib.Core.List.{List, [], ◌∷◌, foldl, map}
use Prim.Native.Nat.{ℕ}
use Rattle.rules.specs.declared.Tracker.{Tracker}
use Rattle.rules.specs.Tracker.{Opening, open_of}
use Rattle.rules.specs.Calls.{Call, Interval, Lent, Set, after_call, run_calls, not_lent}
use Rattle.rules.specs.Claim.{accept_call, accepted}

pub lent_leaves : (t : Tracker) (b : List ℕ) → after_call t (Lent b) ≡ after_call t (Interval b)
lent_leaves t b = refl

pub lent_accepts : (o : Opening) (bs : List (List ℕ)) (b : List ℕ) → accept_call o bs (Lent b) ≡ accept_call o bs (Interval b)
unfolding accept_call
lent_accepts o bs b = refl

-- Where a step takes two calls alike, a fold takes two lists alike.
folds_alike : {A C : Type 0} (f : A → C → A) (h : C → C) → ((a : A) (c : C) → f a (h c) ≡ f a c) → (l : List C) (a : A) → foldl f a (map h l) ≡ foldl f a l
folds_alike f h k [] a = refl
folds_alike f h k (c ∷ l) a = ap (λ x. foldl f x (map h l)) (k a c) ∙ folds_alike f h k l (f a c)

leaves_the_same : (t : Tracker) (call : Call) → after_call t (not_lent call) ≡ after_call t call
leaves_the_same t (Interval b) = refl
leaves_the_same t (Lent b) = sym (lent_leaves t b)
leaves_the_same t (Set s) = refl

accepts_the_same : (o : Opening) (bs : List (List ℕ)) (call : Call) → accept_call o bs (not_lent call) ≡ accept_call o bs call
accepts_the_same o bs (Interval b) = refl
accepts_the_same o bs (Lent b) = sym (lent_accepts o bs b)
accepts_the_same o bs (Set s) = refl

pub ran_not_lent : (o : Opening) (calls : List Call) → run_calls o (map not_lent calls) ≡ run_calls o calls
unfolding run_calls
ran_not_lent o calls = folds_alike after_call not_lent leaves_the_same calls (open_of o).tracker

pub accepted_not_lent : (o : Opening) (calls : List Call) → accepted o (map not_lent calls) ≡ accepted o calls
unfolding accepted
accepted_not_lent o calls = folds_alike (accept_call o) not_lent (accepts_the_same o) calls []
