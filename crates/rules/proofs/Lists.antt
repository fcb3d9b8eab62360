-- Lists of calls, in which single intervals, on a lent tracker (N14) or not, and sets (N10) are mixed: what holds at an opening, and of one accepted
-- record more, holds after each.
-- Assumes nothing.
use mathlib.Core.Path.{◌≡◌, refl, sym, ap, ◌∙◌}
use mathlib.Core.Bool.{Bool, true, false, cond}
use mathlib.Core.List.{List, [], ◌∷◌, ◌++◌, foldl, foldl-map, reverse, reverse-cons, append_assoc}
use Prim.Native.Nat.{ℕ, suc}
use Rattle.rules.specs.declared.Tracker.{Tracker}
use Rattle.rules.specs.Record.{records_in}
use Rattle.rules.specs.Refusal.{is_accepted, interval_outcome}
use Rattle.rules.specs.Tracker.{Opening, open_of, accepts, advanced, interval_of, after}
use Rattle.rules.specs.Sets.{outcome_in_turn, accepts_set, set_of}
use Rattle.rules.specs.Calls.{Call, Interval, Lent, Set, after_call, run_calls, singly}
use Rattle.rules.specs.Claim.{awaited_after, accept_call, accepted}
use Rattle.rules.proofs.Sets.{both_accepted, records_accepted}
use Rattle.rules.proofs.LentOrNot.{lent_leaves, lent_accepts}

-- A relation that two steps keep, two folds keep.
fold_keeps : {A B C : Type 0} (R : A → B → Type 0) (f : A → C → A) (g : B → C → B) → ((a : A) (b : B) (c : C) → R a b → R (f a c) (g b c)) → (l : List C) (a : A) (b : B) → R a b → R (foldl f a l) (foldl g b l)
fold_keeps R f g k [] a b r = r
fold_keeps R f g k (c ∷ l) a b r = fold_keeps R f g k l (f a c) (g b c) (k a b c r)

-- Records that join in their order: the first of them, and then the others.
latest_first : (b : List ℕ) (rs bs : List (List ℕ)) → reverse (b ∷ rs) ++ bs ≡ reverse rs ++ (b ∷ bs)
latest_first b rs bs = ap (λ (w : List (List ℕ)). w ++ bs) (reverse-cons b rs) ∙ append_assoc (reverse rs) (b ∷ []) bs

module _ (o : Opening) where
  -- An accepted record joins the others,
  one_joins : (bs : List (List ℕ)) (b : List ℕ) → accepts (awaited_after o bs) b ≡ true → accept_call o bs (Interval b) ≡ b ∷ bs
  unfolding accept_call
  one_joins bs b e = rw e refl

  -- and so do records that are accepted in their turn, each in a single call: the last of them is the latest.
  pub all_join : (rs bs : List (List ℕ)) (index : ℕ) → is_accepted (outcome_in_turn (awaited_after o bs) index rs) ≡ true → foldl (accept_call o) bs (singly rs) ≡ reverse rs ++ bs
  unfolding outcome_in_turn
  all_join [] bs index e = refl
  all_join (b ∷ rs) bs index e =
      let both = both_accepted (interval_outcome (awaited_after o bs) b) index _ e in
      ap (λ (w : List (List ℕ)). foldl (accept_call o) w (singly rs)) (one_joins bs b both.0) ∙ all_join rs (b ∷ bs) (suc index) both.1 ∙ sym (latest_first b rs bs)

  module _ (R : Tracker → List (List ℕ) → Type 0) (one_more : (t : Tracker) (bs : List (List ℕ)) (b : List ℕ) → t.awaited ≡ awaited_after o bs → R t bs → accepts t.awaited b ≡ true → R (advanced t b) (b ∷ bs)) where
    -- a tracker beside the accepted records
    record Beside (t : Tracker) (bs : List (List ℕ)) : Type 0 where
      awaits : t.awaited ≡ awaited_after o bs
      rest : R t bs

    at_first : R (open_of o).tracker [] → Beside (open_of o).tracker []
    unfolding open_of
    at_first start = record { awaits = refl; rest = start }

    accepted_more : (t : Tracker) (bs : List (List ℕ)) (b : List ℕ) → Beside t bs → accepts t.awaited b ≡ true → Beside (advanced t b) (b ∷ bs)
    unfolding advanced
    accepted_more t bs b r e = record { awaits = refl; rest = one_more t bs b r.awaits r.rest e }

    one_interval : (t : Tracker) (bs : List (List ℕ)) (b : List ℕ) → Beside t bs → Beside (after t b) (accept_call o bs (Interval b))
    unfolding interval_of accept_call
    one_interval t bs b r = rw (← r.awaits) (go (accepts t.awaited b) refl)
      where
        go : (y : Bool) → accepts t.awaited b ≡ y → Beside (cond y (advanced t b) t) (cond y (b ∷ bs) bs)
        go true e = accepted_more t bs b r e
        go false e = r

    -- an accepted set is its single calls, and a refused one changes nothing on either side
    one_set : (t : Tracker) (bs : List (List ℕ)) (s : List ℕ) → Beside t bs → Beside (after_call t (Set s)) (accept_call o bs (Set s))
    unfolding set_of accept_call
    one_set t bs s r = rw (← r.awaits) (go (accepts_set t.awaited s) refl)
      where
        go : (y : Bool) → accepts_set t.awaited s ≡ y → Beside (cond y (foldl after t (records_in s)) t) (cond y (reverse (records_in s) ++ bs) bs)
        go true e =
            let rs = records_in s in
            rw (← all_join rs bs 0 (rw (← r.awaits) (records_accepted t.awaited s e)), foldl-map Interval (accept_call o) rs bs) (fold_keeps Beside after (λ w b. accept_call o w (Interval b)) one_interval rs t bs r)
        go false e = r

    one_call : (t : Tracker) (bs : List (List ℕ)) (c : Call) → Beside t bs → Beside (after_call t c) (accept_call o bs c)
    one_call t bs (Interval b) r = one_interval t bs b r
    one_call t bs (Lent b) r = rw (lent_leaves t b, lent_accepts o bs b) (one_interval t bs b r)
    one_call t bs (Set s) r = one_set t bs s r

    pub after_every_list : R (open_of o).tracker [] → (calls : List Call) → R (run_calls o calls) (accepted o calls)
    unfolding run_calls accepted
    after_every_list start calls = (fold_keeps Beside after_call (accept_call o) one_call calls (open_of o).tracker [] (at_first start)).rest
