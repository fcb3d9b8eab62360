-- One call more at the end of a list: the accepted records, the awaited number and the rows that are worked out then.
-- Assumes nothing.
use mathlib.Core.Path.{◌≡◌, refl, sym, ap, ◌∙◌}
use mathlib.Core.List.{List, [], ◌∷◌, ◌++◌, foldl, foldl-append, reverse}
use Prim.Native.Nat.{ℕ, suc}
use Rattle.std.specs.Prelude.{Ok, Err}
use Rattle.rules.specs.declared.Refusal.{Refusal}
use Rattle.rules.specs.declared.SetRefusal.{SetRefusal}
use Rattle.rules.specs.declared.Event.{Event}
use Rattle.rules.specs.declared.Settings.{Settings}
use Rattle.rules.specs.Record.{record_number, records_in, event_of}
use Rattle.rules.specs.Refusal.{is_accepted, judged, interval_conditions, interval_outcome}
use Rattle.rules.specs.Tracker.{Opening, first_of, settings_of}
use Rattle.rules.specs.Sets.{set_outcome}
use Rattle.rules.specs.Calls.{Call, Interval, Set, singly}
use Rattle.rules.specs.Claim.{awaited_after, accept_call, accepted, history, worked_row, awaited_from, worked_from}
use Rattle.rules.proofs.Accepted.{accepted_is}
use Rattle.rules.proofs.Sets.{records_accepted}
use Rattle.rules.proofs.Lists.{all_join}

module _ (o : Opening) (calls : List Call) where
  accepted_on : (more : List Call) → accepted o (calls ++ more) ≡ foldl (accept_call o) (accepted o calls) more
  unfolding accepted
  accepted_on more = foldl-append (accept_call o) [] calls more

-- One interval call more.
module _ (o : Opening) (calls : List Call) (b : List ℕ) where
  abbrev longer : List Call
  longer = calls ++ (Interval b ∷ [])

  -- Refused, it adds no record.
  pub refused_longer : {k : Refusal} → judged (interval_conditions (awaited_from o calls) b) ≡ Err k → accepted o longer ≡ accepted o calls
  unfolding accept_call interval_outcome
  refused_longer e = accepted_on o calls (Interval b ∷ []) ∙ rw e

  module _ (ok : judged (interval_conditions (awaited_from o calls) b) ≡ Ok tt) where
    -- Accepted, it adds its own in front,
    pub accepted_longer : accepted o longer ≡ b ∷ accepted o calls
    unfolding accept_call interval_outcome
    accepted_longer = accepted_on o calls (Interval b ∷ []) ∙ rw ok

    in_turn : record_number b ≡ awaited_from o calls
    unfolding interval_outcome
    in_turn = (accepted_is (awaited_from o calls) b (ap is_accepted ok)).in_turn

    -- the number awaited next is one higher,
    pub awaits_one_more : awaited_from o longer ≡ suc (awaited_from o calls)
    awaits_one_more = ap (awaited_after o) accepted_longer ∙ ap suc in_turn

    -- and each row shows the number that was awaited.
    pub shows_awaited : (d : ℕ) → (worked_from o longer d).n ≡ awaited_from o calls
    unfolding history worked_row event_of
    shows_awaited d = ap (λ (bs : List (List ℕ)). (worked_row (settings_of o) (first_of o) d (history o d bs)).n) accepted_longer ∙ in_turn

-- A set more (N10).
module _ (o : Opening) (calls : List Call) (s : List ℕ) where
  abbrev with_set : List Call
  with_set = calls ++ (Set s ∷ [])

  -- Refused, it adds nothing.
  pub refused_set : {r : SetRefusal} → set_outcome (awaited_from o calls) s ≡ Err r → accepted o with_set ≡ accepted o calls
  unfolding accept_call
  refused_set e = accepted_on o calls (Set s ∷ []) ∙ rw e

  module _ (ok : set_outcome (awaited_from o calls) s ≡ Ok tt) where
    -- Accepted, it adds its records in front, the last of them first;
    pub accepted_set : accepted o with_set ≡ reverse (records_in s) ++ accepted o calls
    unfolding accept_call
    accepted_set = accepted_on o calls (Set s ∷ []) ∙ rw ok

    -- and so its records would, each in a single call.
    pub accepted_singly : accepted o with_set ≡ accepted o (calls ++ singly (records_in s))
    accepted_singly =
        let rs = records_in s in
        accepted_set ∙ sym (accepted_on o calls (singly rs) ∙ all_join o rs (accepted o calls) 0 (records_accepted (awaited_from o calls) s (ap is_accepted ok)))

-- a row has the direction that it is worked out for
pub worked_direction : (set : Settings) (first d : ℕ) (es : List Event) → (worked_row set first d es).direction ≡ d
unfolding worked_row
worked_direction set first d [] = refl
worked_direction set first d (e ∷ es) = refl
