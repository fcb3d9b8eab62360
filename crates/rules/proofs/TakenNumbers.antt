-- A tracker turns an n that it has taken away with 3, whatever else the record holds, a later issue too (N7): for every opening and list of calls.
-- Assumes nothing.
use mathlib.Core.Path.{◌≡◌}
use mathlib.Core.Bool.{true, false}
use mathlib.Core.List.{List, [], ◌∷◌}
use Prim.Native.Nat.{ℕ, zero, suc, ◌≤◌, ◌<◌}
use native.Mathlib.Omega.{arith}
use borrow.Author.Tests.{eq-eqb, ne_eqb, le-ltb}
use lib.Dec.{eqb}
use lib.ListN.{length, get_or}
use Rattle.std.specs.Prelude.{Err}
use Rattle.rules.specs.declared.Refusal.TheVariants.{NotAwaited}
use Rattle.rules.specs.Record.{record_number}
use Rattle.rules.specs.Refusal.{judged, highest_number, interval_conditions}
use Rattle.rules.specs.Tracker.{Opening, accepts}
use Rattle.rules.specs.Calls.{Call}
use Rattle.rules.specs.Claim.{awaited_after, awaited_from, accepted}
use Rattle.rules.proofs.Accepted.{accepted_is}
use Rattle.rules.proofs.Lists.{after_every_list}

-- n is below the awaited number, and in range.
record Taken (awaited n : ℕ) : Type 0 where
  below : n < awaited
  in_range : n ≤ highest_number

abbrev AllTaken : Opening → List (List ℕ) → Type 0
AllTaken o bs = (k : ℕ) → k < length bs → Taken (awaited_after o bs) (record_number (get_or bs k []))

module _ (o : Opening) where
  one_more : (bs : List (List ℕ)) (b : List ℕ) → AllTaken o bs → accepts (awaited_after o bs) b ≡ true → AllTaken o (b ∷ bs)
  one_more bs b all e zero l = record { below = omega arith; in_range = (accepted_is (awaited_after o bs) b e).in_range }
  one_more bs b all e (suc k) l =
      let t = all k (omega arith) in
      record { below = omega (arith, t.below, (accepted_is (awaited_after o bs) b e).in_turn); in_range = t.in_range }

  all_taken : (calls : List Call) → AllTaken o (accepted o calls)
  all_taken calls = after_every_list o (λ t bs. AllTaken o bs) (λ t bs b awaits all e. one_more bs b all (rw (← awaits) e)) (λ k l. absurd (omega arith)) calls

  -- A record c of the n of any accepted one.
  pub already_taken : (calls : List Call) (k : ℕ)
      → k < length (accepted o calls)
      → (c : List ℕ)
      → length c ≡ 168
      → record_number c ≡ record_number (get_or (accepted o calls) k [])
      → judged (interval_conditions (awaited_from o calls) c) ≡ Err NotAwaited
  unfolding interval_conditions
  already_taken calls k l c whole same =
      let t = all_taken calls k l in
      let other : eqb (record_number c) (awaited_from o calls) ≡ false = ne_eqb (record_number c) (awaited_from o calls) (λ e. omega (arith, t.below)) in
      rw (eq-eqb (length c) 168 whole, le-ltb highest_number (record_number c) (omega (arith, t.in_range)), other)
