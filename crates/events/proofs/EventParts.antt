-- What an accepted record's numbers allow, and that the parts put together are what it says of a direction.
-- Assumes nothing.
use mathlib.Core.Bool.{Bool, true, false, cond}
use mathlib.Core.List.{List}
use mathlib.Core.Path.{◌≡◌, refl, ap, ◌∙◌}
use Prim.Native.Nat.{ℕ, ◌≤◌, ◌<◌}
use native.Mathlib.Nat.{le_trans}
use denote.Ref.{Bor}
use lib.Dec.{lit≤}
use Rattle.std.specs.Prelude.{Option, Some, None, pos, is_some, unwrap_or}
use Rattle.units.specs.declared.Cents.{Cents}
use Rattle.units.specs.Units.{cents}
use Rattle.rules.specs.declared.Line.{Line}
use Rattle.rules.specs.declared.Residue.{Residue}
use Rattle.rules.specs.Residue.{no_residue}
use Rattle.rules.specs.Interval.{loop_sum, flag_of, next_of}
use Rattle.rules.specs.Market.{of_directions}
use Rattle.rules.specs.Record.{record_number, operating, present, prices, lines, pre_dispatch_prices, pre_dispatch_lines, residue, pre_dispatch_residue, event_of}
use Rattle.rules.proofs.Accepted.{Sound, accepted_is}
use Rattle.rules.proofs.Directions.{at_direction, same_directions}
use Rattle.rules.proofs.Laws.{next_law}
use Rattle.rules.proofs.RecordRanges.{Ranged, interval_ranged, pre_dispatch_ranged}
use Rattle.record.specs.declared.Header.{Header}
use Rattle.record.specs.Internal.{header}
use Rattle.residue.specs.Internal.{InRange, highest_a, highest_b}
use Rattle.residue.proofs.ResidueArray.{at, loop_sum_is}
use Rattle.events.specs.declared.Parts.{Parts}
use Rattle.events.specs.Internal.{Readable, pre_dispatch_of, ahead_of, event_from}

module _ {shares b : List ℕ} (r : Readable shares b) where
  sound : Sound (record_number b) b
  sound = accepted_is (record_number b) b r.accepted

  in_range : {p : List Cents} {l : List Line} {A B : ℕ} → A ≤ highest_a → B ≤ highest_b → Ranged p l A B → InRange p shares l
  in_range h k w = record {
    price = w.price;
    share = r.in_range;
    flow = λ i. le_trans (w.a i) h;
    losses = λ i. le_trans (w.b i) k;
  }

  -- of the interval and of the pre-dispatch half-hour
  pub interval_in_range : InRange (prices b) shares (lines b)
  interval_in_range = in_range (lit≤ tt) (lit≤ tt) (interval_ranged (record_number b) b sound)

  pub pre_dispatch_in_range : InRange (pre_dispatch_prices b) shares (pre_dispatch_lines b)
  pre_dispatch_in_range = in_range (lit≤ tt) (lit≤ tt) (pre_dispatch_ranged (record_number b) b sound)

-- the estimate, from a residue that counts for nothing without pre-dispatch
next_is : (flag : Bool) (n : ℕ) (p : Bool) (pre_dispatch : ℕ → Residue) (d : ℕ) → d < 8
    → let residues = cond p (Some (of_directions pre_dispatch)) None in
    next_of flag n (is_some residues) (unwrap_or (ahead_of residues d) (cents (pos 0))) ≡ next_of flag n p (pre_dispatch d).cents
next_is flag n true pre_dispatch d h = ap (λ (x : Residue). next_of flag n true x.cents) (at_direction pre_dispatch no_residue d h)
next_is flag n false pre_dispatch d h = (next_law flag n false _).absent refl ∙ rw ((next_law flag n false (pre_dispatch d).cents).absent refl)

-- What is put together from these parts is what the record says of the eight directions.
module _ (shares : List ℕ) (r : Bor (List ℕ)) {h : Header} {own : List Residue} {ahead : Option (List Residue)} {sum : Cents}
    (is_header : h ≡ header r.now)
    (are_own : own ≡ of_directions (residue shares r.now))
    (are_ahead : ahead ≡ pre_dispatch_of shares r.now)
    (is_sum : sum ≡ loop_sum (λ k. (at own k).cents)) where
  abbrev parts : Parts
  parts = record { r = r; header = h; residues = own; pre_dispatch = ahead; loop_sum = sum }

  event_is : (d : ℕ) → d < 8 → event_from parts d ≡ event_of shares d r.now
  unfolding event_from event_of
  event_is d l =
      rw (
        is_sum,
        loop_sum_is (residue shares r.now) are_own,
        are_own,
        are_ahead,
        is_header,
        at_direction (residue shares r.now) no_residue d l,
        next_is (flag_of (operating r.now) (loop_sum (λ k. (residue shares r.now k).cents)) d) (record_number r.now) (present r.now) (pre_dispatch_residue shares r.now) d l,
      )

  pub events_are : of_directions (event_from parts) ≡ of_directions (λ d. event_of shares d r.now)
  events_are = same_directions (event_from parts) (λ d. event_of shares d r.now) (event_of shares 0 r.now) event_is
