-- Laws of what an opening gives: its shares and settings, a fresh tracker and fresh rows, field by field with document 01's numbers.
-- Assumes nothing.
use mathlib.Core.Path.{◌≡◌, refl}
use mathlib.Core.Bool.{Bool, true, false}
use mathlib.Core.List.{List, [], ◌∷◌, map}
use Prim.Native.Nat.{ℕ}
use lib.IntN.{pos}
use lib.ListN.{set, replicate}
use Rattle.signed.specs.Range.{minus}
use Rattle.units.specs.declared.Cents.{Cents}
use Rattle.units.specs.declared.Hundredths.{Hundredths}
use Rattle.units.specs.Units.{cents, hundredths, grains}
use Rattle.rules.specs.declared.Period.TheVariants.{None}
use Rattle.rules.specs.declared.Direction.{Direction}
use Rattle.rules.specs.declared.Settings.{Settings}
use Rattle.rules.specs.declared.Tracker.{Tracker}
use Rattle.rules.specs.declared.Row.{Row}
use Rattle.rules.specs.declared.RowAnswer.{RowAnswer}
use Rattle.std.specs.Prelude.{Ok, None as NoNotice}
use Rattle.rules.specs.Market.{of_directions}
use Rattle.rules.specs.Residue.{residue_of}
use Rattle.rules.specs.Settings.{document01}
use Rattle.rules.specs.Interval.{clears_at, flag_of, next_of, step_of}
use Rattle.rules.specs.Record.{u32_at, i32_at, prices, lines, pre_dispatch_prices, pre_dispatch_lines, event_of}
use Rattle.rules.specs.Refusal.{each, bad_flags, bad_status, bad_price, bad_flow, pre_dispatch_zero, pre_dispatch_inside, bad_pre_dispatch, interval_conditions, interval_outcome, inside_spans, rising, open_conditions, open_outcome, row_conditions, row_outcome}
use Rattle.rules.specs.Tracker.{Opening, opening, opens, open_of, step_all, advanced, interval_of, row_of, row_answer}
use Rattle.rules.specs.Calls.{Call, run_calls, run}
use Rattle.rules.specs.Claim.{history, worked_row}
use Rattle.rules.specs.Figures.{halves, the_record}
use Rattle.rules.proofs.Replay.{replays}

-- ---- the shares
-- The amount of VIC1_NSW1 after P2's record (P1's with losses 1,200), opened with share k on VIC1-NSW1.
abbrev amount_at : ℕ → Cents
amount_at k =
    let lossy = set (set the_record 64 176) 65 4 in
    (row_answer (run (opening 0 (set halves 2 k)) (lossy ∷ [])) 2).row.amount

-- The share counts to the thousandth: at 251 the amount is 15 cents lower than at 250.
pub amount_by_share : (amount_at 250 ≡ cents (minus 373750)) × (amount_at 251 ≡ cents (minus 373765))
unfolding residue_of clears_at flag_of next_of step_of u32_at i32_at prices lines pre_dispatch_prices pre_dispatch_lines event_of each bad_flags bad_status bad_price bad_flow pre_dispatch_zero pre_dispatch_inside bad_pre_dispatch interval_conditions interval_outcome inside_spans rising open_conditions open_outcome row_conditions row_outcome open_of step_all advanced interval_of row_of row_answer run_calls
amount_by_share = (refl, refl)

-- ---- a fresh tracker
abbrev no_cents : Cents
no_cents = cents (pos 0)

-- Fresh: zeros, no period, clamp 2,000,000 (swamped), not suspended; its row has flag 1.
abbrev fresh_direction : Direction
fresh_direction = record {
  sums = record { previous = no_cents; current = no_cents; net = no_cents };
  period = None;
  clamp = hundredths (pos 2000000);
  counts = record { unbound = 0; violated = 0 };
  suspended = false;
  residue = no_cents;
  leftover = grains (pos 0);
  next = no_cents;
  blocked = false;
  flag = true;
  notice = NoNotice;
}

abbrev fresh_tracker : Settings → ℕ → List ℕ → Tracker
fresh_tracker settings first shares = record { settings = settings; shares = shares; shown = first; awaited = first; directions = replicate 8 fresh_direction }

module _ (o : Opening) where
  -- An opening gives the first n, six shares and settings (N2).
  pub accepted_opening_lem : opens o ≡ true → (open_of o).tracker ≡ fresh_tracker o.settings o.first o.shares
  unfolding open_of
  accepted_opening_lem e = rw e refl

  -- The tracker beside the number is then a fresh one at first n 0 with all shares 0, and with document 01's numbers (N2).
  pub refused_opening_lem : opens o ≡ false → (open_of o).tracker ≡ fresh_tracker document01 0 (0 ∷ 0 ∷ 0 ∷ 0 ∷ 0 ∷ 0 ∷ [])
  unfolding open_of
  refused_opening_lem e = rw e refl

  -- The calls after it keep its shares,
  pub shares_kept : opens o ≡ true → (calls : List Call) → (run_calls o calls).shares ≡ o.shares
  shares_kept e calls = rw ((replays o calls).shares, e)

  -- and what they say of a direction follows from those.
  pub shares_used : opens o ≡ true → (d : ℕ) (bs : List (List ℕ)) → history o d bs ≡ map (event_of o.shares d) bs
  unfolding history
  shares_used e d bs = rw e refl

  -- They keep its settings too (N2).
  pub settings_kept : opens o ≡ true → (calls : List Call) → (run_calls o calls).settings ≡ o.settings
  settings_kept e calls = rw ((replays o calls).settings, e)

-- ---- rows
-- A row of zeros, period none, but for these four.
abbrev pub row_of_zeros : ℕ → ℕ → Bool → Hundredths → Row
row_of_zeros n d flag clamp = record {
  n = n;
  direction = d;
  residue = no_cents;
  applies = false;
  previous = no_cents;
  current = no_cents;
  amount = no_cents;
  next = no_cents;
  net = no_cents;
  period = None;
  counts = record { unbound = 0; violated = 0 };
  blocked = false;
  flag = flag;
  clamp = clamp;
  notice = 0;
  leftover = grains (pos 0);
}

-- A fresh row has n = first, its direction, the rest 0 or none, flag 1, clamp swamped.
abbrev fresh_row : ℕ → ℕ → Row
fresh_row first d = row_of_zeros first d true (hundredths (pos 2000000))

abbrev answered : Row → RowAnswer
answered r = record { outcome = Ok tt; row = r }

-- The row that is worked out from no accepted interval is fresh, whatever the settings.
pub worked_fresh : (settings : Settings) (first d : ℕ) → worked_row settings first d [] ≡ fresh_row first d
unfolding worked_row
worked_fresh settings first d = refl

-- The row call on a just opened tracker gives it, of each of the eight directions.
pub shown_fresh : (o : Opening) → opens o ≡ true → of_directions (row_answer (open_of o).tracker) ≡ of_directions (λ d. answered (fresh_row o.first d))
unfolding row_conditions row_outcome open_of row_of row_answer
shown_fresh o e = rw e refl
