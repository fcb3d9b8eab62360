-- The figures hold of the definitions.
-- Assumes nothing.
use mathlib.Core.Path.{refl}
use Rattle.rules.specs.Residue.{residue_of}
use Rattle.rules.specs.Interval.{clears_at, flag_of, next_of, step_of}
use Rattle.rules.specs.History.{in_half_hour, latest_half_hour, any_negative, clearing, since_clearing, sum_negative, state_after}
use Rattle.rules.specs.Record.{u32_at, i32_at, prices, lines, pre_dispatch_prices, pre_dispatch_lines, event_of}
use Rattle.rules.specs.Refusal.{each, bad_flags, bad_status, bad_price, bad_flow, pre_dispatch_zero, pre_dispatch_inside, bad_pre_dispatch, interval_conditions, interval_outcome, inside_spans, rising, open_conditions, open_outcome, row_conditions, row_outcome}
use Rattle.rules.specs.Rounding.{span, assigned_of, sum_lower}
use Rattle.rules.specs.Tracker.{open_of, step_all, advanced, interval_of, row_of, row_answer}
use Rattle.rules.specs.Calls.{run_calls}
use Rattle.rules.specs.Claim.{accept_call, accepted}
use Rattle.rules.specs.Figures.{Figures}

-- Document 01's twelve, and those of N4, N8, N2 and N9.
pub figures : Figures
unfolding residue_of clears_at flag_of next_of step_of in_half_hour latest_half_hour any_negative clearing since_clearing sum_negative state_after u32_at i32_at prices lines pre_dispatch_prices pre_dispatch_lines event_of each bad_flags bad_status bad_price bad_flow pre_dispatch_zero pre_dispatch_inside bad_pre_dispatch interval_conditions interval_outcome inside_spans rising open_conditions open_outcome row_conditions row_outcome open_of step_all advanced interval_of row_of row_answer run_calls span assigned_of sum_lower accept_call accepted
figures = record {
  p1 = refl;
  p1_record = (refl, refl);
  p1_row = (refl, refl, refl, refl);
  p2 = refl;
  p3 = (refl, refl);
  p4 = refl;
  p5 = refl;
  p6 = (refl, refl);
  p7 = refl;
  p7_again = refl;
  p8 = refl;
  p9 = (refl, refl);
  p10 = (refl, refl);
  p11 = refl;
  p12 = (refl, refl);
  n4_opens = (refl, refl);
  n4_stands = (refl, refl);
  n4_cleared = (refl, refl);
  n8_ends = (refl, refl);
  n8_rows = refl;
  n8_flags = (refl, refl);
  n2_at_minus_1 = (refl, refl);
  n2_at_lowest = (refl, refl);
  n2_bands = refl;
  n2_clamp = (refl, refl, refl);
  n9_tight = (refl, refl);
  n9_both_sides = refl;
  n9_rounded_to_0 = refl;
  n9_cleared = refl;
}
