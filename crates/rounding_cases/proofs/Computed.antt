-- Every stored line of N9 is the one that the definitions give.
-- Assumes nothing.
use mathlib.Core.List.{flat_map}
use mathlib.Core.Path.{refl}
use Rattle.rules.specs.Residue.{residue_of}
use Rattle.rules.specs.Interval.{clears_at, flag_of, next_of, step_of}
use Rattle.rules.specs.History.{in_half_hour, latest_half_hour, any_negative, clearing}
use Rattle.rules.specs.Record.{u32_at, i32_at, prices, lines, pre_dispatch_prices, pre_dispatch_lines, event_of}
use Rattle.rules.specs.Refusal.{each, bad_flags, bad_status, bad_price, bad_flow, pre_dispatch_zero, pre_dispatch_inside, bad_pre_dispatch, interval_conditions, interval_outcome, inside_spans, rising, open_conditions, open_outcome, row_conditions, row_outcome}
use Rattle.rules.specs.Rounding.{span, assigned_of, sum_lower}
use Rattle.rules.specs.Tracker.{open_of, step_all, advanced, interval_of, row_of, row_answer}
use Rattle.rules.specs.Claim.{accept_call}
use Rattle.rounding_cases.specs.Lines.{EveryLine}

pub every_line : EveryLine
unfolding residue_of clears_at flag_of next_of step_of in_half_hour latest_half_hour any_negative clearing u32_at i32_at prices lines pre_dispatch_prices pre_dispatch_lines event_of each bad_flags bad_status bad_price bad_flow pre_dispatch_zero pre_dispatch_inside bad_pre_dispatch interval_conditions interval_outcome inside_spans rising open_conditions open_outcome row_conditions row_outcome span assigned_of sum_lower open_of step_all advanced interval_of row_of row_answer accept_call flat_map
every_line = record { tight_below = refl; tight_above = refl; all_round_to_0 = refl; both_ways = refl; random_0 = refl; random_1 = refl }
