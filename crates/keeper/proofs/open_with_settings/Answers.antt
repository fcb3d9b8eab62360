-- The tracker's opening, and nothing kept.
use Rattle.std.proofs.Common.{ap, ◌∙◌}
use Rattle.tracker.specs.Promise.{opening_with}
use Rattle.keeper.specs.Keeper.{with_none_kept, keeper_open_of}
use Rattle.keeper.proofs.Promise.{keeper_open_promise}
use Rattle.keeper.proofs.open_with_settings.Goals as goal

pub returns : goal.returns
unfolding keeper_open_of
returns c = keeper_open_promise (opening_with c.args.first c.args.shares c.args.settings) (c.with_none_kept.ensures ∙ ap with_none_kept c.open_with_settings.ensures.is)
