-- As of one interval.
use Rattle.std.proofs.Common.{refl}
use Rattle.keeper.specs.Keeper.{keeper_set_of}
use Rattle.keeper.proofs.Promise.{came_tracker, keeper_set_promise}
use Rattle.keeper.proofs.set_of_intervals.Goals as goal

pub set_of_intervals-set_answer-requires : goal.set_of_intervals-set_answer-requires
set_of_intervals-set_answer-requires c = came_tracker c.args.keeper c.requires

pub returns : goal.returns
unfolding keeper_set_of
returns c = keeper_set_promise c.args.keeper c.requires c.args.bytes.now (rw (c.with_tracker.ensures, c.set_of_intervals-set_answer.ensures.is) refl)
