-- The keeper's tracker came from an opening and calls on it, and its answer is that of the keeper.
use Rattle.std.proofs.Common.{refl}
use Rattle.keeper.specs.Keeper.{keeper_interval_of}
use Rattle.keeper.proofs.Promise.{came_tracker, keeper_interval_promise}
use Rattle.keeper.proofs.interval.Goals as goal

pub interval-answer-requires : goal.interval-answer-requires
interval-answer-requires c = came_tracker c.args.keeper c.requires

pub returns : goal.returns
unfolding keeper_interval_of
returns c = keeper_interval_promise c.args.keeper c.requires c.args.bytes.now (rw (c.with_tracker.ensures, c.interval-answer.ensures.is) refl)
