-- The keeper's tracker came from an opening and calls, and the keeper that the call leaves came from a call more.
use Rattle.keeper.proofs.Promise.{came_tracker, lent_came}
use Rattle.calls.proofs.interval_on_lent.Goals as goal

pub interval_on_lent-outcome-requires : goal.interval_on_lent-outcome-requires
interval_on_lent-outcome-requires g c = came_tracker c.args.now c.requires

pub print_answer-requires : goal.print_answer-requires
print_answer-requires g c = lent_came c.args.now c.interval_on_lent-outcome.ensures c.requires
