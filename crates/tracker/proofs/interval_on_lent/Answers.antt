-- The lent tracker holds what the interval call returns, and the answer is that call's.
use Rattle.tracker.proofs.Promise.{lent_promise}
use Rattle.tracker.proofs.interval_on_lent.Goals as goal

pub returns : goal.returns
returns c = lent_promise c.args.tracker.now c.args.bytes.now c.interval-answer.ensures
