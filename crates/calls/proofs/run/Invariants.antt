-- Each keeper came from an opening and calls.
use Rattle.keeper.specs.Promise.{CameKeeper}
use Rattle.calls.proofs.run.Given as goal

abbrev pub invariant-loop-call : goal.invariant-loop-call
invariant-loop-call g l = CameKeeper l.now
