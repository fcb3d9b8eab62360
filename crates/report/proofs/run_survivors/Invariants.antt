-- Each tracker came from an opening and calls.
use Rattle.tracker.specs.Promise.{Came}
use Rattle.report.proofs.run_survivors.Given as goal

abbrev pub invariant-loop-bytes : goal.invariant-loop-bytes
invariant-loop-bytes g l = Came l.now
