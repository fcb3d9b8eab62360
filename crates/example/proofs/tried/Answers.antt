-- `example::tried` meets its contract: the run of the empty list, then the call at the list's end, then the row's claim, with what was given.
use Rattle.std.proofs.Common.{[], ◌∷◌, arith}
use Rattle.tracker.specs.Promise.{opening_with, Interval}
use Rattle.tracker.proofs.Promise.{accepted_as_given}
use Rattle.example.proofs.tried.Goals as goal

pub returns : goal.returns
returns c =
    let o = opening_with c.args.first c.args.shares c.args.settings in
    let one = (c.interval-one.ensures.call o [] c.open_with_settings-opened.ensures.ran).ran in
    (c.row.ensures.claim o (Interval c.args.bytes.now ∷ []) one (omega arith), accepted_as_given o)
