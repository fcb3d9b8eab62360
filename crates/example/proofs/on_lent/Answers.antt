-- `example::on_lent` meets its contract: the run of the empty list, then each call at the list's end, then the row's claim, also with none lent.
use Rattle.std.proofs.Common.{[], ◌∷◌, arith}
use Rattle.tracker.specs.Promise.{opening, Interval, Lent, Set}
use Rattle.tracker.proofs.Promise.{accepted_not_lent}
use Rattle.example.proofs.on_lent.Goals as goal

pub returns : goal.returns
returns c =
    let o = opening c.args.first c.args.shares in
    let one = (c.interval-one.ensures.call o [] c.open-opened.ensures.ran).ran in
    let own = (c.interval_on_lent.ensures.call o _ one).ran in
    let more = (c.set_of_intervals-more.ensures.call o _ own).ran in
    let claim = c.row.ensures.claim o _ more (omega arith) in
    (claim, rw (accepted_not_lent o (Interval c.args.earlier.now ∷ Lent c.args.later.now ∷ Set c.args.records.now ∷ [])) claim)
