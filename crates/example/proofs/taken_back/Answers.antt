-- `example::taken_back` meets its contract: the run of the empty list, then each call at the list's end, then the row's claim for the path.
use Rattle.std.proofs.Common.{[], arith}
use Rattle.tracker.specs.Promise.{opening}
use Rattle.keeper.specs.Promise.{paths, keep_conditions, return_conditions}
use Rattle.example.proofs.taken_back.Goals as goal

pub returns : goal.returns
unfolding paths keep_conditions return_conditions
returns c =
    let o = opening c.args.first c.args.shares in
    let one = (c.interval-one.ensures.call o [] c.open-opened.ensures.ran).ran in
    let kept = (c.keep-kept.ensures.call o _ one).ran in
    let trial = (c.interval-trial.ensures.call o _ kept).ran in
    let back = (c.return_to-back.ensures.call o _ trial).ran in
    let other = (c.interval-other.ensures.call o _ back).ran in
    record {
      outcome = c.interval-other.ensures.outcome o _ back;
      claim = c.row.ensures.claim o _ other (omega arith);
    }
