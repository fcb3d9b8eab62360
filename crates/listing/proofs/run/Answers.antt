-- What the opening, and each record's call, tells of the lines.
use Rattle.std.proofs.Common.{◌∙◌}
use Rattle.journal_rules.specs.Survivors.{survivors}
use Rattle.listing.proofs.LinesByCase.{unopened}
use Rattle.listing.proofs.SoFar.{started, came, refusal_room, refusal_put, rows_room, rows_put, ended}
use Rattle.listing.proofs.run.Goals as goal

pub refused-requires : goal.refused-requires
refused-requires c =
    let a = c.args in
    rw (unopened a.first (survivors a.records.now) c.open-opened.ensures c.in-Err.why c.in-Err.is) at c.requires.1

pub returns-in-Err : goal.returns-in-Err
returns-in-Err c =
    let a = c.args in
    rw (unopened a.first (survivors a.records.now) c.open-opened.ensures c.in-Err.why c.in-Err.is) c.refused.ensures

pub loop-bytes-init : goal.loop-bytes-init
loop-bytes-init c = (
  tt,
  tt,
  started (c.into_iter-bytes-iterator.ensures.into_iter_gives ∙ c.among-bytes-items.ensures.survivors c.requires.0) c.open-opened.ensures c.in_default.is c.args.out.now,
)

pub interval-answer-requires : goal.interval-answer-requires
interval-answer-requires c = came c.loop-bytes.invariant.2

pub refused-requires-in-Err-outcome : goal.refused-requires-in-Err-outcome
refused-requires-in-Err-outcome c = refusal_room c.loop-bytes.invariant.2 c.in-Some.ensures.steps c.interval-answer.ensures c.in-Err-outcome.is c.requires.1

pub returns-in-Err-outcome : goal.returns-in-Err-outcome
returns-in-Err-outcome c = refusal_put c.loop-bytes.invariant.2 c.in-Some.ensures.steps c.interval-answer.ensures c.in-Err-outcome.is c.refused-in-Err-outcome.ensures

pub rows-n-requires : goal.rows-n-requires
rows-n-requires c = (
  c.interval-answer.ensures.came,
  rows_room c.loop-bytes.invariant.2 c.in-Some.ensures.steps c.interval-answer.ensures c.in_default-outcome.is c.requires.1,
)

pub loop-bytes-preserved : goal.loop-bytes-preserved
loop-bytes-preserved c = (
  tt,
  tt,
  rows_put c.loop-bytes.invariant.2 c.in-Some.ensures.steps c.interval-answer.ensures c.in_default-outcome.is c.rows-n.ensures,
)

pub returns : goal.returns
returns c = ended c.loop-bytes.invariant.2 c.in-None.ensures.steps.0
