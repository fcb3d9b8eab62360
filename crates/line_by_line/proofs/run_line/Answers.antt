-- What the opening, and each record's call, tells of the line sought.
use Rattle.std.proofs.Common.{refl, ◌∙◌}
use Rattle.journal_rules.specs.Survivors.{survivors}
use Rattle.words.proofs.Parts.{nothing}
use Rattle.listing.proofs.LinesByCase.{unopened}
use Rattle.line_by_line.proofs.RunInTurn.{started, came, refused_here, shown, rows_passed, none_behind}
use Rattle.line_by_line.proofs.run_line.Goals as goal

pub returns-in-Err : goal.returns-in-Err
returns-in-Err c =
    let a = c.args in
    rw (unopened a.first (survivors a.records.now) c.open-opened.ensures c.in-Err.why c.in-Err.is) c.refusal_line.ensures

pub loop-bytes-init : goal.loop-bytes-init
loop-bytes-init c =
    let all = c.into_iter-bytes-iterator.ensures.into_iter_gives ∙ c.among-bytes-items.ensures.survivors c.requires.0 in
    (tt, tt, started all c.open-opened.ensures c.in_default.is c.args.k, refl)

pub interval-answer-requires : goal.interval-answer-requires
interval-answer-requires c = came c.loop-bytes.invariant.2

pub returns-in-Err-outcome : goal.returns-in-Err-outcome
returns-in-Err-outcome c =
    let l = c.loop-bytes.invariant in
    rw (refused_here l.2 c.in-Some.ensures.steps c.interval-answer.ensures c.in-Err-outcome.is, ← l.3) c.refusal_line-in-Err-outcome.ensures

pub returns-in-Found : goal.returns-in-Found
returns-in-Found c =
    let l = c.loop-bytes.invariant in
    rw (shown l.2 c.in-Some.ensures.steps c.interval-answer.ensures c.in_default-outcome.is c.in-Found.ensures.0, ← l.3) c.in-Found.ensures.1

pub loop-bytes-preserved : goal.loop-bytes-preserved
loop-bytes-preserved c =
    let l = c.loop-bytes.invariant in
    let more = c.in-Beyond.ensures in
    (tt, tt, rows_passed l.2 c.in-Some.ensures.steps c.interval-answer.ensures c.in_default-outcome.is c.in-Beyond.more more.0, more.1 ∙ l.3)

pub returns : goal.returns
returns c =
    let l = c.loop-bytes.invariant in
    rw (none_behind l.2 c.in-None.ensures.steps.0, l.3) (nothing c.args.out.now)
