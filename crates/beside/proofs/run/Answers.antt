-- What the opening, and each record's call, tells of the run.
use Rattle.std.proofs.Common.{◌≡◌, refl, sym, ◌∙◌, ℕ, ◌≤◌, ◌<◌, List, true, Err, length, arith}
use Rattle.tracker.specs.Promise.{Outcome}
use Rattle.journal_rules.specs.Journal.{in_order}
use Rattle.journal_rules.specs.Survivors.{survivors}
use Rattle.journal_rules.specs.Run.{opened_conditions, rows_in_turn}
use Rattle.journal_rules.proofs.RunInTurn.{none_survive, unopened}
use Rattle.journal_rules.proofs.Survivors.{no_more, some_survive}
use Rattle.beside.proofs.RunInTurn.{started, came, ended, taken, refused, rows_taken}
use Rattle.beside.proofs.run.Goals as goal

-- records long enough for one have a survivor
some : (r : List ℕ) → in_order r ≡ true → 168 ≤ length r → 0 < length (survivors r)
some r order l = some_survive r order (omega arith)

pub returns-then-records-lt-RECORD-clause-outcome : goal.returns-then-records-lt-RECORD-clause-outcome
unfolding opened_conditions
returns-then-records-lt-RECORD-clause-outcome c = rw (none_survive c.args.records.now c.if-records-lt-RECORD.true) refl

pub returns-then-records-lt-RECORD-clause-figures : goal.returns-then-records-lt-RECORD-clause-figures
unfolding rows_in_turn
returns-then-records-lt-RECORD-clause-figures c = λ ok up. rw (none_survive c.args.records.now c.if-records-lt-RECORD.true) (refl, up)

pub returns-in_err-opened-clause-outcome : goal.returns-in_err-opened-clause-outcome
returns-in_err-opened-clause-outcome c =
    let why = c.in_err-opened.field-0.0 in
    let gone : ◌≡◌ {A = Outcome} c.from_residual.result (Err why) = grind arith in
    gone ∙ sym (unopened c.args.first c.open-opened.ensures c.in_err-opened.was (survivors c.args.records.now) (some c.args.records.now c.requires.0 (omega (arith, c.if-records-lt-RECORD.false))))

pub loop-bytes-init : goal.loop-bytes-init
loop-bytes-init c =
    let r = c.args.records.now in
    let all = c.into_iter-bytes-iterator.ensures.into_iter_gives ∙ c.among-bytes-items.ensures.survivors c.requires.0 in
    (tt, tt, started all (some r c.requires.0 (omega (arith, c.if-records-lt-RECORD.false))) c.requires.1 c.open-opened.ensures c.in_ok-opened.was)

pub interval-answer-requires : goal.interval-answer-requires
interval-answer-requires c = came c.loop-bytes.invariant.2

pub returns-in_err-answer-clause-outcome : goal.returns-in_err-answer-clause-outcome
returns-in_err-answer-clause-outcome c =
    let why = c.in_err-answer.field-0.0 in
    let gone : ◌≡◌ {A = Outcome} c.from_residual-in_err-answer.result (Err why) = grind arith in
    gone ∙ sym (refused c.loop-bytes.invariant.2 c.in-Some.ensures.steps c.interval-answer.ensures c.in_err-answer.was)

pub returns-in_err-answer-clause-counted : goal.returns-in_err-answer-clause-counted
returns-in_err-answer-clause-counted c = let l = c.loop-bytes.invariant.2 in (omega (arith, l.few, no_more c.args.records.now), l.entries)

pub take_rows-requires : goal.take_rows-requires
take_rows-requires c =
    let l = c.loop-bytes.invariant.2 in
    (c.interval-answer.ensures.came, omega (arith, l.few, no_more c.args.records.now), omega (arith, l.entries, c.requires.2))

pub loop-bytes-preserved : goal.loop-bytes-preserved
loop-bytes-preserved c =
    let t = c.take_rows.ensures in
    (tt, tt, rows_taken c.loop-bytes.invariant.2 c.in-Some.ensures.steps c.interval-answer.ensures c.in_ok-answer.was t.figures t.counted.0 t.counted.1)

pub returns-clause-outcome : goal.returns-clause-outcome
returns-clause-outcome c = sym (ended c.loop-bytes.invariant.2 c.in-None.ensures.steps.0)

pub returns-clause-figures : goal.returns-clause-figures
returns-clause-figures c = λ ok up. taken c.loop-bytes.invariant.2 c.in-None.ensures.steps.0 up

pub returns-clause-counted : goal.returns-clause-counted
returns-clause-counted c = let l = c.loop-bytes.invariant.2 in (omega (arith, l.few, no_more c.args.records.now), l.entries)
