-- The run's refusal, 24, 25, and the figures.
use Rattle.std.proofs.Common.{◌≡◌, sym, ap, ◌∙◌, Ok, Err, Result, arith}
use Rattle.tracker.specs.Promise.{Refusal, judged}
use Rattle.comparison.specs.declared.Comparison.{Comparison}
use Rattle.beside.specs.Beside.{entry_conditions}
use Rattle.comparison.specs.Internal.{Rises}
use Rattle.beside.specs.Beside.{our_rows}
use Rattle.beside.proofs.Promise.{refused_run, by_entries, entries_rise}
use Rattle.beside.proofs.compare.Goals as goal

pub returns-in_err-run_journal : goal.returns-in_err-run_journal
returns-in_err-run_journal c =
    let why = c.in_err-run_journal.field-0.0 in
    let gone : ◌≡◌ {A = Result Comparison Refusal} c.from_residual.result (Err why) = grind arith in
    refused_run c.args.journal.now c.args.entries.now (sym c.run_journal.ensures.outcome ∙ c.in_err-run_journal.was) gone

pub returns-in_err-when : goal.returns-in_err-when
unfolding entry_conditions
returns-in_err-when c =
    let why = c.in_err-when.field-0.0 in
    let gone : ◌≡◌ {A = Result Comparison Refusal} c.from_residual-in_err-when.result (Err why) = grind arith in
    let bad : judged (entry_conditions c.args.entries.now) ≡ Err why = grind arith in
    by_entries c.args.journal.now c.args.entries.now (sym c.run_journal.ensures.outcome ∙ c.in_ok-run_journal.was) bad gone

pub returns-in_err-when-2 : goal.returns-in_err-when-2
unfolding entry_conditions
returns-in_err-when-2 c =
    let why = c.in_err-when-2.field-0.0 in
    let gone : ◌≡◌ {A = Result Comparison Refusal} c.from_residual-in_err-when-2.result (Err why) = grind arith in
    let falling : judged (entry_conditions c.args.entries.now) ≡ Err why = grind arith in
    by_entries c.args.journal.now c.args.entries.now (sym c.run_journal.ensures.outcome ∙ c.in_ok-run_journal.was) falling gone

pub returns : goal.returns
unfolding entry_conditions our_rows
returns c =
    let s = c.args.journal.now in
    let b = c.args.entries.now in
    let ran = sym c.run_journal.ensures.outcome ∙ c.in_ok-run_journal.was in
    let good : judged (entry_conditions b) ≡ Ok tt = grind arith in
    let up : Rises c.new-merge.result.left = rw c.new-merge.ensures.left (entries_rise s b good) in
    let taken = c.run_journal.ensures.figures c.in_ok-run_journal.was up in
    by_entries s b ran good (ap Ok (c.end.ensures taken.1 ∙ sym taken.0 ∙ c.new-merge.ensures.figures (our_rows s)))
