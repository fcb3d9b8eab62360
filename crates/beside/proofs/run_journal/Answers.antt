-- A journal that is not read, and the run of one that is.
use Rattle.std.proofs.Common.{◌≡◌, sym, ap, ◌∙◌, ℕ, List, Ok, Err, Result, [], arith}
use Rattle.tracker.specs.Promise.{Row, Refusal, Outcome, judged}
use Rattle.journal_rules.specs.declared.Contents.{Contents}
use Rattle.journal_rules.specs.Journal.{read_of}
use Rattle.journal_rules.specs.Survivors.{survivors}
use Rattle.journal_rules.specs.Internal.{last_records, counted_records}
use Rattle.journal_rules.specs.Run.{opened_at, opened_conditions, rows_in_turn}
use Rattle.journal_rules.proofs.RunInTurn.{unread, read_run, read_rows, read_order}
use Rattle.comparison.specs.Internal.{with_rows}
use Rattle.beside.specs.Beside.{ours}
use Rattle.beside.proofs.run_journal.Goals as goal

pub returns-in_err-contents-clause-outcome : goal.returns-in_err-contents-clause-outcome
returns-in_err-contents-clause-outcome c =
    let why = c.in_err-contents.field-0.0 in
    let gone : ◌≡◌ {A = Outcome} c.from_residual.result (Err why) = grind arith in
    gone ∙ sym (unread c.args.journal.now (sym c.in_err-contents.was ∙ c.read-found.ensures.is))

-- the records that are run, as the read counted them
module _ (s : List ℕ) {held : Contents} {found : Result Contents Refusal} (is : found ≡ read_of s) (was : found ≡ Ok held) where
  read : Ok held ≡ read_of s
  read = sym was ∙ is

  records : {r : List ℕ} → r ≡ counted_records found s → r ≡ last_records held.count s
  records e = e ∙ ap (λ (found : Result Contents Refusal). counted_records found s) was

pub run-requires : goal.run-requires
run-requires c =
    let s = c.args.journal.now in
    let is = c.read-found.ensures.is in
    (rw (records s is c.in_ok-contents.was c.counted_records.ensures) (read_order s (read s is c.in_ok-contents.was)), c.requires.0, c.requires.1)

pub returns-clause-outcome : goal.returns-clause-outcome
returns-clause-outcome c =
    let s = c.args.journal.now in
    let is = c.read-found.ensures.is in
    c.run.ensures.outcome
    ∙ ap (λ (r : List ℕ). judged (opened_conditions c.in_ok-contents.contents.first (survivors r))) (records s is c.in_ok-contents.was c.counted_records.ensures)
    ∙ sym (read_run s (read s is c.in_ok-contents.was))

pub returns-clause-figures : goal.returns-clause-figures
returns-clause-figures c = λ ok up.
    let s = c.args.journal.now in
    let is = c.read-found.ensures.is in
    let taken = c.run.ensures.figures ok up in
    let rows = read_rows s (read s is c.in_ok-contents.was)
    ∙ ap (λ (r : List ℕ). rows_in_turn (opened_at c.in_ok-contents.contents.first) [] (survivors r)) (sym (records s is c.in_ok-contents.was c.counted_records.ensures)) in
    (ap (λ (rows : List Row). with_rows c.args.merge.now (ours rows)) rows ∙ taken.0, taken.1)
