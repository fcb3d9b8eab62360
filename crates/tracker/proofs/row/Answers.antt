-- By its outcome: 17 with the row of zeros, or the direction's row, which is the one worked out.
use Rattle.std.proofs.Common.{rules, ◌≡◌, refl, sym, Ok, Err}
use Rattle.rules.specs.Refusal.{row_conditions, row_outcome}
use Rattle.rules.specs.Tracker.{no_row, row_answer}
use Rattle.tracker.proofs.Promise.{row_promise}
use Rattle.tracker.proofs.row.Goals as goal

pub returns-in-Ok : goal.returns-in-Ok
unfolding row_answer row_outcome row_conditions
returns-in-Ok c =
    let e : row_outcome c.args.direction ≡ Ok tt = sym c.in-Ok.ensures in
    row_promise c.args.tracker.now c.requires c.args.direction (rw (c.when-outcome.ensures, e, c.row_of-row.ensures) refl)

pub returns-in-Err : goal.returns-in-Err
unfolding row_answer row_outcome row_conditions
returns-in-Err c =
    let e : row_outcome c.args.direction ≡ Err c.in-Err.field-0 = sym c.in-Err.ensures in
    let zeros : c.default-row.result ≡ no_row = search rules in
    row_promise c.args.tracker.now c.requires c.args.direction (rw (c.when-outcome.ensures, e, zeros) refl)
