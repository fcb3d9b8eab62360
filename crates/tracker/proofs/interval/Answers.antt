-- What is judged decides, and what the equation brings with it is the claim of the longer list.
use Rattle.std.proofs.Common.{refl, sym, ◌∙◌}
use Rattle.rules.specs.Refusal.{interval_outcome}
use Rattle.rules.specs.Tracker.{interval_of}
use Rattle.tracker.proofs.Promise.{interval_promise}
use Rattle.tracker.proofs.Advance.{is_record, is_refusal}
use Rattle.tracker.proofs.interval.Goals as goal

pub returns-in-Ok : goal.returns-in-Ok
unfolding interval_of
returns-in-Ok c =
    let r = is_record (interval_outcome c.args.tracker.awaited c.args.bytes.now) (sym c.accepted.ensures ∙ c.in-Ok.is) in
    interval_promise c.args.tracker c.requires c.args.bytes.now (rw (r.0, c.advanced.ensures, r.1) refl)

pub returns-in-Err : goal.returns-in-Err
unfolding interval_of
returns-in-Err c =
    let e = is_refusal (interval_outcome c.args.tracker.awaited c.args.bytes.now) c.args.bytes.now (sym c.accepted.ensures ∙ c.in-Err.is) in
    interval_promise c.args.tracker c.requires c.args.bytes.now (rw e refl)
