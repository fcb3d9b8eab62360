-- 22 or a kept state, by the outcome.
use Rattle.std.proofs.Common.{◌≡◌, refl, sym, Ok, Err}
use Rattle.keeper.specs.Keeper.{keep_outcome, keep_conditions, keep_of}
use Rattle.keeper.proofs.Promise.{keep_promise}
use Rattle.keeper.proofs.keep.Goals as goal

pub returns-in-Ok : goal.returns-in-Ok
unfolding keep_of keep_conditions
returns-in-Ok c =
    let e : keep_outcome c.args.number ≡ Ok tt = sym c.in-Ok.ensures in
    keep_promise c.args.keeper c.requires c.args.number (rw (c.when-outcome.ensures, e, c.with_kept-keeper.ensures) refl)

pub returns-in-Err : goal.returns-in-Err
unfolding keep_of keep_conditions
returns-in-Err c =
    let e : keep_outcome c.args.number ≡ Err c.in-Err.field-0 = sym c.in-Err.ensures in
    keep_promise c.args.keeper c.requires c.args.number (rw (c.when-outcome.ensures, e) refl)
