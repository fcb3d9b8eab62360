-- The call's answer, in numbers.
use Rattle.std.proofs.Common.{refl}
use Rattle.talctwill.proofs.Numbers.{told}
use Rattle.talctwill.proofs.talctwill_next_line.Goals as goal

pub returns-in-Ok : goal.returns-in-Ok
returns-in-Ok c = told c.args.journal.now c.args.given c.args.scratch.now c.next_line.ensures (rw c.in-Ok.is refl)

pub returns-in-Err : goal.returns-in-Err
returns-in-Err c = told c.args.journal.now c.args.given c.args.scratch.now c.next_line.ensures (rw (c.in-Err.is, c.from-in-Err.ensures, c.from.ensures) refl)
