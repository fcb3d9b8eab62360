-- Each turn adds the next physical interconnector's target; the sum stays small.
use Rattle.std.proofs.Common.{◌+◌, arith, add-one}
use Rattle.signed.proofs.Calc.{abs-add}
use Rattle.events.proofs.corridor_target.Goals as goal

pub loop-i-preserved : goal.loop-i-preserved
loop-i-preserved c =
    let before = c.loop-i.invariant in
    let target = c.target in
    record {
      lines = before.lines + 1;
      next = omega arith;
      is = rw (c.add-sum.ensures, add-one, before.is, target.ensures.is, before.next);
      small = rw c.add-sum.ensures (omega (arith, abs-add c.loop-i.sum.0 target.result.0));
    }
