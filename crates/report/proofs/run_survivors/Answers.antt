-- By the promise of the second call so many records as it counts lie in the buffer.
use Rattle.std.proofs.Common.{sym, ◌*◌, ◌≤◌, length, arith}
use lib.Seq.{length-take-le}
use Rattle.journal_rules.proofs.Promise.{survivors_inside}
use Rattle.report.proofs.run_survivors.Goals as goal

pub slice_bounds-records-end : goal.slice_bounds-records-end
slice_bounds-records-end g c =
    let k = c.survivors in
    omega (arith, k.auto.out, survivors_inside _ _ (rw c.in-Ok.is at k.ensures))

pub slice_bounds-as_chunks-end : goal.slice_bounds-as_chunks-end
slice_bounds-as_chunks-end g c =
    let k = c.survivors in
    let inside : 168 * c.in-Ok.count ≤ length k.new.out = omega (arith, k.auto.out, survivors_inside _ _ (rw c.in-Ok.is at k.ensures)) in
    sym (length-take-le _ _ inside)
