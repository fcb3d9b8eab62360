-- Each turn adds the next line; the sums stay small.
use Rattle.std.proofs.Common.{arith}
use Rattle.signed.proofs.Calc.{sum_fits}
use Rattle.rules.specs.declared.Region.{Region}
use Rattle.residue.proofs.LineBounds.{line_in_range, line_small}
use Rattle.residue.proofs.CorridorSum.{one_more, sum_in_range, flow_in_range, all_lines}
use Rattle.residue.proofs.corridor.Goals as goal

-- A line's grains are small whichever price is which.
pub add-sum-requires : goal.add-sum-requires
add-sum-requires c =
    let r = c.corridor_at-at.result in
    let small = λ (to from : Region). line_small (line_in_range c.requires.1 to from c.loop-i.i) in
    rw (c.grains.ensures, c.price-to.ensures, c.price-from.ensures)
    (sum_fits c.loop-i.sum.0 _ (omega (arith, sum_in_range c.loop-i.invariant c.requires.1, small r.to r.from, small r.from r.to)))

pub add-flow-requires : goal.add-flow-requires
add-flow-requires c = sum_fits c.loop-i.flow.0 _ (omega (arith, flow_in_range c.loop-i.invariant c.requires.1, c.requires.1.flow c.loop-i.i))

pub loop-i-preserved : goal.loop-i-preserved
loop-i-preserved c =
    rw (c.add-sum.ensures, c.add-flow.ensures, c.grains.ensures, c.price-to.ensures, c.price-from.ensures, c.corridor_at-at.ensures.is)
    (one_more c.loop-i.invariant (rw (← c.corridor_at-at.ensures.is) c.loop-i-test.true))

pub in_cents-requires : goal.in_cents-requires
in_cents-requires c = sum_in_range c.loop-i.invariant c.requires.1

pub returns : goal.returns
returns c = rw (c.in_cents.ensures, c.is_negative.ensures) (all_lines c.loop-i.invariant (rw (← c.corridor_at-at.ensures.is) c.loop-i-test.false))
