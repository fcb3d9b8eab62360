-- The sum fits, since the tracker came from an opening and calls.
use Rattle.std.proofs.Common.{rules, arith, ◌≡◌, refl, not}
use Rattle.rules.specs.Interval.{is_swamped}
use Rattle.rules.specs.Tracker.{direction_of, row_of}
use Rattle.rules.proofs.StateBounds.{bounds}
use Rattle.tracker.proofs.row_of.Goals as goal

pub amount-requires : goal.amount-requires
amount-requires c = let b = (bounds c.args.t.now c.requires.0).each c.args.d c.requires.1 in record { amount = omega (arith, b.amount) }

pub returns : goal.returns
unfolding row_of
returns c =
    let applies : c.ne.result ≡ not (is_swamped (direction_of c.args.t.now c.args.d).clamp) = search rules in
    rw (applies, c.amount.ensures, c.notice_number.ensures) refl
