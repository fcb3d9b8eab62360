-- Each direction's line behind those before it.
use Rattle.std.proofs.Common.{arith}
use Rattle.words.proofs.Parts.{no_part, part_room, part_put}
use Rattle.tracker.specs.Promise.{no_row}
use Rattle.listing.specs.Internal.{row_text}
use Rattle.journal_rules.specs.Internal.{rows_shown}
use Rattle.journal_rules.proofs.EightDirections.{shown_at}
use Rattle.listing.proofs.rows.Goals as goal

pub loop-d-init : goal.loop-d-init
loop-d-init c = no_part c.args.out.now

pub row_line-n-requires : goal.row_line-n-requires
row_line-n-requires c =
    let l = c.loop-d in
    let room = part_room row_text (rows_shown c.args.t.now) l.d no_row (omega (arith, c.loop-d-test.true)) l.invariant c.requires.1 in
    (c.row.ensures.bounded, rw (shown_at c.row.ensures (omega (arith, c.loop-d-test.true))) at room)

pub loop-d-preserved : goal.loop-d-preserved
loop-d-preserved c =
    let l = c.loop-d in
    let at = shown_at c.row.ensures (omega (arith, c.loop-d-test.true)) in
    part_put row_text (rows_shown c.args.t.now) l.d no_row (omega (arith, c.loop-d-test.true)) l.invariant (rw at c.row_line-n.ensures)
