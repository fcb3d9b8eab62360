-- A direction's line is the one sought, or it is passed.
use Rattle.std.proofs.Common.{◌≡◌, [], ◌∷◌, ◌+◌, length, ap, arith}
use Rattle.listing.specs.Line.{line_of}
use Rattle.listing.proofs.LineLength.{line_short}
use Rattle.line_by_line.specs.Internal.{lines_shown}
use Rattle.line_by_line.proofs.Passed.{Passed, found_here, passed_on, all_passed}
use Rattle.line_by_line.proofs.ShownInTurn.{shown_from, listed_first, passed_over, all_shown}
use Rattle.line_by_line.proofs.shown_line.Goals as goal
use Rattle.line_by_line.proofs.shown_line.Goals.{then-listed+else-to_pass-eq0, else-listed}

pub line-requires : goal.line-requires
line-requires c =
    let bounded = c.row.ensures.bounded in
    (bounded, omega (arith, line_short c.row.result.row bounded, c.requires.1, ap length c.loop-d.invariant.1))

pub returns-then-to_pass-eq0 : goal.returns-then-to_pass-eq0
returns-then-to_pass-eq0 c =
    let l = c.loop-d in
    let behind = shown_from c.args.t.now (l.d + 1) in
    let parts = listed_first c.row.ensures (omega (arith, c.loop-d-test.true)) c.if-listed.ensures in
    let here = found_here l.invariant.0 (line_of c.row.result.row ∷ []) behind parts (omega (arith, c.if-to_pass-eq0.true)) in
    (here.0, rw (here.1, c.if-to_pass-eq0.true, ← l.invariant.1) c.line.ensures)

pub loop-d-preserved : goal.loop-d-preserved
loop-d-preserved c =
    let l = c.loop-d in
    let behind = shown_from c.args.t.now (l.d + 1) in
    let next : Passed (lines_shown c.args.t.now) c.args.k behind c.if-listed.to_pass = elim c.if-listed.branch [
      | then-listed+else-to_pass-eq0 w ↦ passed_on l.invariant.0 (line_of c.row.result.row ∷ []) behind (listed_first c.row.ensures (omega (arith, c.loop-d-test.true)) w.if-listed.ensures) c.if-listed.to_pass (omega (arith, w.to_pass-is, w.if-to_pass-eq0.false))
      | else-listed w ↦ passed_on l.invariant.0 [] behind (passed_over c.row.ensures (omega (arith, c.loop-d-test.true)) w.if-listed.ensures) c.if-listed.to_pass (omega (arith, w.to_pass-is))
    ] in
    (next, l.invariant.1)

pub returns : goal.returns
returns c =
    let l = c.loop-d in
    let at : l.d ≡ 8 = omega (arith, c.loop-d-test.false, l.auto.d-end) in
    ((all_passed (rw (at, all_shown c.args.t.now) at l.invariant.0)).0, l.invariant.1)
