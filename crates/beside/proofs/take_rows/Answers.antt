-- A direction's row is taken, or it is passed over.
use Rattle.std.proofs.Common.{sym, ap, ◌∙◌, ◌+◌, ◌∷◌, ◌++◌, arith}
use Rattle.beside.proofs.ShownInTurn.{shown_from, negative_first, passed_over}
use Rattle.beside.proofs.take_rows.Goals as goal
use Rattle.beside.proofs.take_rows.Goals.{then-is_negative, else-is_negative}

pub loop-d-preserved : goal.loop-d-preserved
loop-d-preserved c =
    let i = c.loop-d.invariant in
    let d = c.loop-d.d in
    let behind = shown_from c.args.t.now (d + 1) in
    elim c.if-is_negative.branch [
      | then-is_negative w ↦
          let parts = negative_first c.row.ensures (omega (arith, c.loop-d-test.true)) (sym c.is_negative.ensures ∙ w.if-is_negative.true) ∙ ap (λ e. e ∷ behind) (sym w.as_entry.ensures) in
          let taken = w.take.ensures in
          rw w.merge-is (
            λ rows h up.
                let l = i.0 rows h up in
                let here = rw parts at l in
                let t = taken.figures (behind ++ rows) here.0 here.1 in
                (here.0.1, t.1, here.2 ∙ t.0),
            omega (arith, taken.counted.0, i.1),
            taken.counted.1 ∙ i.2,
          )
      | else-is_negative w ↦
          let same = passed_over c.row.ensures (omega (arith, c.loop-d-test.true)) (sym c.is_negative.ensures ∙ w.if-is_negative.false) in
          rw w.merge-is (λ rows h up. rw same at (i.0 rows h up), omega (arith, i.1), i.2)
    ]
