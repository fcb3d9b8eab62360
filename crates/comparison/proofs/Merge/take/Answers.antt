-- An entry more is passed, or the row is taken, with an entry or alone.
use Rattle.std.proofs.Common.{◌≡◌, ◌∙◌, ap, ◌∷◌, true, refl, ◌+◌, arith}
use Rattle.std.proofs.lemmas.List.Elements.{All-nil}
use Rattle.comparison.specs.Comparison.{same, is_lower, same_amount}
use Rattle.comparison.specs.Internal.{counted, Below, Rises}
use Rattle.comparison.proofs.Totals.{there_one, here_one, one_pair, below_all}
use Rattle.comparison.proofs.Passed.{behind, first_left, none_left, as_figures, added, passed, passed_counted, paired, paired_counted, alone, alone_counted}
use Rattle.comparison.proofs.Merge.take.Goals as goal
use Rattle.comparison.proofs.Merge.take.Goals.{in_default, in-len1-up+in-Greater}

pub add-requires : goal.add-requires
add-requires c =
    let f = ap counted (as_figures c.self.inside.left.now c.self.view_is) in
    let i = c.loop-self.invariant in
    rw (c.there.ensures, there_one c.entry_of-entry.result) (omega (arith, f, i.1, i.2, c.requires.0, c.requires.1), omega arith)

pub loop-self-preserved : goal.loop-self-preserved
loop-self-preserved c =
    let m = c.loop-self.self in
    let e = c.entry_of-entry.result in
    let parts = first_left c.self.inside.left.now c.self.view_is c.in-len1-up.len_at_least c.entry_of-entry.ensures in
    let n = passed_counted m parts in
    let before : is_lower e.key c.args.row.key ≡ true = grind arith in
    rw (added c.self.inside.left.now c.self.view_is c.add.ensures c.there.ensures) (
      λ rows h up. let l = c.loop-self.invariant.0 rows h up in let p = passed m parts (c.args.row ∷ rows) (below_all e c.args.row rows before h.0) l.0 in (p.0, l.1 ∙ p.1),
      n.0 ∙ c.loop-self.invariant.1,
      n.1 ∙ c.loop-self.invariant.2,
    )

pub returns-in-Equal-clause-figures : goal.returns-in-Equal-clause-figures
returns-in-Equal-clause-figures c =
    let m = c.loop-self.self in
    let e = c.entry_of-entry.result in
    let parts = first_left c.self.inside.left.now c.self.view_is c.in-len1-up.len_at_least c.entry_of-entry.ensures in
    let is : same c.args.row.key e.key ≡ true = grind arith in
    rw (added c.self.inside.left.now c.self.view_is c.add-in-Equal.ensures c.pair.ensures)
    (λ rows h up. let l = c.loop-self.invariant.0 rows h up in let p = paired m parts c.args.row is rows h l.0 in (l.1 ∙ p.0, p.1))

pub add-requires-in-Equal : goal.add-requires-in-Equal
add-requires-in-Equal c =
    let f = ap counted (as_figures c.self.inside.left.now c.self.view_is) in
    let i = c.loop-self.invariant in
    let e = c.entry_of-entry.result in
    let is : same c.args.row.key e.key ≡ true = grind arith in
    let one = one_pair c.args.row e is (same_amount e c.args.row) refl in
    rw c.pair.ensures (omega (arith, f, i.1, i.2, c.requires.0, c.requires.1), omega (arith, one.0, one.1))

pub returns-in-Equal-clause-counted : goal.returns-in-Equal-clause-counted
returns-in-Equal-clause-counted c =
    let m = c.loop-self.self in
    let i = c.loop-self.invariant in
    let e = c.entry_of-entry.result in
    let parts = first_left c.self.inside.left.now c.self.view_is c.in-len1-up.len_at_least c.entry_of-entry.ensures in
    let is : same c.args.row.key e.key ≡ true = grind arith in
    let n = paired_counted m parts c.args.row is in
    rw (added c.self.inside.left.now c.self.view_is c.add-in-Equal.ensures c.pair.ensures) (n.0 ∙ ap (λ k. k + 1) i.1, n.1 ∙ i.2)

pub add-requires-2 : goal.add-requires-2
add-requires-2 c =
    let i = c.loop-self.invariant in
    rw (c.here.ensures, here_one c.args.row) (omega (arith, i.1, i.2, c.requires.0, c.requires.1), omega arith)

-- what is left comes after the row
above : (c : goal.After-add-2) → Rises c.loop-self.self.left → Below c.args.row c.loop-self.self.left
above c up =
    let row = c.args.row in
    elim c.if-self-lt1.branch [
      | in_default w ↦ rw (none_left c.self.inside.left.now c.self.view_is w.in_default.len_below) (All-nil (λ y. is_lower row.key y.key ≡ true))
      | in-len1-up+in-Greater w ↦
          let e = w.entry_of-entry.result in
          let parts = first_left c.self.inside.left.now c.self.view_is w.in-len1-up.len_at_least w.entry_of-entry.ensures in
          let low : is_lower row.key e.key ≡ true = grind arith in
          rw parts (below_all row e (behind c.self.inside.left.now) low (rw parts at up).0)
    ]

pub returns-clause-figures : goal.returns-clause-figures
returns-clause-figures c =
    let m = c.loop-self.self in
    rw c.add-2.ensures (rw c.here.ensures
    (λ rows h up. let l = c.loop-self.invariant.0 rows h up in (l.1 ∙ alone m c.args.row rows h (above c l.0), l.0)))

pub returns-clause-counted : goal.returns-clause-counted
returns-clause-counted c =
    let n = alone_counted c.loop-self.self c.args.row in
    let i = c.loop-self.invariant in
    rw c.add-2.ensures (rw c.here.ensures (n.0 ∙ ap (λ k. k + 1) i.1, n.1 ∙ i.2))
