-- An entry more is passed, or none is left.
use Rattle.std.proofs.Common.{◌≡◌, sym, ◌∙◌, ap, [], true, arith}
use Rattle.std.proofs.lemmas.List.Elements.{All-nil}
use Rattle.comparison.specs.Comparison.{is_lower}
use Rattle.comparison.specs.Internal.{counted}
use Rattle.comparison.proofs.Totals.{there_one}
use Rattle.comparison.proofs.Passed.{first_left, none_left, as_figures, added, passed, passed_counted, nothing_more}
use Rattle.comparison.proofs.Merge.end.Goals as goal

pub add-requires : goal.add-requires
add-requires c =
    let f = ap counted (as_figures c.self.inside.left.now c.self.view_is) in
    let i = c.loop-self.invariant in
    rw (c.there.ensures, there_one c.entry_of.result) (omega (arith, f, i.1, i.2, c.requires.0, c.requires.1), omega arith)

pub loop-self-preserved : goal.loop-self-preserved
loop-self-preserved c =
    let m = c.loop-self.self in
    let e = c.entry_of.result in
    let parts = first_left c.self.inside.left.now c.self.view_is c.in-len1-up.len_at_least c.entry_of.ensures in
    let n = passed_counted m parts in
    rw (added c.self.inside.left.now c.self.view_is c.add.ensures c.there.ensures) (
      λ up. let l = c.loop-self.invariant.0 up in let p = passed m parts [] (All-nil (λ y. is_lower e.key y.key ≡ true)) l.0 in (p.0, l.1 ∙ p.1),
      n.0 ∙ c.loop-self.invariant.1,
      n.1 ∙ c.loop-self.invariant.2,
    )

pub returns : goal.returns
returns c = λ up.
    let m = c.loop-self.self in
    as_figures c.self-2.inside.left.now c.self-2.view_is
    ∙ sym (nothing_more m (none_left c.self.inside.left.now c.self.view_is c.in_default.len_below))
    ∙ sym (c.loop-self.invariant.0 up).1
