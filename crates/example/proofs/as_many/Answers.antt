-- Where there is no lowest, the last three figures are 0.
use Rattle.std.proofs.Common.{◌≡◌, refl, ap, ◌∙◌, false, not, Option, Some, None, arith}
use Rattle.std.specs.Prelude.{is_some}
use Rattle.example.proofs.as_many.Goals as goal

none : {A : Type 0} (o : Option A) → is_some o ≡ false → o ≡ None
none None e = refl
none (Some x) e = cc

pub returns-in-Ok : goal.returns-in-Ok
returns-in-Ok c = λ yes.
    let sums = c.compare.ensures.add_up c.in-Ok.is in
    let zero = sums.none.0 (none c.in-Ok.figures.lowest (c.is_none.ensures ∙ ap not yes)) in
    omega (arith, sums.of_entries, sums.of_rows, zero.0, zero.1, zero.2)
