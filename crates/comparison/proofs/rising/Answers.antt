-- The first two of the entries that are left.
use Rattle.std.proofs.Common.{◌≡◌, refl, sym, ap, ◌∙◌, true, false, arith}
use Rattle.comparison.specs.Comparison.{is_lower}
use Rattle.comparison.specs.Entries.{entries_in}
use Rattle.comparison.proofs.Passed.{all_behind}
use Rattle.comparison.proofs.EntriesRise.{rise, few_rise, first_rises}
use Rattle.comparison.proofs.rising.Goals as goal

pub loop-left-init : goal.loop-left-init
unfolding entries_in
loop-left-init c = ap rise (sym c.as_chunks.ensures.front)

pub returns-then-le : goal.returns-then-le
returns-then-le c =
    let low : is_lower c.key_of-in-len2-up.result c.key_of.result ≡ false = grind arith in
    sym (c.loop-left.invariant ∙ first_rises c.loop-left.left.now c.in-len2-up.len_at_least ∙ rw (← c.key_of-in-len2-up.ensures, ← c.key_of.ensures, low) refl)

pub loop-left-preserved : goal.loop-left-preserved
loop-left-preserved c =
    let low : is_lower c.key_of-in-len2-up.result c.key_of.result ≡ true = grind arith in
    c.loop-left.invariant
    ∙ first_rises c.loop-left.left.now c.in-len2-up.len_at_least
    ∙ rw (← c.key_of-in-len2-up.ensures, ← c.key_of.ensures, low) (ap rise (sym (all_behind c.loop-left.left.now)))

pub returns : goal.returns
returns c = sym (c.loop-left.invariant ∙ few_rise c.loop-left.left.now c.in_default.len_below)
