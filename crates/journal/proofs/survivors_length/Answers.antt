-- Each survivor has the length of a record.
use Rattle.std.proofs.Common.{◌≡◌, ap, ◌<◌, length, arith, rules, inl}
use Rattle.std.proofs.lemmas.Iterator.Consumers.{YieldsList-from_first, count_from_yields_List}
use Rattle.journal_rules.specs.Survivors.{survivors}
use Rattle.journal_rules.proofs.Survivors.{survivors_length_lem, no_more}
use Rattle.journal.proofs.survivors_length.Goals as goal

pub count-requires-clause-fits : goal.count-requires-clause-fits
count-requires-clause-fits c =
    let r = c.args.records.now in
    let short : length r < 18446744073709551616 = search rules in
    inl (omega (arith, short, ap length (c.among.ensures.survivors c.requires), no_more r))

counted : (c : goal.After-count) → c.count.result ≡ length (survivors c.args.records.now)
counted c = count_from_yields_List _ _ c.count.ensures.ran (YieldsList-from_first (λ x. x.now) (λ s. s) _ (c.among.ensures.survivors c.requires))

pub overflow_mul-result : goal.overflow_mul-result
overflow_mul-result c =
    let r = c.args.records.now in
    let short : length r < 18446744073709551616 = search rules in
    omega (arith, short, counted c, no_more r)

pub returns : goal.returns
returns c = omega (arith, counted c, survivors_length_lem c.args.records.now)
