-- Once the prices pass, that all six lines pass is what is left of the definition.
use Rattle.std.proofs.Common.{rules}
use borrow.Author.Tests.{tests}
use Rattle.rules.specs.Refusal.{pre_dispatch_line_ok, pre_dispatch_inside}
use Rattle.record.proofs.Each.{all_below}
use Rattle.record.proofs.Record.pre_dispatch_inside.Goals as goal

pub returns-then-prices_ok : goal.returns-then-prices_ok
unfolding pre_dispatch_inside
returns-then-prices_ok c =
    rw (← c.prices_ok.ensures, c.if-prices_ok.true) (all_below (pre_dispatch_line_ok c.args.self.now) 6 c.all.ensures.ran (λ i b q k. search (rules, tests)))
