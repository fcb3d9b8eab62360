-- That all four prices pass is what the definition asks of each region.
use Rattle.std.proofs.Common.{rules}
use borrow.Author.Tests.{tests}
use Rattle.record.specs.Internal.{region_ok}
use Rattle.record.proofs.Each.{all_below}
use Rattle.record.proofs.Record.prices_ok.Goals as goal

pub returns : goal.returns
returns c = all_below (region_ok c.args.self.now c.args.first) 4 c.all.ensures.ran (λ i b q k. search (rules, tests))
