-- That all six lines pass is what the definition asks of each physical interconnector.
use Rattle.std.proofs.Common.{ap, not, rules}
use borrow.Author.Tests.{tests}
use Rattle.rules.specs.Refusal.{line_ok, bad_flow}
use Rattle.record.proofs.Each.{all_below}
use Rattle.record.proofs.Record.bad_flow.Goals as goal

pub returns : goal.returns
unfolding bad_flow
returns c = ap not (all_below (line_ok c.args.self.now) 6 c.all.ensures.ran (λ i b q k. search (rules, tests)))
