-- The six lines of pre-dispatch are those that the definition lists.
use Rattle.std.proofs.Common.{rules}
use borrow.Author.Tests.{tests}
use Rattle.rules.specs.Record.{pre_dispatch_line_at, pre_dispatch_lines}
use Rattle.rules.proofs.FromFn.{filled}
use Rattle.record.proofs.Record.pre_dispatch_lines.Goals as goal

pub returns : goal.returns
unfolding pre_dispatch_lines
returns c = filled (pre_dispatch_line_at c.args.self.now) (λ i y q k. search (rules, tests)) 6 c.from_fn.ensures.items
