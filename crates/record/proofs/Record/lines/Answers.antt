-- The six lines are those that the definition lists.
use Rattle.std.proofs.Common.{rules}
use borrow.Author.Tests.{tests}
use Rattle.rules.specs.Record.{line_at, lines}
use Rattle.rules.proofs.FromFn.{filled}
use Rattle.record.proofs.Record.lines.Goals as goal

pub returns : goal.returns
unfolding lines
returns c = filled (line_at c.args.self.now) (λ i y q k. search (rules, tests)) 6 c.from_fn.ensures.items
