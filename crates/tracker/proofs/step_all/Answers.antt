-- The array holds a step of each direction.
use Rattle.std.proofs.Common.{rules}
use borrow.Author.Tests.{tests}
use Rattle.rules.proofs.FromFn.{filled}
use Rattle.tracker.specs.Internal.{stepped}
use Rattle.tracker.proofs.step_all.Goals as goal

pub returns : goal.returns
returns c = filled (stepped c.args.settings c.args.events c.args.directions) (λ i y q k. search (rules, tests)) 8 c.from_fn.ensures.items
