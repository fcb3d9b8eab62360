-- That all eight status bytes pass is what the definition asks of each direction.
use Rattle.std.proofs.Common.{ap, not, rules, arith}
use borrow.Author.Tests.{tests}
use Rattle.rules.specs.Refusal.{status_ok, bad_status}
use Rattle.record.proofs.Each.{all_of_part}
use Rattle.record.proofs.Record.bad_status.Goals as goal

pub returns : goal.returns
unfolding bad_status
returns c =
    rw (← c.self.view_is)
    (ap not (all_of_part status_ok c.self.inside.bytes.now 5 8 0 (omega arith) c.all.ensures.ran c.iter.ensures.rest (λ x b q k. search (rules, tests))))
