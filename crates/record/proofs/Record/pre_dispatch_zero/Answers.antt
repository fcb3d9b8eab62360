-- That all bytes from 104 on are 0 is what the definition asks of the sixteen numbers there.
use Rattle.std.proofs.Common.{◌∙◌, rules, arith}
use borrow.Author.Tests.{tests}
use lib.Dec.{eqb}
use Rattle.rules.specs.Refusal.{pre_dispatch_zero}
use Rattle.record.proofs.Each.{all_of_part, words_zero}
use Rattle.record.proofs.Record.pre_dispatch_zero.Goals as goal

pub returns : goal.returns
unfolding pre_dispatch_zero
returns c =
    rw (← c.self.view_is)
    (all_of_part (λ x. eqb x 0) c.self.inside.bytes.now 104 64 0 (omega arith) c.all.ensures.ran c.iter.ensures.rest (λ x b q k. search (rules, tests))
    ∙ words_zero c.self.inside.bytes.now 104 16)
