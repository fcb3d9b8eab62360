-- The first condition met gives the refusal, and none the contents.
use Rattle.std.proofs.Common.{arith}
use Rattle.journal_rules.specs.Journal.{read_conditions, read_outcome, read_of}
use Rattle.journal_rules.proofs.Accept.{counted_part}
use Rattle.journal_rules.proofs.Promise.{read_promise}
use Rattle.journal.proofs.read.Goals as goal

pub returns-in_err-when : goal.returns-in_err-when
unfolding read_of read_outcome read_conditions
returns-in_err-when c = read_promise _ c.type_inv.journal (grind arith)

pub returns-in_err-when-2 : goal.returns-in_err-when-2
unfolding read_of read_outcome read_conditions
returns-in_err-when-2 c = read_promise _ c.type_inv.journal (grind arith)

pub returns-in_err-when-3 : goal.returns-in_err-when-3
unfolding read_of read_outcome read_conditions
returns-in_err-when-3 c = read_promise _ c.type_inv.journal (grind (arith, counted_part))

pub returns-in_err-when-4 : goal.returns-in_err-when-4
unfolding read_of read_outcome read_conditions
returns-in_err-when-4 c = read_promise _ c.type_inv.journal (grind (arith, counted_part))

pub returns : goal.returns
unfolding read_of read_outcome read_conditions
returns c = read_promise _ c.type_inv.journal (grind (arith, counted_part))
