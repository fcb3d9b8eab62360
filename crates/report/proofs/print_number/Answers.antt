-- A number has at most 20 digits.
use Rattle.std.proofs.Common.{arith, rules}
use Rattle.text.proofs.Decimal.{short_count}
use Rattle.report.proofs.print_number.Goals as goal

pub number-requires : goal.number-requires
number-requires g c = let short = short_count 19 c.args.n c.args.end (omega arith) in search rules
