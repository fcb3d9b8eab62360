-- What is printed has at most 17 digits.
use Rattle.std.proofs.Common.{arith, rules}
use Rattle.text.proofs.Decimal.{short_cell}
use Rattle.report.proofs.print_quantity.Goals as goal

pub quantity-requires : goal.quantity-requires
quantity-requires g c = let short = short_cell 16 (g.Q.Quantity.whole c.args.z) c.args.end (omega arith) in search rules
