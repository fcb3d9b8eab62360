-- An accepted record's numbers are in range.
use Rattle.events.proofs.EventParts.{pre_dispatch_in_range}
use Rattle.events.proofs.pre_dispatch_residues.Goals as goal

pub residues-requires : goal.residues-requires
residues-requires c = rw (c.pre_dispatch_prices.ensures, c.pre_dispatch_lines.ensures) (pre_dispatch_in_range c.requires)
