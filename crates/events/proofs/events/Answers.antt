-- What is put together is what the record says of each direction.
use Rattle.std.proofs.Common.{◌∙◌}
use Rattle.rules.specs.Record.{residue}
use Rattle.residue.proofs.ResidueArray.{each_size, in_range_size}
use Rattle.events.proofs.EventParts.{interval_in_range, events_are}
use Rattle.events.proofs.events.Goals as goal

pub residues-residues-requires : goal.residues-residues-requires
residues-residues-requires c = rw (c.prices.ensures, c.lines.ensures) (interval_in_range c.requires)

pub loop_sum-requires : goal.loop_sum-requires
loop_sum-requires c =
    each_size (residue c.args.shares c.args.r.now) (in_range_size (interval_in_range c.requires))
    (rw (c.prices.ensures, c.lines.ensures) at c.residues-residues.ensures)

pub returns : goal.returns
returns c =
    c.events.ensures
    ∙ events_are c.args.shares c.args.r c.header-header.ensures
    (rw (c.prices.ensures, c.lines.ensures) at c.residues-residues.ensures) c.pre_dispatch_residues.ensures c.loop_sum.ensures
