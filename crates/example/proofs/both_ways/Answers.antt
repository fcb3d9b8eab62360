-- `example::both_ways` meets its contract: the run of the empty list, then the call at the list's end, then the law of the two rows.
use Rattle.std.proofs.Common.{[], arith}
use Rattle.tracker.specs.Promise.{opening}
use Rattle.tracker.proofs.Promise.{corridor_rows}
use Rattle.example.proofs.both_ways.Goals as goal

pub returns : goal.returns
returns c latest =
    let o = opening c.args.first c.args.shares in
    let one = (c.interval-one.ensures.call o [] c.open-opened.ensures.ran).ran in
    corridor_rows {c = 1} c.row.ensures c.row-2.ensures (omega arith) o _ one c.args.bytes.now [] latest
