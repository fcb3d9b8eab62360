-- The records, then the four words of the trailer, each behind what is there already.
use Rattle.std.proofs.Common.{append_assoc}
use Rattle.words.proofs.Parts.{chained}
use Rattle.journal_rules.specs.Journal.{journal_of}
use Rattle.journal.proofs.fill.Goals as goal

pub returns : goal.returns
unfolding journal_of
returns c =
    let r = c.args.records.now in
    let all = chained (chained (chained (chained c.put_bytes-n.ensures c.put_u32-n.ensures) c.put_u32-n-2.ensures) c.put_u32-n-3.ensures) c.put_u32.ensures in
    simp (append_assoc, c.first_number.ensures, c.last_number.ensures) at all
