-- The first condition met gives the refusal, and none the journal.
use Rattle.std.proofs.Common.{◌≡◌, length, arith}
use Rattle.std.specs.Prelude.{Ok}
use Rattle.journal_rules.specs.Journal.{write_conditions, write_outcome, written_of, buffer_of}
use Rattle.journal_rules.proofs.Accept.{writable}
use Rattle.journal_rules.proofs.Laws.{journal_length}
use Rattle.journal_rules.proofs.Promise.{write_promise}
use Rattle.journal.proofs.write.Goals as goal

pub returns-in_err-when : goal.returns-in_err-when
unfolding written_of buffer_of write_outcome write_conditions
returns-in_err-when c = write_promise _ _ c.type_inv.records (grind arith) (grind arith)

pub returns-in_err-when-2 : goal.returns-in_err-when-2
unfolding written_of buffer_of write_outcome write_conditions
returns-in_err-when-2 c = write_promise _ _ c.type_inv.records (grind arith) (grind arith)

pub returns-in_err-when-3 : goal.returns-in_err-when-3
unfolding written_of buffer_of write_outcome write_conditions
returns-in_err-when-3 c = write_promise _ _ c.type_inv.records (grind arith) (grind arith)

pub fill-requires : goal.fill-requires
unfolding write_outcome write_conditions
fill-requires c =
    let ok : write_outcome c.args.records.now (length c.args.out.now) ≡ Ok tt = grind arith in
    let w = writable _ _ ok in
    (w.records, w.fits)

pub returns : goal.returns
unfolding written_of buffer_of write_outcome write_conditions
returns c =
    let n = journal_length c.args.records.now in
    write_promise _ _ c.type_inv.records (grind arith) (grind arith)
