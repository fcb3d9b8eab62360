-- As the read, then by the room.
use Rattle.std.proofs.Common.{◌≡◌, ◌∙◌, ◌/◌, length, arith}
use Rattle.journal_rules.specs.Journal.{record_length, part}
use Rattle.journal_rules.specs.Survivors.{survivors, surviving_of, survivors_buffer}
use Rattle.journal_rules.proofs.Accept.{held_lem, part_length, refused_before, by_room}
use Rattle.journal_rules.proofs.Survivors.{survivors_length_lem, no_more}
use Rattle.journal_rules.proofs.Promise.{survivors_promise}
use Rattle.journal.proofs.survivors.Goals as goal

pub returns-in_err-read : goal.returns-in_err-read
unfolding surviving_of survivors_buffer
returns-in_err-read c =
    let r = refused_before c.args.journal.now (length c.args.out.now) c.in_err-read.ensures.is in
    survivors_promise _ _ (grind arith) (grind arith)

pub survivors_length-requires : goal.survivors_length-requires
survivors_length-requires c =
    let h = held_lem c.args.journal.now c.in_ok-read.ensures.is in
    rw (c.last_records-records.ensures ∙ h.records) h.passed.order

pub returns-in_err-when : goal.returns-in_err-when
unfolding surviving_of survivors_buffer
returns-in_err-when c =
    let s = c.args.journal.now in
    let h = held_lem s c.in_ok-read.ensures.is in
    let e = c.last_records-records.ensures ∙ h.records in
    let j = by_room s (length c.args.out.now) h.accepted in
    survivors_promise _ _ (grind arith) (grind arith)

pub put_survivors-n-requires : goal.put_survivors-n-requires
put_survivors-n-requires c =
    let h = held_lem c.args.journal.now c.in_ok-read.ensures.is in
    (rw (c.last_records-records.ensures ∙ h.records) h.passed.order, grind arith)

pub overflow_cast-result : goal.overflow_cast-result
overflow_cast-result c =
    let s = c.args.journal.now in
    let h = held_lem s c.in_ok-read.ensures.is in
    let e = c.last_records-records.ensures ∙ h.records in
    let put = rw e at c.put_survivors-n.ensures.counted in
    let shape = h.passed.shape in
    omega (arith, put, survivors_length_lem (part s), no_more (part s), part_length s shape, shape.back, shape.most)

pub returns : goal.returns
unfolding surviving_of survivors_buffer
returns c =
    let s = c.args.journal.now in
    let h = held_lem s c.in_ok-read.ensures.is in
    let e = c.last_records-records.ensures ∙ h.records in
    let j = by_room s (length c.args.out.now) h.accepted in
    let put = rw e at c.put_survivors-n.ensures in
    let n : c.put_survivors-n.result / record_length ≡ length (survivors (part s)) = omega (arith, put.counted, survivors_length_lem (part s)) in
    survivors_promise _ _ (grind arith) (grind arith)
