-- The length is judged first, then each record in its turn.
use Rattle.std.proofs.Common.{◌≡◌, refl, sym, ap, ◌∙◌, Ok, length, arith, take_all, below_more}
use Rattle.rules.specs.Record.{records_in}
use Rattle.rules.specs.Sets.{set_conditions, single_outcome}
use Rattle.rules.proofs.EndToEnd.{how_many}
use Rattle.rules.proofs.Sets.{refused_length, refused_record, none_refused}
use Rattle.tracker.proofs.InTurn.{in_its_turn, one_later, length_taken}
use Rattle.tracker.proofs.after_all.Goals as goal

pub returns-in-Err : goal.returns-in-Err
unfolding set_conditions
returns-in-Err c = rw (refused_length c.args.tracker c.args.bytes.now (sym (rw c.bad_records.ensures at c.when.ensures) ∙ c.in-Err.is)) refl

pub returns-in-Err-outcome : goal.returns-in-Err-outcome
unfolding set_conditions
returns-in-Err-outcome c =
    let t = c.args.tracker in
    let s = c.args.bytes.now in
    let i = c.loop-index.index in
    let was = c.loop-index.invariant in
    let these : c.as_chunks.result.0.now ≡ records_in s = c.as_chunks.ensures.front in
    let whole = length_taken s (sym (rw c.bad_records.ensures at c.when.ensures) ∙ c.in_default.is) in
    let e = sym (in_its_turn t c.as_chunks.result.0.now i was.is c.interval-answer.ensures.is) ∙ c.in-Err-outcome.is in
    rw (refused_record t s whole i (omega (arith, how_many s, ap length these, c.loop-index-test.true)) (rw these at was.accepted) c.in-Err-outcome.why (rw these at e)) refl

pub loop-index-preserved : goal.loop-index-preserved
loop-index-preserved c =
    let t = c.args.tracker in
    let bs = c.as_chunks.result.0.now in
    let i = c.loop-index.index in
    let was = c.loop-index.invariant in
    let p = c.interval-answer.ensures in
    record {
      came = p.came;
      is = one_later t bs i was.is p.is c.loop-index-test.true;
      accepted = below_more (λ k. single_outcome t bs k ≡ Ok tt) i was.accepted (sym (in_its_turn t bs i was.is p.is) ∙ c.in_default-outcome.is);
    }

pub returns : goal.returns
unfolding set_conditions
returns c =
    let s = c.args.bytes.now in
    let bs = c.as_chunks.result.0.now in
    let was = c.loop-index.invariant in
    let these : bs ≡ records_in s = c.as_chunks.ensures.front in
    let whole = length_taken s (sym (rw c.bad_records.ensures at c.when.ensures) ∙ c.in_default.is) in
    let all = none_refused c.args.tracker s whole (λ i l. (rw these at was.accepted) i (omega (arith, l, how_many s, ap length these, c.loop-index-test.false))) in
    rw (was.is, take_all c.loop-index.index bs c.loop-index-test.false, these, all) refl
