-- Each call gives the line behind those given, or none, where all are given.
use Rattle.std.proofs.Common.{◌≡◌, ℕ, ◌≤◌, List, Result, length, take, length-take-le, sym, ◌∙◌, arith}
use Rattle.std.proofs.KnownBytes.{Appends-nil, Appends-trans}
use Rattle.std.proofs.lemmas.List.{take_all}
use Rattle.std.specs.Result.{result_unwrap_or}
use mathlib.Core.List.{flatten}
use Rattle.tracker.specs.Promise.{Refusal}
use Rattle.line_by_line.specs.NextLine.{journal_lines, line_after}
use Rattle.line_by_line.specs.Promise.{NextLinePromise}
use Rattle.line_by_line.proofs.Promise.{inside, counted, there, all_given, one_left, few_lines, whole, one_more}
use Rattle.example.proofs.print_line_by_line.Goals as goal

pub loop-scratch-init : goal.loop-scratch-init
unfolding flatten
loop-scratch-init g c = (omega arith, Appends-nil _)

-- what a call from a scratch of 96 bytes gives: n bytes
module _ (journal : List ℕ) (given : ℕ) (d : List ℕ) {answer : Result ℕ Refusal} {left : List ℕ} {n : ℕ}
    (p : NextLinePromise journal given d answer left) (long : length d ≡ 96) (q : n ≡ result_unwrap_or answer 0) where
  is_length : n ≡ length (line_after journal given)
  is_length = q ∙ counted journal given d p (omega (arith, long))

  is_line : (n ≤ length left) × (take n left ≡ line_after journal given)
  is_line = rw q (inside journal given d p, there journal given d p (omega (arith, long)))

pub returns-then-n-eq0 : goal.returns-then-n-eq0
returns-then-n-eq0 g c =
    let l = c.loop-scratch in
    let journal = c.args.journal.now in
    let n = is_length journal l.given l.scratch c.next_line.ensures l.array_long c.unwrap_or-n.ensures in
    let all = all_given journal l.given l.scratch c.next_line.ensures (sym n ∙ c.if-n-eq0.true) in
    rw (take_all l.given (journal_lines journal) all, whole journal) at l.invariant.1

pub slice_bounds-scratch-end : goal.slice_bounds-scratch-end
slice_bounds-scratch-end g c =
    let l = c.loop-scratch in
    (is_line c.args.journal.now l.given l.scratch c.next_line.ensures l.array_long c.unwrap_or-n.ensures).0

pub slice_bounds-write_all-end : goal.slice_bounds-write_all-end
slice_bounds-write_all-end g c =
    let l = c.loop-scratch in
    let line = is_line c.args.journal.now l.given l.scratch c.next_line.ensures l.array_long c.unwrap_or-n.ensures in
    sym (length-take-le c.unwrap_or-n.result c.next_line.new.scratch line.0)

pub overflow_add-given : goal.overflow_add-given
overflow_add-given g c = omega (arith, few_lines c.args.journal.now, c.loop-scratch.invariant.0)

pub loop-scratch-smaller : goal.loop-scratch-smaller
loop-scratch-smaller g c =
    let l = c.loop-scratch in
    let n = is_length c.args.journal.now l.given l.scratch c.next_line.ensures l.array_long c.unwrap_or-n.ensures in
    let more = one_left c.args.journal.now l.given l.scratch c.next_line.ensures (λ e. c.if-n-eq0.false (n ∙ e)) in
    omega (arith, more)

pub loop-scratch-preserved : goal.loop-scratch-preserved
loop-scratch-preserved g c =
    let l = c.loop-scratch in
    let journal = c.args.journal.now in
    let n = is_length journal l.given l.scratch c.next_line.ensures l.array_long c.unwrap_or-n.ensures in
    let line = is_line journal l.given l.scratch c.next_line.ensures l.array_long c.unwrap_or-n.ensures in
    let more = one_left journal l.given l.scratch c.next_line.ensures (λ e. c.if-n-eq0.false (n ∙ e)) in
    (omega (arith, more), rw (one_more journal l.given more) (Appends-trans _ _ _ _ _ l.invariant.1 (rw line.1 at c.in_ok-write_all.ensures.bytes)))
