-- A scratch that is too short, the header, and a line behind it.
use Rattle.std.proofs.Common.{sym, ◌∙◌, ◌≡◌, ℕ, ◌-◌, List, [], get_or, arith}
use Rattle.std.proofs.lemmas.Grind.{get_or_tail}
use Rattle.listing.specs.Listing.{header, body_lines, lines_of, input_lines}
use Rattle.line_by_line.specs.NextLine.{line_after, next_line_conditions, next_line_outcome, next_line_of, scratch_after}
use Rattle.line_by_line.proofs.Checks.{room}
use Rattle.line_by_line.proofs.Promise.{promise, put}
use Rattle.line_by_line.proofs.next_line.Goals as goal

pub returns-in_err-when : goal.returns-in_err-when
unfolding next_line_of scratch_after next_line_outcome next_line_conditions
returns-in_err-when c = promise c.args.journal.now c.args.given c.args.scratch.now (grind arith) (grind arith)

pub returns-then-given-eq0 : goal.returns-then-given-eq0
unfolding header lines_of next_line_outcome next_line_conditions
returns-then-given-eq0 c =
    let a = c.args in
    let taken = room a.scratch.now (sym c.when.ensures ∙ c.in_ok-when.was) in
    put a.journal.now a.given a.scratch.now taken (rw c.if-given-eq0.true c.put_bytes.ensures)

-- the line behind the header
behind : (journal : List ℕ) (given : ℕ) → (given ≡ 0 → ⊥) → line_after journal given ≡ get_or (body_lines journal) (given - 1) []
unfolding lines_of input_lines
behind journal given h = get_or_tail header (body_lines journal) given [] (omega (arith, h))

pub returns-else-given-eq0 : goal.returns-else-given-eq0
unfolding next_line_outcome next_line_conditions
returns-else-given-eq0 c =
    let a = c.args in
    let taken = room a.scratch.now (sym c.when.ensures ∙ c.in_ok-when.was) in
    put a.journal.now a.given a.scratch.now taken (rw (behind a.journal.now a.given c.if-given-eq0.false) c.body_line.ensures)
