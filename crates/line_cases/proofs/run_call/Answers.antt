-- The line lies within the scratch, and so does none.
use Rattle.line_by_line.proofs.Promise.{inside}
use Rattle.line_cases.proofs.run_call.Goals as goal

pub split_at-requires : goal.split_at-requires
split_at-requires g c = rw c.unwrap_or.ensures (inside c.args.journal.now c.args.given c.in-Some.scratch.now c.next_line-answer.ensures)
