-- Answers as C has them, in numbers.
use Rattle.std.specs.Prelude.{◌≡◌, List, ℕ, Result, Ok, Err, ◌<◌, length}
use Rattle.tracker.specs.Promise.{Refusal, number}
use Rattle.line_by_line.specs.NextLine.{least_scratch, next_line_of}
use Rattle.line_by_line.specs.Promise.{NextLinePromise}
use Rattle.talctwill.specs.declared.LineAnswer.{LineAnswer}

-- The number of a refusal beside length 0, or 0, which is no refusal's, beside the line's length.
abbrev pub in_numbers : Result ℕ Refusal → LineAnswer
in_numbers (Ok n) = record { number = 0; length = n }
in_numbers (Err why) = record { number = number why; length = 0 }

-- The exported call answers in numbers as `next_line` does (N3), and leaves the scratch as that does: all that it promises holds. A scratch under 96
-- bytes is told by number 21.
pub record LineInNumbers (journal : List ℕ) (given : ℕ) (d : List ℕ) (answer : LineAnswer) (left : List ℕ) : Type 0 where
  pub is : answer ≡ in_numbers (next_line_of journal given (length d))
  pub promised : NextLinePromise journal given d (next_line_of journal given (length d)) left
  pub small : length d < least_scratch → answer ≡ record { number = 21; length = 0 }
