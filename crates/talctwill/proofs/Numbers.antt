-- What the numbers of an answer tell: whether the call was refused, and why, and how long the line is.
-- Assumes nothing.
use Rattle.std.proofs.Common.{◌≡◌, ℕ, ◌<◌, List, Result, Ok, Err, length, refl, ap, ◌∙◌, arith}
use borrow.Author.Tests.{lt-ltb}
use Rattle.tracker.specs.Promise.{Refusal, number}
use Rattle.line_by_line.specs.NextLine.{least_scratch, next_line_conditions, next_line_outcome, next_line_of}
use Rattle.line_by_line.specs.Promise.{NextLinePromise}
use Rattle.talctwill.specs.declared.LineAnswer.{LineAnswer}
use Rattle.talctwill.specs.InNumbers.{in_numbers, LineInNumbers}

-- 0 for an acceptance, and for no refusal
pub accepted : (n : ℕ) → ((in_numbers (Ok n)).number ≡ 0) × ((in_numbers (Ok n)).length ≡ n)
accepted n = (refl, refl)

pub refused : (why : Refusal) → (0 < (in_numbers (Err why)).number) × ((in_numbers (Err why)).number ≡ number why)
refused why = (grind arith, refl)

module _ (journal : List ℕ) (given : ℕ) (d : List ℕ) where
  of_small : length d < least_scratch → in_numbers (next_line_of journal given (length d)) ≡ record { number = 21; length = 0 }
  unfolding next_line_of next_line_outcome next_line_conditions
  of_small h = rw (lt-ltb (length d) least_scratch h) refl

  -- the answer of the call, in numbers
  pub told : {answer : Result ℕ Refusal} {left : List ℕ} {numbers : LineAnswer} → NextLinePromise journal given d answer left → numbers ≡ in_numbers answer
      → LineInNumbers journal given d numbers left
  told p e = let is = e ∙ ap in_numbers p.is in record { is = is; promised = rw p.is at p; small = λ h. is ∙ of_small h }
