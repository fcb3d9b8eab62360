-- What the call promises, by its answer and the scratch afterwards. And laws for callers: that the line lies within the scratch and is there, how
-- many lines there are at most, and that end to end they are what clampday prints.
-- Assumes nothing.
use Rattle.std.proofs.Common.{◌≡◌, ℕ, suc, ◌<◌, ◌≤◌, Bool, true, false, List, [], ◌∷◌, drop, Ok, Err, Result, length, take, refl, ap, ◌∙◌, arith}
use Rattle.std.specs.Result.{result_unwrap_or}
use Rattle.std.proofs.Math.Nat.{lt_of_not-le}
use Rattle.std.proofs.Math.Seq.{take-append_seam}
use Rattle.std.proofs.lemmas.Bool.{ltb-true}
use Rattle.std.proofs.lemmas.Grind.{common_steps}
use Rattle.std.proofs.lemmas.List.{get_or_past}
use borrow.Author.Tests.{ltb-false}
use lib.Dec.{ltb}
use mathlib.Core.Option.{Option}
use Rattle.words.specs.Buffer.{Puts}
use Rattle.tracker.specs.Promise.{Refusal, Outcome, number_of}
use Rattle.tracker.proofs.Promise.{number_met_lem}
use Rattle.journal_rules.specs.Promise.{unless_refused}
use Rattle.listing.specs.Listing.{longest_line}
use Rattle.line_by_line.specs.NextLine.{journal_lines, line_after, least_scratch, next_line_conditions, next_line_outcome, length_by, next_line_of, line_values, scratch_by, scratch_after}
use Rattle.line_by_line.specs.Promise.{NextLinePromise}
use Rattle.line_by_line.proofs.Checks.{taken, room}
use Rattle.line_by_line.proofs.EachLine.{each_fits}
use Rattle.line_by_line.proofs.EndToEnd.{end_to_end}
pub use Rattle.line_by_line.proofs.EachLine.{few_lines}
pub use Rattle.line_by_line.proofs.EndToEnd.{whole, one_more}

module _ (journal : List ℕ) (given : ℕ) (d : List ℕ) where
  no_longer : (inside : Bool) → ltb given (length (journal_lines journal)) ≡ inside → length (line_after journal given) ≤ longest_line
  no_longer true e = (each_fits journal given [] (ltb-true given (length (journal_lines journal)) e)).1
  no_longer false e = rw (get_or_past (journal_lines journal) given [] (ltb-false given (length (journal_lines journal)) e)) (omega arith)

  says : (o : Outcome) {n : Option ℕ}
      → number_of o ≡ n
      → (number_of (length_by o (line_after journal given)) ≡ n)
      × (line_values (length_by o (line_after journal given)) ≡ unless_refused n (length (line_after journal given) ∷ []))
  says (Ok done) e = (e, rw (← e) refl)
  says (Err why) e = (e, rw (← e) refl)

  pub promise : {answer : Result ℕ Refusal} {left : List ℕ} → answer ≡ next_line_of journal given (length d) → left ≡ scratch_after journal given d
      → NextLinePromise journal given d answer left
  unfolding next_line_of next_line_outcome
  promise e s =
      let told = says (next_line_outcome (length d)) (number_met_lem (next_line_conditions (length d))) in
      record {
        is = e;
        scratch = s;
        number = ap number_of e ∙ told.0;
        values = ap line_values e ∙ told.1;
        short = no_longer (ltb given (length (journal_lines journal))) refl;
        not_empty = λ h. (each_fits journal given [] h).0;
        beyond = get_or_past (journal_lines journal) given [];
        end_to_end = end_to_end journal;
      }

  -- of a scratch that is taken
  pub put : least_scratch ≤ length d → {n : ℕ} {left : List ℕ} → Puts (line_after journal given) d n left → NextLinePromise journal given d (Ok n) left
  unfolding next_line_of scratch_after
  put h p = promise (rw (taken d h, p.counted) refl) (rw (taken d h, p.bytes) refl)

-- ---- for callers: of the length answered, or 0 where the call is refused
module _ (journal : List ℕ) (given : ℕ) (d : List ℕ) where
  within : (o : Outcome) → length (line_after journal given) ≤ longest_line → (o ≡ Ok tt → least_scratch ≤ length d)
      → result_unwrap_or (length_by o (line_after journal given)) 0 ≤ length (scratch_by o (line_after journal given) d)
  within (Ok done) short room = let h = room refl in grind (arith, common_steps)
  within (Err why) short room = omega arith

  as_long : (o : Outcome) → length (line_after journal given) ≤ longest_line → (o ≡ Ok tt → least_scratch ≤ length d)
      → length (scratch_by o (line_after journal given) d) ≡ length d
  as_long (Ok done) short room = let h = room refl in grind (arith, common_steps)
  as_long (Err why) short room = refl

  module _ {answer : Result ℕ Refusal} {left : List ℕ} (p : NextLinePromise journal given d answer left) where
    -- so many bytes lie within the scratch
    pub inside : result_unwrap_or answer 0 ≤ length left
    unfolding next_line_of scratch_after
    inside = rw (p.is, p.scratch) (within (next_line_outcome (length d)) p.short (room d))

    -- a scratch can be lent again
    pub same_length : length left ≡ length d
    unfolding scratch_after
    same_length = rw p.scratch (as_long (next_line_outcome (length d)) p.short (room d))

    -- they are the line, from a scratch that is taken
    module _ (long : least_scratch ≤ length d) where
      pub counted : result_unwrap_or answer 0 ≡ length (line_after journal given)
      unfolding next_line_of
      counted = rw (p.is, taken d long) refl

      pub there : take (result_unwrap_or answer 0) left ≡ line_after journal given
      unfolding next_line_of scratch_after
      there = let line = line_after journal given in rw (p.is, p.scratch, taken d long) (take-append_seam line (drop (length line) d))

    -- where the line has no bytes, all lines are given,
    pub all_given : length (line_after journal given) ≡ 0 → length (journal_lines journal) ≤ given
    all_given none = omega (arith, lt_of_not-le {n = suc given} {m = length (journal_lines journal)} (λ more. absurd (omega (arith, none, p.not_empty more))))

    -- and else it is the one behind those given
    pub one_left : (length (line_after journal given) ≡ 0 → ⊥) → given < length (journal_lines journal)
    one_left some = lt_of_not-le (λ all. some (ap length (p.beyond all)))
