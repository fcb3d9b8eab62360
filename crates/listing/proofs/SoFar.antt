-- The lines of the survivors that were put to the tracker are in the buffer, and those of the others are left to put.
-- Assumes nothing.
use Rattle.std.proofs.Common.{◌≡◌, sym, ap, ◌∙◌, ℕ, ◌+◌, ◌-◌, ◌≤◌, List, [], ◌∷◌, ◌++◌, Ok, Err, length, arith, length-append, append_assoc, append-nil}
use mathlib.Core.List.{map, flatten}
use borrow.Rule.Slice.PartMut.{mid_of, put_mid}
use Rattle.words.specs.Buffer.{Puts}
use Rattle.words.proofs.Parts.{nothing, chained, room_behind, flatten-append}
use Rattle.tracker.specs.Promise.{Came, Tracker, Row, Refusal, number, Answer, OpenPromise, IntervalPromise, IntervalAfter, of_directions, worked_from, Call, Interval, run_calls}
use Rattle.tracker.proofs.Promise.{came_ran}
use Rattle.journal_rules.specs.Survivors.{survivors}
use Rattle.listing.specs.Internal.{row_text, rows_text}
use Rattle.listing.specs.Listing.{eight_rows, ended_by, run_lines, opened_lines}
use Rattle.journal_rules.specs.Run.{opened_at}
use Rattle.journal_rules.proofs.EightDirections.{shown_worked}
use Rattle.listing.proofs.LinesByCase.{printed, go_on, go_off, opened}

-- all lines, where the journal starts at the first n
abbrev pub all : ℕ → List ℕ → List ℕ
all first r = flatten (opened_lines first (survivors r))

-- the tracker is the run of the calls passed, one for each survivor, and bs are left; what was put into buffer d, which is `out` since, has n bytes
pub record SoFar (first : ℕ) (r : List ℕ) (bs : List (List ℕ)) (t : Tracker) (d : List ℕ) (n : ℕ) (out : List ℕ) : Type 0 where
  pub passed : List Call
  pub ran : t ≡ run_calls (opened_at first) passed
  pub put : List ℕ
  pub parts : all first r ≡ put ++ flatten (run_lines (opened_at first) passed bs)
  pub puts : Puts put d n out

pub started : {first : ℕ} {r : List ℕ} {bs : List (List ℕ)} {a : Answer}
    → bs ≡ survivors r
    → OpenPromise (opened_at first) a
    → a.outcome ≡ Ok tt
    → (d : List ℕ) → SoFar first r bs a.tracker d 0 d
started {first} {r} q p e d = record { passed = []; ran = p.ran; put = []; parts = rw q (ap flatten (opened first (survivors r) p e)); puts = nothing d }

module _ {first : ℕ} {r : List ℕ} {bs : List (List ℕ)} {t : Tracker} {d : List ℕ} {n : ℕ} {out : List ℕ} (l : SoFar first r bs t d n out) where
  pub came : Came t
  came = came_ran (opened_at first) l.passed l.ran

  pub ended : bs ≡ [] → Puts (all first r) d n out
  unfolding flatten run_lines
  ended e = rw (rw e at l.parts ∙ append-nil l.put) l.puts

  -- the next survivor
  module _ {b : List ℕ} {others : List (List ℕ)} (next : bs ≡ b ∷ others) {a : Answer} (p : IntervalPromise t b a) where
    call : IntervalAfter Interval (opened_at first) l.passed b a
    call = p.call (opened_at first) l.passed l.ran

    -- a refusal's line ends the listing
    module _ {why : Refusal} (e : a.outcome ≡ Err why) where
      last : all first r ≡ l.put ++ flatten (ended_by (number why))
      last = rw (next, go_off (opened_at first) l.passed others call why e) at l.parts

      pub refusal_room : length (all first r) ≤ length d → length (flatten (ended_by (number why))) ≤ length (mid_of n (length out - n) out)
      refusal_room f = room_behind (flatten (ended_by (number why))) l.puts (rw (← last) f)

      pub refusal_put : {k : ℕ} {tail : List ℕ} → Puts (flatten (ended_by (number why))) (mid_of n (length out - n) out) k tail
          → Puts (all first r) d (n + k) (put_mid n (length out - n) out tail)
      refusal_put q = rw last (chained l.puts q)

    -- the rows' lines go before those of the records that follow
    module _ (e : a.outcome ≡ Ok tt) where
      abbrev upto : List Call
      upto = l.passed ++ (Interval b ∷ [])

      split : all first r ≡ (l.put ++ rows_text a.tracker) ++ flatten (run_lines (opened_at first) upto others)
      split =
          let o = opened_at first in
          let own : flatten (eight_rows (worked_from o upto)) ≡ rows_text a.tracker =
          printed (of_directions (worked_from o upto)) ∙ ap (λ (rows : List Row). flatten (map row_text rows)) (sym (shown_worked a.tracker p.came o upto call.ran)) in
          let goes : flatten (run_lines o l.passed bs) ≡ rows_text a.tracker ++ flatten (run_lines o upto others) =
          rw (next, go_on o l.passed others call e, flatten-append, own) in
          l.parts ∙ ap (λ (w : List ℕ). l.put ++ w) goes ∙ sym (append_assoc l.put (rows_text a.tracker) (flatten (run_lines o upto others)))

      pub rows_room : length (all first r) ≤ length d → length (rows_text a.tracker) ≤ length (mid_of n (length out - n) out)
      rows_room f = let s = ap length split in room_behind (rows_text a.tracker) l.puts (omega (arith, length-append {A = ℕ}))

      pub rows_put : {k : ℕ} {tail : List ℕ} → Puts (rows_text a.tracker) (mid_of n (length out - n) out) k tail
          → SoFar first r others a.tracker d (n + k) (put_mid n (length out - n) out tail)
      rows_put q = record { passed = upto; ran = call.ran; put = l.put ++ rows_text a.tracker; parts = split; puts = chained l.puts q }
