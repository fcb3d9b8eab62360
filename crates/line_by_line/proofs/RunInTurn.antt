-- The lines of records, each put in its turn to the tracker: some are passed, and the others follow.
-- Assumes nothing.
use Rattle.std.proofs.Common.{◌≡◌, sym, ap, ℕ, ◌+◌, ◌<◌, List, [], ◌∷◌, ◌++◌, Ok, Err, length, get_or}
use mathlib.Core.List.{map, flatten}
use Rattle.tracker.specs.Promise.{Came, Tracker, Row, Refusal, number, Answer, OpenPromise, IntervalPromise, IntervalAfter, Call, Interval, run_calls}
use Rattle.tracker.proofs.Promise.{came_ran}
use Rattle.journal_rules.specs.Survivors.{survivors}
use Rattle.listing.specs.Listing.{if_listed, ended_by, run_lines, opened_lines}
use Rattle.journal_rules.specs.Run.{opened_at}
use Rattle.journal_rules.proofs.EightDirections.{shown_worked}
use Rattle.listing.proofs.LinesByCase.{go_on, go_off, opened}
use Rattle.line_by_line.specs.Internal.{lines_shown}
use Rattle.line_by_line.proofs.Passed.{Passed, none_passed, found_in, found_here, passed_on, all_passed}

-- all lines, where the journal starts at the first n
abbrev pub all : ℕ → List ℕ → List (List ℕ)
all first r = opened_lines first (survivors r)

-- the tracker is the run of the calls made, one for each survivor, and bs are left; line k is sought, and in the lines of bs it is line `to_pass`
pub record SoFar (first : ℕ) (r : List ℕ) (bs : List (List ℕ)) (t : Tracker) (k to_pass : ℕ) : Type 0 where
  pub calls : List Call
  pub ran : t ≡ run_calls (opened_at first) calls
  pub passed : Passed (all first r) k (run_lines (opened_at first) calls bs) to_pass

pub started : {first : ℕ} {r : List ℕ} {bs : List (List ℕ)} {a : Answer}
    → bs ≡ survivors r
    → OpenPromise (opened_at first) a
    → a.outcome ≡ Ok tt
    → (k : ℕ) → SoFar first r bs a.tracker k k
started {first} {r} q p e k = record { calls = []; ran = p.ran; passed = rw (q, ← opened first (survivors r) p e) (none_passed (all first r) k) }

module _ {first : ℕ} {r : List ℕ} {bs : List (List ℕ)} {t : Tracker} {k to_pass : ℕ} (l : SoFar first r bs t k to_pass) where
  pub came : Came t
  came = came_ran (opened_at first) l.calls l.ran

  pub none_behind : bs ≡ [] → get_or (all first r) k [] ≡ []
  unfolding run_lines
  none_behind e = (all_passed (rw e at l.passed)).1

  -- the next survivor
  module _ {b : List ℕ} {others : List (List ℕ)} (next : bs ≡ b ∷ others) {a : Answer} (p : IntervalPromise t b a) where
    call : IntervalAfter Interval (opened_at first) l.calls b a
    call = p.call (opened_at first) l.calls l.ran

    -- a refusal's line ends the listing
    pub refused_here : {why : Refusal} → a.outcome ≡ Err why → get_or (all first r) k [] ≡ get_or (ended_by (number why)) to_pass []
    refused_here {why} e = rw (next, go_off (opened_at first) l.calls others call why e) at (found_in l.passed)

    -- the rows' lines go before those of the records that follow
    module _ (e : a.outcome ≡ Ok tt) where
      abbrev upto : List Call
      upto = l.calls ++ (Interval b ∷ [])

      abbrev behind : List (List ℕ)
      behind = run_lines (opened_at first) upto others

      split : run_lines (opened_at first) l.calls bs ≡ lines_shown a.tracker ++ behind
      split =
          let o = opened_at first in
          let own = ap (λ (rows : List Row). flatten (map if_listed rows)) (sym (shown_worked a.tracker p.came o upto call.ran)) in
          rw (next, go_on o l.calls others call e) (ap (λ (lines : List (List ℕ)). lines ++ behind) own)

      pub shown : to_pass < length (lines_shown a.tracker) → get_or (all first r) k [] ≡ get_or (lines_shown a.tracker) to_pass []
      shown h = (found_here l.passed (lines_shown a.tracker) behind split h).1

      pub rows_passed : (more : ℕ) → to_pass ≡ length (lines_shown a.tracker) + more → SoFar first r others a.tracker k more
      rows_passed more h = record { calls = upto; ran = call.ran; passed = passed_on l.passed (lines_shown a.tracker) behind split more h }
