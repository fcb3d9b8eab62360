-- The rows of records, each put in its turn to the tracker: some are in the merge, and the others follow.
-- Assumes nothing.
use Rattle.std.proofs.Common.{◌≡◌, refl, sym, ap, ◌∙◌, ℕ, ◌+◌, ◌*◌, ◌≤◌, ◌<◌, List, [], ◌∷◌, ◌++◌, Ok, Err, length, arith}
use Rattle.tracker.specs.Promise.{Came, Tracker, Refusal, Answer, OpenPromise, IntervalPromise, IntervalAfter, Call, Interval, run_calls, judged, of_directions, worked_from}
use Rattle.tracker.proofs.Promise.{came_ran}
use Rattle.journal_rules.specs.Internal.{rows_shown}
use Rattle.journal_rules.specs.Survivors.{survivors}
use Rattle.journal_rules.specs.Run.{opened_at, turn_conditions, opened_conditions, rows_in_turn}
use Rattle.journal_rules.proofs.EightDirections.{shown_worked}
use Rattle.journal_rules.proofs.RunInTurn.{opened, refused_in_turn, accepted_in_turn}
use Rattle.comparison.specs.declared.Entry.{Entry}
use Rattle.comparison.specs.Internal.{Rises, Merging, with_rows, rows_counted, entries_for}
use Rattle.beside.specs.Beside.{ours}
use Rattle.beside.proofs.RowsRise.{ours_append, rows_rise}

-- all rows of ours, where the journal starts at the first n
abbrev pub all : ℕ → List ℕ → List Entry
all first r = ours (rows_in_turn (opened_at first) [] (survivors r))

-- The tracker is the run of the calls made, one for each survivor, and bs are left. The run of all ends as that of these does; and if it ends well,
-- the figures that the merge will have with their rows are those that it would have had, as it was, with all rows.
pub record SoFar (first : ℕ) (r : List ℕ) (bs : List (List ℕ)) (t : Tracker) (m now : Merging) : Type 0 where
  pub calls : List Call
  pub ran : t ≡ run_calls (opened_at first) calls
  pub outcome : judged (opened_conditions first (survivors r)) ≡ judged (turn_conditions (opened_at first) calls bs)
  pub figures : judged (turn_conditions (opened_at first) calls bs) ≡ Ok tt
      → Rises m.left
      → (with_rows m (all first r) ≡ with_rows now (ours (rows_in_turn (opened_at first) calls bs))) × Rises now.left
  pub few : rows_counted now.figures + 8 * length bs ≤ 8 * length (survivors r)
  pub entries : entries_for now ≡ entries_for m

pub started : {first : ℕ} {r : List ℕ} {bs : List (List ℕ)} {a : Answer} {m : Merging}
    → bs ≡ survivors r
    → 0 < length (survivors r)
    → rows_counted m.figures ≡ 0
    → OpenPromise (opened_at first) a
    → a.outcome ≡ Ok tt
    → SoFar first r bs a.tracker m m
started {first} {r} {bs} {a} {m} q some none p e =
    rw q (record {
      calls = [];
      ran = p.ran;
      outcome = opened first p e (survivors r) some;
      figures = λ ok up. (refl, up);
      few = omega arith;
      entries = refl;
    })

module _ {first : ℕ} {r : List ℕ} {bs : List (List ℕ)} {t : Tracker} {m now : Merging} (l : SoFar first r bs t m now) where
  pub came : Came t
  came = came_ran (opened_at first) l.calls l.ran

  -- no survivor is left
  module _ (none : bs ≡ []) where
    pub ended : judged (opened_conditions first (survivors r)) ≡ Ok tt
    unfolding turn_conditions
    ended = l.outcome ∙ rw none refl

    pub taken : Rises m.left → (with_rows m (all first r) ≡ with_rows now []) × Rises now.left
    unfolding turn_conditions rows_in_turn
    taken = rw none at l.figures refl

  -- the next survivor
  module _ {b : List ℕ} {others : List (List ℕ)} (next : bs ≡ b ∷ others) {a : Answer} (p : IntervalPromise t b a) where
    call : IntervalAfter Interval (opened_at first) l.calls b a
    call = p.call (opened_at first) l.calls l.ran

    pub refused : {why : Refusal} → a.outcome ≡ Err why → judged (opened_conditions first (survivors r)) ≡ Err why
    refused e = l.outcome ∙ rw next (refused_in_turn (opened_at first) l.calls others call e)

    module _ (e : a.outcome ≡ Ok tt) where
      abbrev upto : List Call
      upto = l.calls ++ (Interval b ∷ [])

      -- its rows, and those of the records that follow
      split : ours (rows_in_turn (opened_at first) l.calls bs) ≡ ours (rows_shown a.tracker) ++ ours (rows_in_turn (opened_at first) upto others)
      unfolding rows_in_turn
      split =
          let o = opened_at first in
          let own = ap ours (sym (shown_worked a.tracker p.came o upto call.ran)) in
          rw next (ours_append (of_directions (worked_from o upto)) (rows_in_turn o upto others) ∙ ap (λ (l : List Entry). l ++ ours (rows_in_turn o upto others)) own)

      module _ {after : Merging} (figures : (rows : List Entry) → Rises (ours (rows_shown a.tracker) ++ rows) → Rises now.left
          → (with_rows now (ours (rows_shown a.tracker) ++ rows) ≡ with_rows after rows) × Rises after.left) (few : rows_counted after.figures ≤ rows_counted now.figures + 8) (entries : entries_for after ≡ entries_for now) where
        pub rows_taken : SoFar first r others a.tracker m after
        rows_taken =
            let o = opened_at first in
            record {
              calls = upto;
              ran = call.ran;
              outcome = l.outcome ∙ rw next (accepted_in_turn o l.calls others call e);
              figures = λ ok up.
                  let well : judged (turn_conditions o l.calls bs) ≡ Ok tt = rw next (accepted_in_turn o l.calls others call e ∙ ok) in
                  let before = l.figures well up in
                  let mine = figures (ours (rows_in_turn o upto others)) (rw split at (rows_rise o l.calls bs well)) before.1 in
                  (before.0 ∙ ap (with_rows now) split ∙ mine.0, mine.1);
              few = let n = ap length next in let f = l.few in omega arith;
              entries = entries ∙ l.entries;
            }
