-- Every caller meets what the calls ask: an opening gives a tracker that came from an opening and calls, and a call keeps it. With them go the
-- laws that callers need: of ranges, conditions and tests, of records end to end and sets of them (N10), of lists with and without lent trackers
-- (N14), of one call more at the end of a list, and of the rows that the calls return.
-- Assumes nothing.
use mathlib.Core.Bool.{Bool, true, false, not, cond}
use mathlib.Core.List.{List, [], ◌∷◌, ◌++◌}
use mathlib.Core.Path.{◌≡◌, refl, sym, ap, subst, ◌∙◌}
use Prim.Native.Nat.{ℕ, ◌+◌, ◌*◌, ◌≤◌, ◌<◌}
use native.Mathlib.Omega.{arith}
use borrow.Author.Tests.{le-ltb, ltb-false}
use lib.Dec.{T, ltb}
use lib.IntN.{pos, nat_abs, ◌+ℤ◌, ◌-ℤ◌, ◌*ℤ◌}
use lib.ListN.{length}
use lib.Signed.{le_z}
use Rattle.rules.specs.declared.Event.{Event}
use Rattle.rules.specs.declared.Tracker.{Tracker}
use Rattle.rules.specs.declared.Row.{Row}
use Rattle.rules.specs.declared.Answer.{Answer}
use Rattle.rules.specs.declared.RowAnswer.{RowAnswer}
use Rattle.rules.specs.declared.SetAnswer.{SetAnswer}
use Rattle.std.specs.Prelude.{Ok, Err}
use Rattle.rules.specs.declared.Refusal.{Refusal}
use Rattle.rules.specs.declared.Refusal.TheVariants.{NoDirection}
use Rattle.rules.specs.Bounds.{RowBounds}
use Rattle.rules.specs.Refusal.{number_of, is_accepted, judged, open_conditions, open_outcome, interval_conditions, interval_outcome, row_conditions, row_outcome}
use Rattle.rules.specs.Residue.{together}
use Rattle.rules.specs.Record.{grains_in}
use Rattle.rules.specs.Tracker.{Opening, first_of, shares_of, settings_of, open_of, interval_of, residue_shown, row_of, no_row, row_answer}
use Rattle.rules.specs.Sets.{set_outcome, set_of}
use Rattle.rules.specs.Calls.{Call, Interval, Lent, Set, after_call, run_calls, singly}
use Rattle.rules.specs.History.{sum_since, estimate, under_review, lies_in}
use Rattle.rules.specs.Rounding.{assigned_span, unrounded}
use Rattle.rules.specs.Claim.{accepted, history, awaited_from, worked_from, Claim}
use Rattle.rules.proofs.Came as rules
use Rattle.rules.proofs.Sets.{by_single_calls}
use Rattle.rules.proofs.Replay.{replays}
use Rattle.rules.proofs.StateBounds.{row_bounds}
use Rattle.rules.proofs.CentsAndGrains.{none_left}
use Rattle.rules.proofs.Leftover.{rows_together}
pub use Rattle.signed.proofs.Calc.{inside}
pub use Rattle.rules.proofs.EachBelow.{both_true, both_false, below_or_last, each_at, each_by, each_fails, each_none, each_one_more, each_up_to, each_same, each_item, each_number}
pub use Rattle.rules.proofs.EndToEnd.{record_in, how_many}
pub use Rattle.rules.proofs.LentOrNot.{ran_not_lent, accepted_not_lent}
pub use Rattle.rules.proofs.Sets.{whole_records, only_whole_records, empty_set}
pub use Rattle.rules.proofs.UnreadIssue.{under_issue, issue_unread}
pub use Rattle.rules.proofs.TakenNumbers.{already_taken}
pub use Rattle.rules.proofs.Directions.{at_direction}
pub use Rattle.rules.proofs.AcceptedSettings.{none_given}
pub use Rattle.rules.proofs.Accepted.{accepted_iff, number_met_lem}
pub use Rattle.rules.proofs.FirstMet.{Passed, never, untested, pass, refused_at, accepted_past}
pub use Rattle.rules.proofs.ByClaim.{NoCause, not_without_cause, clamped_at, amount_is, amount_near, none_assigned, none_in_span}
pub use Rattle.rules.proofs.Refusals.{numbers}
pub use Rattle.rules.proofs.Came.{ran_singly, claim}
pub use Rattle.rules.proofs.OneCallMore.{refused_longer, accepted_longer, awaits_one_more, shows_awaited, refused_set, accepted_set, accepted_singly, worked_direction}
use Rattle.tracker.specs.Promise.{Came, OpenPromise, IntervalAfter, IntervalPromise, LentPromise, SetAfter, SetPromise, RowPromise}

pub came_open : (o : Opening) → Came (open_of o).tracker
came_open = rules.came_open

pub came_interval : (t : Tracker) → Came t → (b : List ℕ) → Came (interval_of t b).tracker
came_interval t came b = rules.came_after t came (Interval b)

pub came_set : (t : Tracker) → Came t → (s : List ℕ) → Came (set_of t s).tracker
came_set t came s = rules.came_after t came (Set s)

-- What a list of calls left came from an opening and calls.
pub came_ran : {t : Tracker} (o : Opening) (calls : List Call) → t ≡ run_calls o calls → Came t
came_ran o calls q = rw q (rules.came_calls o calls)

-- An accepted opening has the first n, the shares and the settings (N2) that were given.
pub accepted_as_given : (o : Opening) → judged (open_conditions o.first o.shares o.settings) ≡ Ok tt → (first_of o ≡ o.first) × (shares_of o ≡ o.shares) × (settings_of o ≡ o.settings)
unfolding open_outcome
accepted_as_given o ok = (rw ok, rw ok, rw ok)

-- A tracker keeps its settings (N2).
pub keeps_settings : (t : Tracker) (o : Opening) (calls : List Call) → t ≡ run_calls o calls → t.settings ≡ settings_of o
keeps_settings t o calls q = rw q (replays o calls).settings

-- what the equations of the calls bring with them
pub open_promise : (o : Opening) {r : Answer} → r ≡ open_of o → OpenPromise o r
unfolding run_calls open_of open_outcome
open_promise o e =
    rw e (record {
      is = refl;
      number = number_met_lem (open_conditions o.first o.shares o.settings);
      came = came_open o;
      ran = refl;
      claim = rules.claim (open_of o).tracker o [] refl;
    })

-- how an opening ends, by its conditions
pub open_outcome_lem : {o : Opening} {r : Answer} → OpenPromise o r → r.outcome ≡ judged (open_conditions o.first o.shares o.settings)
unfolding open_of open_outcome
open_outcome_lem p = ap (λ (r : Answer). r.outcome) p.is

module _ (t : Tracker) (o : Opening) (calls : List Call) (q : t ≡ run_calls o calls) where
  run_longer : (call : Call) → after_call t call ≡ run_calls o (calls ++ (call ∷ []))
  run_longer call = ap (λ (x : Tracker). after_call x call) q ∙ rules.run_call_on o calls call

  longer : (call : Call) → Claim o (calls ++ (call ∷ [])) (after_call t call)
  longer call = rules.claim (after_call t call) o (calls ++ (call ∷ [])) (run_longer call)

  awaits : t.awaited ≡ awaited_from o calls
  awaits = (rules.claim t o calls q).awaits

  -- of either kind of interval call, each of which leaves what the call on t gives
  interval_after : (kind : List ℕ → Call) (b : List ℕ) → after_call t (kind b) ≡ (interval_of t b).tracker → IntervalAfter kind o calls b (interval_of t b)
  unfolding interval_of interval_outcome
  interval_after kind b left =
      let outcome = ap (λ (n : ℕ). judged (interval_conditions n b)) awaits in
      record {
        outcome = outcome;
        number = ap number_of outcome ∙ number_met_lem (interval_conditions (awaited_from o calls) b);
        ran = sym left ∙ run_longer (kind b);
        claim = subst (Claim o (calls ++ (kind b ∷ []))) left (longer (kind b));
      }

  set_after : (s : List ℕ) → SetAfter o calls s (set_of t s)
  unfolding set_of
  set_after s =
      record {
        outcome = ap (λ (n : ℕ). set_outcome n s) awaits;
        ran = run_longer (Set s);
        claim = longer (Set s);
      }

pub interval_promise : (t : Tracker) → Came t → (b : List ℕ) {r : Answer} → r ≡ interval_of t b → IntervalPromise t b r
interval_promise t came b e = rw e (record { is = refl; came = came_interval t came b; call = λ o calls q. interval_after t o calls q Interval b refl })

-- a refused interval leaves the tracker as it was
refused_as_before : (t : Tracker) (b : List ℕ) {why : Refusal} → (interval_of t b).outcome ≡ Err why → (interval_of t b).tracker ≡ t
unfolding interval_of
refused_as_before t b e = rw e

pub lent_promise : (t : Tracker) (b : List ℕ) {r : Answer} → IntervalPromise t b r → LentPromise t b r.outcome r.tracker
lent_promise t b p =
    record {
      as_returned = p;
      as_before = λ e. ap (λ (x : Answer). x.tracker) p.is ∙ refused_as_before t b (sym (ap (λ (x : Answer). x.outcome) p.is) ∙ e);
      call = λ o calls q. rw p.is (interval_after t o calls q Lent b refl);
    }

pub set_promise : (t : Tracker) → Came t → (s : List ℕ) {r : SetAnswer} → r ≡ set_of t s → SetPromise t s r
set_promise t came s e =
    rw e (record {
      is = refl;
      single_calls = by_single_calls t s;
      came = came_set t came s;
      call = λ o calls q. set_after t o calls q s;
    })

-- the row of a direction that is there is shown
pub row_shown_lem : (t : Tracker) (d : ℕ) → d < 8 → (row_answer t d).row ≡ row_of t d
unfolding row_answer row_outcome row_conditions
row_shown_lem t d l = rw (le-ltb 7 d (omega arith))

-- the zero row beside 17, and so every row that a row call returns, is bounded
none_bounded : RowBounds no_row
none_bounded = record {
  n = omega arith;
  direction = omega arith;
  residue = omega arith;
  previous = omega arith;
  current = omega arith;
  amount = omega arith;
  next = omega arith;
  net = omega arith;
  clamp = omega arith;
  unsigned = refl;
  leftover = none_left;
}

row_bounded : (t : Tracker) → Came t → (d : ℕ) → RowBounds (row_answer t d).row
unfolding row_answer row_outcome row_conditions
row_bounded t came d = go (ltb 7 d) refl
  where
    go : (high : Bool) → ltb 7 d ≡ high → RowBounds (cond (is_accepted (cond high (Err NoDirection) (Ok tt))) (row_of t d) no_row)
    go true e = none_bounded
    go false e = row_bounds t came d (omega (arith, ltb-false 7 d e))

pub row_promise : (t : Tracker) → Came t → (d : ℕ) {r : RowAnswer} → r ≡ row_answer t d → RowPromise t d r
unfolding row_answer row_outcome
row_promise t came d e =
    rw e (record {
      is = refl;
      number = number_met_lem (row_conditions d);
      bounded = row_bounded t came d;
      claim = λ o calls q l. let m : d < 8 = omega arith in rw (row_shown_lem t d m) ((rules.claim t o calls q).each d m);
    })

-- A row has the direction asked for.
pub row_direction : {t : Tracker} {d : ℕ} {r : RowAnswer} → Came t → RowPromise t d r → d < 8 → r.row.direction ≡ d
row_direction {d = d} came row l =
    let o = came.opening in
    let calls = singly came.calls in
    ap (λ (x : Row). x.direction) (row.claim o calls came.is (omega arith)).is_worked ∙ worked_direction (settings_of o) (first_of o) d (history o d (accepted o calls))

-- After an accepted call a row has the n that was awaited. (The next awaited number is one more: `awaits_one_more`.)
pub row_number : {t : Tracker} {b : List ℕ} {a : Answer} {d : ℕ} {r : RowAnswer} (o : Opening) (calls : List Call)
    → t ≡ run_calls o calls
    → IntervalPromise t b a
    → a.outcome ≡ Ok tt
    → RowPromise a.tracker d r
    → d < 8
    → r.row.n ≡ awaited_from o calls
row_number {b = b} {d = d} o calls q call ok row l =
    let after = call.call o calls q in
    ap (λ (x : Row). x.n) (row.claim o (calls ++ (Interval b ∷ [])) after.ran (omega arith)).is_worked ∙ shows_awaited o calls b (sym after.outcome ∙ ok) d

-- Every row that is worked out from an opening and a list of calls is bounded.
pub worked_bounds : (o : Opening) (calls : List Call) (d : ℕ) → d < 8 → RowBounds (worked_from o calls d)
worked_bounds o calls d l =
    let row = row_promise (run_calls o calls) (came_ran o calls refl) d refl in
    subst RowBounds (row.claim o calls refl l).is_worked row.bounded

-- What a row returned says to a caller whose own opening and list of calls led to the tracker; es is the history of the row's direction.
module _ {t : Tracker} {d : ℕ} {r : RowAnswer} (promise : RowPromise t d r) (o : Opening) (calls : List Call) (q : t ≡ run_calls o calls) (below : d < 8) where
  abbrev es : List Event
  es = history o d (accepted o calls)

  -- With no cause in the last twelve accepted intervals the next interval does not lie in the row's period.
  pub row_without_cause : NoCause (settings_of o) es → T (not (lies_in (awaited_from o calls) r.row.period))
  row_without_cause = not_without_cause (promise.claim o calls q (omega arith))

  -- At the threshold of the opening's settings or less, and not under review, it lies in it.
  pub row_clamped : T (le_z ((sum_since es).0 +ℤ (estimate es).0) (settings_of o).threshold.0) → T (not (under_review es)) → T (lies_in (awaited_from o calls) r.row.period)
  row_clamped = clamped_at (promise.claim o calls q (omega arith))

  -- The row's amount is the sum since the latest clearing interval.
  pub row_amount : r.row.amount ≡ sum_since es
  row_amount = amount_is (promise.claim o calls q (omega arith))

  -- It differs from the unrounded sum by at most 1,200,000 grains for each interval in the span in which the grains were assigned to d (N9).
  pub row_near : nat_abs ((unrounded (shares_of o) d (accepted o calls)).0 -ℤ pos 2400000 *ℤ r.row.amount.0) ≤ 1200000 * length (assigned_span (shares_of o) d (accepted o calls))
  row_near = amount_near (promise.claim o calls q (omega arith))

-- Of the rows returned of a corridor's two directions: forward plus reverse cents, with their leftovers, make the corridor's grains in the latest
-- accepted record b (N8).
pub corridor_rows : {t : Tracker} {c : ℕ} {forward back : RowAnswer}
    → RowPromise t (2 * c) forward
    → RowPromise t (2 * c + 1) back
    → c < 4
    → (o : Opening) (calls : List Call) → t ≡ run_calls o calls
    → (b : List ℕ) (bs : List (List ℕ)) → accepted o calls ≡ b ∷ bs
    → together (residue_shown forward.row) (residue_shown back.row) ≡ grains_in (shares_of o) b c
corridor_rows {c = c} f g below o calls q b bs latest =
    rows_together o calls b bs latest c (f.claim o calls q (omega arith)).is_worked (g.claim o calls q (omega arith)).is_worked
