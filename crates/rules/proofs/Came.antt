-- Every opening, and every call on a tracker that came from an opening and calls, gives such a tracker.
-- Assumes nothing.
use mathlib.Core.Path.{◌≡◌, refl, sym, ap, ◌∙◌}
use mathlib.Core.Bool.{true}
use mathlib.Core.List.{List, [], ◌∷◌, ◌++◌, foldl-append, map-append, reverse, reverse-cons}
use Prim.Native.Nat.{ℕ}
use Rattle.rules.specs.declared.Tracker.{Tracker}
use Rattle.rules.specs.Tracker.{Opening, open_of, accepts, advanced, after}
use Rattle.rules.specs.Calls.{Call, Interval, after_call, run_calls, singly, run}
use Rattle.rules.specs.Claim.{awaited_after, Came, Claim, accepted}
use Rattle.rules.proofs.Accepted.{Settled}
use Rattle.rules.proofs.AcceptedSettings.{settled}
use Rattle.rules.proofs.Sets.{after_taken}
use Rattle.rules.proofs.Lists.{after_every_list}
use Rattle.rules.proofs.Demand.{demand3}
use Rattle.rules.proofs.Replay.{Replays, replays}

-- one call more at the end of a list
pub run_call_on : (o : Opening) (calls : List Call) (call : Call) → after_call (run_calls o calls) call ≡ run_calls o (calls ++ (call ∷ []))
unfolding run_calls
run_call_on o calls call = sym (foldl-append after_call (open_of o).tracker calls (call ∷ []))

-- Every list of calls leaves the tracker that the single calls of its accepted records leave: sets give no other (N10).
pub ran_singly : (o : Opening) (calls : List Call) → run_calls o calls ≡ run o (reverse (accepted o calls))
unfolding run_calls
ran_singly o = after_every_list o (λ t bs. t ≡ run o (reverse bs)) one_more start
  where
    start : (open_of o).tracker ≡ run o []
    start = refl

    one_more : (t : Tracker) (bs : List (List ℕ)) (b : List ℕ) → t.awaited ≡ awaited_after o bs → t ≡ run o (reverse bs) → accepts t.awaited b ≡ true → advanced t b ≡ run o (reverse (b ∷ bs))
    one_more t bs b _ was e =
        sym (after_taken t b e)
        ∙ ap (λ (x : Tracker). after x b) was
        ∙ run_call_on o (singly (reverse bs)) (Interval b)
        ∙ ap (run_calls o) (sym (ap singly (reverse-cons b bs) ∙ map-append Interval (reverse bs) (b ∷ [])))

pub came_calls : (o : Opening) (calls : List Call) → Came (run_calls o calls)
came_calls o calls = record { opening = o; calls = reverse (accepted o calls); is = ran_singly o calls }

pub came_open : (o : Opening) → Came (open_of o).tracker
unfolding run_calls
came_open o = came_calls o []

pub came_after : (t : Tracker) → Came t → (call : Call) → Came (after_call t call)
came_after t c call =
    let longer = ap (λ (x : Tracker). after_call x call) c.is ∙ run_call_on c.opening (singly c.calls) call in
    rw longer (came_calls c.opening (singly c.calls ++ (call ∷ [])))

-- demand 3 holds of every tracker that an opening and a list of calls left
pub claim : (t : Tracker) (o : Opening) (calls : List Call) → t ≡ run_calls o calls → Claim o calls t
claim t o calls e = rw e (demand3 o calls)

-- such a tracker is the accepted records replayed
pub replayed : (t : Tracker) (c : Came t) → Replays c.opening t (accepted c.opening (singly c.calls))
replayed t c = rw c.is (replays c.opening (singly c.calls))

-- and its settings are accepted ones (N2)
pub settings_settled : (t : Tracker) → Came t → Settled t.settings
settings_settled t c = rw (replayed t c).settings (settled c.opening)
