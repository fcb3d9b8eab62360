-- Every caller meets what the calls ask: an opening gives a keeper that came from an opening and calls, and so does every call on one. With that go
-- the laws that callers need: when a keep and a return are accepted, what the path is after them, and of a keeper whose tracker was lent (N14).
-- Assumes nothing.
use mathlib.Core.Path.{◌≡◌, refl, sym, ap, subst, ◌∙◌}
use mathlib.Core.List.{List, [], ◌∷◌, ◌++◌, foldl-append}
use Prim.Native.Nat.{ℕ, ◌≤◌}
use Rattle.std.specs.Prelude.{Ok, Option, Some, None, is_none, option_map}
use Rattle.tracker.specs.Promise.{Tracker, Answer, RowAnswer, Outcome, Opening, Interval, Lent, Set, Came, Claim, LentPromise, RowPromise, is_accepted, after_call, run_calls}
use Rattle.tracker.proofs.Promise.{came_ran, open_promise, interval_promise, set_promise, claim, number_met_lem}
use Rattle.keeper.specs.declared.Keeper.{Keeper}
use Rattle.keeper.specs.declared.KeeperAnswer.{KeeperAnswer}
use Rattle.keeper.specs.declared.KeeperSetAnswer.{KeeperSetAnswer}
use Rattle.keeper.specs.Keeper.{kept_under, with_tracker, keeper_open_of, keeper_interval_of, keeper_set_of, highest_place, keep_outcome, return_outcome, keep_conditions, return_conditions, keep_of, return_of, KeeperCall, OnTracker, Keep, Return, after_keeper_call, run_keeper}
use Rattle.keeper.specs.Paths.{Path, path, path_under, NoneKeepsUnder}
use Rattle.keeper.specs.Claim.{KeeperClaim, CameKeeper}
use Rattle.keeper.specs.Promise.{KeeperAfter, KeeperOpenPromise, KeeperIntervalPromise, KeeperSetPromise, KeepPromise, ReturnPromise, KeeperRowPromise}
use Rattle.keeper.proofs.Checks.{return_accepted, return_refused, no_place_to_return}
use Rattle.keeper.proofs.Paths.{stays_either_way, none_at_first, no_path_under, tracker_left, kept_left, path_at_keeping, path_at_return}
pub use Rattle.keeper.proofs.Checks.{keep_accepted, return_accepted, return_refused, no_place_to_return}
pub use Rattle.keeper.proofs.Paths.{no_path_under, path_at_keeping, path_at_return, path_since, path_alone, path_after_return}

-- ---- of every list of calls that led to a keeper
module _ (keeper : Keeper) (o : Opening) (calls : List KeeperCall) (q : keeper ≡ run_keeper o calls) where
  -- its tracker is the one that the path left,
  pub tracker_by_path : keeper.tracker ≡ run_calls o (path calls)
  tracker_by_path = rw q (tracker_left o calls)

  -- and the claim holds.
  pub keeper_claim : KeeperClaim o calls keeper
  keeper_claim = record { tracker = claim keeper.tracker o (path calls) tracker_by_path; kept = rw q (kept_left o calls) }

  run_longer : (call : KeeperCall) → after_keeper_call keeper call ≡ run_keeper o (calls ++ (call ∷ []))
  unfolding run_keeper
  run_longer call = ap (λ (x : Keeper). after_keeper_call x call) q ∙ sym (foldl-append after_keeper_call (keeper_open_of o).keeper calls (call ∷ []))

pub call_after : (keeper : Keeper) (o : Opening) (calls : List KeeperCall) → keeper ≡ run_keeper o calls → (call : KeeperCall) → KeeperAfter o calls call (after_keeper_call keeper call)
call_after keeper o calls q call =
    let longer = run_longer keeper o calls q call in
    record { ran = longer; claim = keeper_claim (after_keeper_call keeper call) o (calls ++ (call ∷ [])) longer }

pub came_keeper_open : (o : Opening) → CameKeeper (keeper_open_of o).keeper
unfolding run_keeper
came_keeper_open o = record { opening = o; calls = []; is = refl }

pub came_keeper_call : (keeper : Keeper) → CameKeeper keeper → (call : KeeperCall) → CameKeeper (after_keeper_call keeper call)
came_keeper_call keeper came call = record { opening = came.opening; calls = came.calls ++ (call ∷ []); is = run_longer keeper came.opening came.calls came.is call }

-- A keeper's tracker came from an opening and calls on it.
pub came_tracker : (keeper : Keeper) → CameKeeper keeper → Came keeper.tracker
came_tracker keeper came = came_ran came.opening (path came.calls) (tracker_by_path keeper came.opening came.calls came.is)

-- ---- what the equations of the calls bring with them
pub keeper_open_promise : (o : Opening) {r : KeeperAnswer} → r ≡ keeper_open_of o → KeeperOpenPromise o r
unfolding run_keeper keeper_open_of
keeper_open_promise o e =
    rw e (record {
      is = refl;
      number = (open_promise o refl).number;
      none_kept = none_at_first 8;
      came = came_keeper_open o;
      ran = refl;
      claim = keeper_claim (keeper_open_of o).keeper o [] refl;
    })

pub keeper_interval_promise : (keeper : Keeper) → CameKeeper keeper → (b : List ℕ) {r : KeeperAnswer} → r ≡ keeper_interval_of keeper b → KeeperIntervalPromise keeper b r
unfolding keeper_interval_of
keeper_interval_promise keeper came b e =
    let p = interval_promise keeper.tracker (came_tracker keeper came) b refl in
    rw e (record {
      is = refl;
      on_tracker = p;
      no_kept_state_changes = refl;
      came = came_keeper_call keeper came (OnTracker (Interval b));
      outcome = λ o calls q. (p.call o (path calls) (tracker_by_path keeper o calls q)).outcome;
      number = λ o calls q. (p.call o (path calls) (tracker_by_path keeper o calls q)).number;
      call = λ o calls q. call_after keeper o calls q (OnTracker (Interval b));
    })

pub keeper_set_promise : (keeper : Keeper) → CameKeeper keeper → (s : List ℕ) {r : KeeperSetAnswer} → r ≡ keeper_set_of keeper s → KeeperSetPromise keeper s r
unfolding keeper_set_of
keeper_set_promise keeper came s e =
    let p = set_promise keeper.tracker (came_tracker keeper came) s refl in
    rw e (record {
      is = refl;
      on_tracker = p;
      no_kept_state_changes = refl;
      came = came_keeper_call keeper came (OnTracker (Set s));
      outcome = λ o calls q. (p.call o (path calls) (tracker_by_path keeper o calls q)).outcome;
      call = λ o calls q. call_after keeper o calls q (OnTracker (Set s));
    })

-- ---- a keeper whose tracker its host has lent to an interval call (N14): it is left by a call on its tracker
module _ (keeper : Keeper) {b : List ℕ} {outcome : Outcome} {afterwards : Tracker} (p : LentPromise keeper.tracker b outcome afterwards) where
  lent_afterwards : afterwards ≡ after_call keeper.tracker (Lent b)
  lent_afterwards = ap (λ (x : Answer). x.tracker) p.as_returned.is

  pub lent_came : CameKeeper keeper → CameKeeper (with_tracker keeper afterwards)
  lent_came came = rw lent_afterwards (came_keeper_call keeper came (OnTracker (Lent b)))

  pub lent_after : (o : Opening) (calls : List KeeperCall) → keeper ≡ run_keeper o calls → KeeperAfter o calls (OnTracker (Lent b)) (with_tracker keeper afterwards)
  lent_after o calls q = rw lent_afterwards (call_after keeper o calls q (OnTracker (Lent b)))

row_stays : (keeper : Keeper) (k : ℕ) → (keep_of keeper k).keeper.tracker ≡ keeper.tracker
unfolding keep_of
row_stays keeper k = stays_either_way (λ (x : Keeper). x.tracker) (is_accepted (keep_outcome k)) refl

pub keep_promise : (keeper : Keeper) → CameKeeper keeper → (k : ℕ) {r : KeeperAnswer} → r ≡ keep_of keeper k → KeepPromise keeper k r
unfolding keep_of
keep_promise keeper came k e =
    rw e (record {
      is = refl;
      number = number_met_lem (keep_conditions k);
      no_row_changes = row_stays keeper k;
      came = came_keeper_call keeper came (Keep k);
      call = λ o calls q. call_after keeper o calls q (Keep k);
    })

kept_stays : (keeper : Keeper) (k : ℕ) → (return_of keeper k).keeper.kept ≡ keeper.kept
unfolding return_of
kept_stays keeper k = stays_either_way (λ (x : Keeper). x.kept) (is_accepted (return_outcome k (is_none (kept_under keeper k)))) refl

-- something is kept exactly if a path is
none_left : (o : Opening) (q : Option Path) → is_none (option_map (run_calls o) q) ≡ is_none q
none_left o None = refl
none_left o (Some q) = refl

return_outcome_from : (keeper : Keeper) (o : Opening) (calls : List KeeperCall) → keeper ≡ run_keeper o calls → (k : ℕ) → (return_of keeper k).outcome ≡ return_outcome k (is_none (path_under calls k))
unfolding return_of
return_outcome_from keeper o calls q k = ap (return_outcome k) (ap is_none ((keeper_claim keeper o calls q).kept k) ∙ none_left o (path_under calls k))

returned_as_at_keeping : (keeper : Keeper) (k : ℕ) (o : Opening) (before between : List KeeperCall)
    → keeper ≡ run_keeper o (before ++ (Keep k ∷ between))
    → k ≤ highest_place
    → NoneKeepsUnder k between
    → ((return_of keeper k).outcome ≡ Ok tt) × Claim o (path before) (return_of keeper k).keeper.tracker
returned_as_at_keeping keeper k o before between q below none =
    let calls = before ++ (Keep k ∷ between) in (
      rw (return_outcome_from keeper o calls q k, path_at_keeping k below before between none) (return_accepted k below),
      subst (λ (p : Path). Claim o p (return_of keeper k).keeper.tracker) (path_at_return k below before between none) (call_after keeper o calls q (Return k)).claim.tracker,
    )

pub return_promise : (keeper : Keeper) → CameKeeper keeper → (k : ℕ) {r : KeeperAnswer} → r ≡ return_of keeper k → ReturnPromise keeper k r
unfolding return_of
return_promise keeper came k e =
    rw e (record {
      is = refl;
      number = number_met_lem (return_conditions k (is_none (kept_under keeper k)));
      no_kept_state_changes = kept_stays keeper k;
      came = came_keeper_call keeper came (Return k);
      outcome = λ o calls q. return_outcome_from keeper o calls q k;
      no_place = no_place_to_return k (is_none (kept_under keeper k));
      nothing_kept = λ o calls q below none. rw (return_outcome_from keeper o calls q k, no_path_under k calls none) (return_refused k below);
      as_at_keeping = returned_as_at_keeping keeper k;
      call = λ o calls q. call_after keeper o calls q (Return k);
    })

pub keeper_row_promise : (keeper : Keeper) (d : ℕ) {r : RowAnswer} → RowPromise keeper.tracker d r → KeeperRowPromise keeper d r
keeper_row_promise keeper d p = record { on_tracker = p; claim = λ o calls q. p.claim o (path calls) (tracker_by_path keeper o calls q) }
