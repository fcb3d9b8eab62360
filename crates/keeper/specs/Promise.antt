-- What the calls on a keeper promise (N11). Crates above it cite this, with the laws of proofs/Promise, and the tracker's promise.
use Rattle.std.specs.Prelude.{Ok, Err, ◌≡◌, List, [], ◌∷◌, ◌++◌, ℕ, ◌<◌, ◌≤◌, None, is_none}
use Rattle.tracker.specs.Promise.{NoPlace, NothingKept, RowAnswer, number_of, judged, number_met, open_conditions, interval_conditions, set_outcome, Opening, Interval, Set, accepted, awaited_from, DirectionClaim, Claim, IntervalPromise, SetPromise, RowPromise}
pub use Rattle.keeper.specs.declared.Keeper.{Keeper}
pub use Rattle.keeper.specs.declared.KeeperAnswer.{KeeperAnswer}
pub use Rattle.keeper.specs.declared.KeeperSetAnswer.{KeeperSetAnswer}
-- the calls and what they return
pub use Rattle.keeper.specs.Keeper.{kept_under, with_none_kept, with_tracker, highest_place, keep_outcome, return_outcome, if_accepted, with_kept, KeeperCall, OnTracker, Keep, Return, after_keeper_call}
unfoldable pub use Rattle.keeper.specs.Keeper.{keeper_open_of, keeper_interval_of, keeper_set_of, keep_conditions, return_conditions, keep_of, return_of, run_keeper}
-- what counts as the history, from the calls alone
pub use Rattle.keeper.specs.Paths.{Path, Paths, no_path_kept, path_at, after_keep, after_return, path_after, path, path_under, keeps_under, NoneKeepsUnder}
unfoldable pub use Rattle.keeper.specs.Paths.{paths}
-- the claim, and that a keeper came from an opening and calls
pub use Rattle.keeper.specs.Claim.{KeeperClaim, CameKeeper}

-- What a call after a list of calls from an opening leaves: the run of that list with this call at its end, and the claim of the longer list holds of
-- it.
pub record KeeperAfter (o : Opening) (calls : List KeeperCall) (call : KeeperCall) (keeper : Keeper) : Type 0 where
  pub ran : keeper ≡ run_keeper o (calls ++ (call ∷ []))
  pub claim : KeeperClaim o (calls ++ (call ∷ [])) keeper

-- An opening, with any settings (N2), ends as the tracker's does, and its keeper holds that tracker and has none kept: the run of the empty list.
pub record KeeperOpenPromise (o : Opening) (r : KeeperAnswer) : Type 0 where
  pub is : r ≡ keeper_open_of o
  pub number : number_of r.outcome ≡ number_met (open_conditions o.first o.shares o.settings)
  pub none_kept : (k : ℕ) → kept_under r.keeper k ≡ None
  pub came : CameKeeper r.keeper
  pub ran : r.keeper ≡ run_keeper o []
  pub claim : KeeperClaim o [] r.keeper

-- An interval call on a keeper answers as the tracker's does on its tracker, and so it promises all that the tracker's promises; and no kept state
-- changes. After every opening and list that led to the keeper, the outcome is that of numbers 1 to 8 at the number that the path awaits: so an n
-- taken between a keeping and a return to it can be taken again.
pub record KeeperIntervalPromise (keeper : Keeper) (b : List ℕ) (r : KeeperAnswer) : Type 0 where
  pub is : r ≡ keeper_interval_of keeper b
  pub on_tracker : IntervalPromise keeper.tracker b (record { outcome = r.outcome; tracker = r.keeper.tracker })
  pub no_kept_state_changes : r.keeper.kept ≡ keeper.kept
  pub came : CameKeeper r.keeper
  pub outcome : (o : Opening) (calls : List KeeperCall)
      → keeper ≡ run_keeper o calls
      → r.outcome ≡ judged (interval_conditions (awaited_from o (path calls)) b)
  pub number : (o : Opening) (calls : List KeeperCall)
      → keeper ≡ run_keeper o calls
      → number_of r.outcome ≡ number_met (interval_conditions (awaited_from o (path calls)) b)
  pub call : (o : Opening) (calls : List KeeperCall)
      → keeper ≡ run_keeper o calls
      → KeeperAfter o calls (OnTracker (Interval b)) r.keeper

-- The same of the call of a set (N10), which ends by 15 and its records in their turn.
pub record KeeperSetPromise (keeper : Keeper) (s : List ℕ) (r : KeeperSetAnswer) : Type 0 where
  pub is : r ≡ keeper_set_of keeper s
  pub on_tracker : SetPromise keeper.tracker s (record { outcome = r.outcome; tracker = r.keeper.tracker })
  pub no_kept_state_changes : r.keeper.kept ≡ keeper.kept
  pub came : CameKeeper r.keeper
  pub outcome : (o : Opening) (calls : List KeeperCall)
      → keeper ≡ run_keeper o calls
      → r.outcome ≡ set_outcome (awaited_from o (path calls)) s
  pub call : (o : Opening) (calls : List KeeperCall)
      → keeper ≡ run_keeper o calls
      → KeeperAfter o calls (OnTracker (Set s)) r.keeper

-- Keeping under number k returns what document 02 says. It changes no row.
pub record KeepPromise (keeper : Keeper) (k : ℕ) (r : KeeperAnswer) : Type 0 where
  pub is : r ≡ keep_of keeper k
  pub number : number_of r.outcome ≡ number_met (keep_conditions k)
  pub no_row_changes : r.keeper.tracker ≡ keeper.tracker
  pub came : CameKeeper r.keeper
  pub call : (o : Opening) (calls : List KeeperCall) → keeper ≡ run_keeper o calls → KeeperAfter o calls (Keep k) r.keeper

-- A return to number k returns what document 02 says. It changes no kept state.
pub record ReturnPromise (keeper : Keeper) (k : ℕ) (r : KeeperAnswer) : Type 0 where
  pub is : r ≡ return_of keeper k
  pub number : number_of r.outcome ≡ number_met (return_conditions k (is_none (kept_under keeper k)))
  pub no_kept_state_changes : r.keeper.kept ≡ keeper.kept
  pub came : CameKeeper r.keeper
  -- whether a state is kept under k follows from the calls: 22 above 7; then 23 where none of them keeps under k;
  pub outcome : (o : Opening) (calls : List KeeperCall)
      → keeper ≡ run_keeper o calls
      → r.outcome ≡ return_outcome k (is_none (path_under calls k))
  pub no_place : highest_place < k → r.outcome ≡ Err NoPlace
  pub nothing_kept : (o : Opening) (calls : List KeeperCall)
      → keeper ≡ run_keeper o calls
      → k ≤ highest_place
      → NoneKeepsUnder k calls
      → r.outcome ≡ Err NothingKept
  -- else their latest keeping under k, with the calls `before` it and those `between` it and the return, is returned to: the return is accepted, and
  -- demand 3 holds, with the awaited number, as if the history were the one at that keeping
  pub as_at_keeping : (o : Opening) (before between : List KeeperCall)
      → keeper ≡ run_keeper o (before ++ (Keep k ∷ between))
      → k ≤ highest_place
      → NoneKeepsUnder k between
      → (r.outcome ≡ Ok tt) × Claim o (path before) r.keeper.tracker
  pub call : (o : Opening) (calls : List KeeperCall) → keeper ≡ run_keeper o calls → KeeperAfter o calls (Return k) r.keeper

-- A row call answers as the tracker's does on the keeper's tracker, and demand 3 holds of the row returned, in all its parts, for the path of every
-- opening and list that led to the keeper.
pub record KeeperRowPromise (keeper : Keeper) (d : ℕ) (r : RowAnswer) : Type 0 where
  pub on_tracker : RowPromise keeper.tracker d r
  pub claim : (o : Opening) (calls : List KeeperCall)
      → keeper ≡ run_keeper o calls
      → d < 8
      → DirectionClaim o d (accepted o (path calls)) r.row
