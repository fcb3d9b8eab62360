-- N11's promise over lists: demand 3 of a keeper's tracker, and what the keeper has kept.
use Rattle.std.specs.Prelude.{List, ◌≡◌, ℕ, option_map}
use Rattle.tracker.specs.Promise.{Opening, run_calls, Claim}
use Rattle.keeper.specs.declared.Keeper.{Keeper}
use Rattle.keeper.specs.Keeper.{kept_under, KeeperCall, run_keeper}
use Rattle.keeper.specs.Paths.{path, path_under}

-- The claim about an opening, any list of calls and the keeper that they left.
pub record KeeperClaim (o : Opening) (calls : List KeeperCall) (keeper : Keeper) : Type 0 where
  -- demand 3, with all its parts (N9) and the awaited number, holds of the tracker, with the path as its list of calls;
  pub tracker : Claim o (path calls) keeper.tracker
  -- and under each number stands the state that the path kept there leaves, or nothing.
  pub kept : (k : ℕ) → kept_under keeper k ≡ option_map (run_calls o) (path_under calls k)

-- A keeper comes only from an opening and the calls after it.
pub record CameKeeper (keeper : Keeper) : Type 0 where
  pub opening : Opening
  pub calls : List KeeperCall
  pub is : keeper ≡ run_keeper opening calls
