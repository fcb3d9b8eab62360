-- A return answers by what `state_to_return` gives.
-- Assumes nothing.
use mathlib.Core.Path.{◌≡◌, refl}
use mathlib.Core.Bool.{cond}
use Prim.Native.Nat.{ℕ, ◌<◌}
use native.Mathlib.Decide.{dec_lt}
use native.Mathlib.Omega.{arith}
use borrow.Author.Tests.{le-ltb, lt-ltb}
use lib.Dec.{ltb}
use Rattle.std.specs.Prelude.{Option, Some, None, Result, Ok, Err, ok_or, is_none, unwrap_or}
use Rattle.tracker.specs.Promise.{Tracker, Refusal, NoPlace, NothingKept}
use Rattle.keeper.specs.declared.Keeper.{Keeper}
use Rattle.keeper.specs.declared.KeeperAnswer.{KeeperAnswer}
use Rattle.keeper.specs.Keeper.{kept_under, with_tracker, if_accepted, highest_place, return_outcome, return_conditions, return_of}
use Rattle.keeper.specs.Internal.{state_to_return}

abbrev pub answer_by : Keeper → Result Tracker Refusal → KeeperAnswer
answer_by keeper (Ok t) = record { outcome = Ok tt; keeper = with_tracker keeper t }
answer_by keeper (Err why) = record { outcome = Err why; keeper = keeper }

pub answers : (keeper : Keeper) (k : ℕ) → answer_by keeper (state_to_return keeper k) ≡ return_of keeper k
unfolding return_of return_conditions
answers keeper k = go (dec_lt highest_place k) (kept_under keeper k)
  where
    go : Dec (highest_place < k) → (state : Option Tracker)
        → answer_by keeper (cond (ltb highest_place k) (Err NoPlace) (ok_or state NothingKept))
        ≡ if_accepted (return_outcome k (is_none state)) (with_tracker keeper (unwrap_or state keeper.tracker)) keeper
    go (yes l) None = rw (lt-ltb highest_place k l) refl
    go (yes l) (Some t) = rw (lt-ltb highest_place k l) refl
    go (no l) None = rw (le-ltb highest_place k (omega arith)) refl
    go (no l) (Some t) = rw (le-ltb highest_place k (omega arith)) refl
