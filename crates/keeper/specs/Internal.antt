-- What a function below the calls gives.
use Rattle.std.specs.Prelude.{cond, ℕ, ltb, Result, Err, ok_or}
use Rattle.tracker.specs.Promise.{Tracker, Refusal, NoPlace, NothingKept}
use Rattle.keeper.specs.declared.Keeper.{Keeper}
use Rattle.keeper.specs.Keeper.{kept_under, highest_place}

-- the state kept under a number, or why there is no return to it
abbrev pub state_to_return : Keeper → ℕ → Result Tracker Refusal
state_to_return keeper k = cond (ltb highest_place k) (Err NoPlace) (ok_or (kept_under keeper k) NothingKept)
