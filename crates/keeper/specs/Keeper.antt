-- Document 02, N11: a tracker's state can be kept under a number from 0 to 7 and taken up again later, any number of times.
use Rattle.std.specs.Prelude.{Bool, cond, List, [], ◌∷◌, ℕ, ltb, get_or, replicate, set as with_item, Option, Some, None, is_none, unwrap_or}
use mathlib.Core.List.{foldl}
use Rattle.tracker.specs.Promise.{Tracker, Answer, NoPlace, NothingKept, Outcome, is_accepted, Condition, ◌when◌, judged, Opening, open_of, interval_of, set_of, Call, after_call}
use Rattle.keeper.specs.declared.Keeper.{Keeper}
use Rattle.keeper.specs.declared.KeeperAnswer.{KeeperAnswer}
use Rattle.keeper.specs.declared.KeeperSetAnswer.{KeeperSetAnswer}

-- What is kept under a number: a state of the tracker, or nothing.
abbrev pub kept_under : Keeper → ℕ → Option Tracker
kept_under keeper k = get_or keeper.kept k None

-- What an opening returns: what the tracker's returns, with nothing kept. A fresh tracker has none kept.
abbrev pub with_none_kept : Answer → KeeperAnswer
with_none_kept opened = record { outcome = opened.outcome; keeper = record { tracker = opened.tracker; kept = replicate 8 None } }

unfoldable pub keeper_open_of : Opening → KeeperAnswer
keeper_open_of o = with_none_kept (open_of o)

-- An interval and a set of them are calls on the tracker; what is kept stays.
abbrev pub with_tracker : Keeper → Tracker → Keeper
with_tracker keeper t = record { tracker = t; kept = keeper.kept }

unfoldable pub keeper_interval_of : Keeper → List ℕ → KeeperAnswer
keeper_interval_of keeper b =
    let answer = interval_of keeper.tracker b in
    record { outcome = answer.outcome; keeper = with_tracker keeper answer.tracker }

unfoldable pub keeper_set_of : Keeper → List ℕ → KeeperSetAnswer
keeper_set_of keeper s =
    let answer = set_of keeper.tracker s in
    record { outcome = answer.outcome; keeper = with_tracker keeper answer.tracker }

-- Checks: 22, number above 7;
abbrev pub highest_place : ℕ
highest_place = 7

unfoldable pub keep_conditions : ℕ → List Condition
keep_conditions k = NoPlace when ltb highest_place k ∷ []

-- then 23, a return with nothing kept there.
unfoldable pub return_conditions : ℕ → Bool → List Condition
return_conditions k nothing = NoPlace when ltb highest_place k ∷ NothingKept when nothing ∷ []

abbrev pub keep_outcome : ℕ → Outcome
keep_outcome k = judged (keep_conditions k)

abbrev pub return_outcome : ℕ → Bool → Outcome
return_outcome k nothing = judged (return_conditions k nothing)

-- An accepted call leaves the keeper `after`; a refused one leaves it as it was `before`.
abbrev pub if_accepted : Outcome → Keeper → Keeper → KeeperAnswer
if_accepted outcome after before = record { outcome = outcome; keeper = cond (is_accepted outcome) after before }

-- Keeping overwrites, and changes no row: the tracker stays.
abbrev pub with_kept : Keeper → ℕ → Keeper
with_kept keeper k = record { tracker = keeper.tracker; kept = with_item keeper.kept k (Some keeper.tracker) }

unfoldable pub keep_of : Keeper → ℕ → KeeperAnswer
keep_of keeper k = if_accepted (keep_outcome k) (with_kept keeper k) keeper

-- A return takes up the state kept under the number, and changes no kept state. (With nothing kept there the return is refused, and the second value
-- of `unwrap_or` is never taken.)
unfoldable pub return_of : Keeper → ℕ → KeeperAnswer
return_of keeper k =
    let state = kept_under keeper k in
    if_accepted (return_outcome k (is_none state)) (with_tracker keeper (unwrap_or state keeper.tracker)) keeper

-- A call that gives a keeper to go on with: any call on its tracker; one that keeps; and one that returns. (A row call gives none.)
pub data KeeperCall : Type 0 where
  OnTracker : Call → KeeperCall
  Keep : ℕ → KeeperCall
  Return : ℕ → KeeperCall

abbrev pub after_keeper_call : Keeper → KeeperCall → Keeper
after_keeper_call keeper (OnTracker call) = with_tracker keeper (after_call keeper.tracker call)
after_keeper_call keeper (Keep k) = (keep_of keeper k).keeper
after_keeper_call keeper (Return k) = (return_of keeper k).keeper

-- A list of calls from an opening, each on the keeper that the one before it left.
unfoldable pub run_keeper : Opening → List KeeperCall → Keeper
run_keeper o calls = foldl after_keeper_call (keeper_open_of o).keeper calls
