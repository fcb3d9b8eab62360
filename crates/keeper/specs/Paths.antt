-- Document 02, N11: "After a return, the awaited number, rows, sums, periods and the twelve-interval limit read as if the history were the one at the
-- keeping, followed by the calls since the return." What counts as the history is said here from the calls alone.
use Rattle.std.specs.Prelude.{Bool, false, not, cond, T, eqb, List, [], ◌∷◌, ◌++◌, ℕ, get_or, replicate, set as with_item, Option, Some, None, is_none, unwrap_or}
use mathlib.Core.List.{foldl}
use Rattle.tracker.specs.Promise.{is_accepted, Call}
use Rattle.keeper.specs.Keeper.{keep_outcome, return_outcome, KeeperCall, OnTracker, Keep, Return}

-- A path: the calls on a tracker that count as its history. From it and the opening follow the records that count, `accepted`: a refused call in it
-- counts as nothing, and an accepted set as its records (N10).
abbrev pub Path : Type 0
Path = List Call

-- The path now, and under each number the path at the keeping, or none.
pub record Paths : Type 0 where
  pub now : Path
  pub kept : List (Option Path)

-- A fresh tracker has none kept.
abbrev pub no_path_kept : Paths
no_path_kept = record { now = []; kept = replicate 8 None }

abbrev pub path_at : Paths → ℕ → Option Path
path_at p k = get_or p.kept k None

-- Keeping overwrites, and the path now stays.
abbrev pub after_keep : Paths → ℕ → Paths
after_keep p k = record { now = p.now; kept = with_item p.kept k (Some p.now) }

-- After a return the path is the one at the keeping, and no path kept changes. (With none kept there the return is refused, and the second value of
-- `unwrap_or` is never taken.)
abbrev pub after_return : Paths → ℕ → Paths
after_return p k = record { now = unwrap_or (path_at p k) p.now; kept = p.kept }

-- One call more. A call on the tracker, also a refused one, joins the path at its end; a refused keep or return changes nothing.
abbrev pub path_after : Paths → KeeperCall → Paths
path_after p (OnTracker call) = record { now = p.now ++ (call ∷ []); kept = p.kept }
path_after p (Keep k) = cond (is_accepted (keep_outcome k)) (after_keep p k) p
path_after p (Return k) = cond (is_accepted (return_outcome k (is_none (path_at p k)))) (after_return p k) p

-- Of a list of calls from an opening: the path, and the one kept under a number.
unfoldable pub paths : List KeeperCall → Paths
paths calls = foldl path_after no_path_kept calls

abbrev pub path : List KeeperCall → Path
path calls = (paths calls).now

abbrev pub path_under : List KeeperCall → ℕ → Option Path
path_under calls k = path_at (paths calls) k

-- To tell the latest keeping under a number: a call that keeps under k, where k is 0 to 7;
abbrev pub keeps_under : ℕ → KeeperCall → Bool
keeps_under k (OnTracker call) = false
keeps_under k (Keep j) = eqb j k
keeps_under k (Return j) = false

-- and a list in which none does.
abbrev pub NoneKeepsUnder : ℕ → List KeeperCall → Type 0
NoneKeepsUnder k [] = Unit {0}
NoneKeepsUnder k (c ∷ calls) = T (not (keeps_under k c)) × NoneKeepsUnder k calls
