-- The keeper that an opening and calls left has the tracker that the path left, and under each number the state that the path kept there left; and a
-- path after a return is the one at the latest keeping, followed by the calls since the return.
-- Assumes nothing.
use mathlib.Core.Path.{◌≡◌, refl, sym, ap, ◌∙◌}
use mathlib.Core.Bool.{Bool, true, false, not, cond}
use mathlib.Core.List.{List, [], ◌∷◌, ◌++◌, foldl, foldl-append, map, append-nil, append_assoc}
use Prim.Native.Nat.{ℕ, zero, suc, ◌≤◌}
use native.Mathlib.Omega.{arith}
use borrow.Author.Tests.{eq-eqb}
use lib.Dec.{T, eqb}
use lib.ListN.{replicate, length, get_or, get_or-map, length-set}
use lib.Seq.{map-set, get_or-set_same, get_or-set_other}
use Rattle.std.specs.Prelude.{◌≢◌, Option, Some, None, is_none, option_map}
use Rattle.tracker.specs.Promise.{Tracker, Opening, Call, after_call, run_calls, is_accepted}
use Rattle.keeper.specs.declared.Keeper.{Keeper}
use Rattle.keeper.specs.Keeper.{kept_under, highest_place, keeper_open_of, with_tracker, keep_outcome, return_outcome, keep_of, return_of, KeeperCall, OnTracker, Keep, Return, after_keeper_call, run_keeper}
use Rattle.keeper.proofs.Checks.{keep_accepted, return_accepted, return_with_nothing}
use Rattle.keeper.specs.Paths.{Path, Paths, no_path_kept, path_at, after_keep, path_after, paths, path, path_under, NoneKeepsUnder}

-- What a call that may be refused changes in neither case stays.
pub stays_either_way : {A B : Type 0} (f : A → B) (y : Bool) {a b : A} → f a ≡ f b → f (cond y a b) ≡ f b
stays_either_way f true e = e
stays_either_way f false e = refl

module _ (o : Opening) where
  -- the state that a path left, if there is one
  abbrev state : Option Path → Option Tracker
  state = option_map (run_calls o)

  abbrev left : Paths → Keeper
  left p = record { tracker = run_calls o p.now; kept = map state p.kept }

  state_under : (p : Paths) (k : ℕ) → kept_under (left p) k ≡ state (path_at p k)
  state_under p k = get_or-map state p.kept k None

  call_on : (p : Paths) (call : Call) → after_keeper_call (left p) (OnTracker call) ≡ left (path_after p (OnTracker call))
  unfolding run_calls
  call_on p call = ap (λ (t : Tracker). with_tracker (left p) t) (sym (foldl-append after_call (run_calls o []) p.now (call ∷ [])))

  -- a call that may be refused, on both sides
  on_both : (y : Bool) (path_done p : Paths) {done : Keeper} → done ≡ left path_done → cond y done (left p) ≡ left (cond y path_done p)
  on_both true path_done p e = e
  on_both false path_done p e = refl

  keep_on : (p : Paths) (k : ℕ) → after_keeper_call (left p) (Keep k) ≡ left (path_after p (Keep k))
  unfolding keep_of
  keep_on p k = on_both (is_accepted (keep_outcome k)) (after_keep p k) p (ap (λ (w : List (Option Tracker)). record { tracker = run_calls o p.now; kept = w }) (sym (map-set state p.kept k (Some p.now))))

  return_on : (p : Paths) (k : ℕ) → after_keeper_call (left p) (Return k) ≡ left (path_after p (Return k))
  unfolding return_of
  return_on p k = go (path_at p k) refl
    where
      go : (q : Option Path) → path_at p k ≡ q → after_keeper_call (left p) (Return k) ≡ left (path_after p (Return k))
      go None e = rw (state_under p k, e, return_with_nothing k) refl
      go (Some q) e = rw (state_under p k, e) (on_both (is_accepted (return_outcome k false)) _ p refl)

  one_call : (p : Paths) (c : KeeperCall) → after_keeper_call (left p) c ≡ left (path_after p c)
  one_call p (OnTracker call) = call_on p call
  one_call p (Keep k) = keep_on p k
  one_call p (Return k) = return_on p k

  every_call : (calls : List KeeperCall) (p : Paths) → foldl after_keeper_call (left p) calls ≡ left (foldl path_after p calls)
  every_call [] p = refl
  every_call (c ∷ calls) p = ap (λ (w : Keeper). foldl after_keeper_call w calls) (one_call p c) ∙ every_call calls (path_after p c)

  keeper_left : (calls : List KeeperCall) → run_keeper o calls ≡ left (paths calls)
  unfolding run_keeper keeper_open_of paths run_calls
  keeper_left calls = every_call calls no_path_kept

  pub tracker_left : (calls : List KeeperCall) → (run_keeper o calls).tracker ≡ run_calls o (path calls)
  tracker_left calls = ap (λ (keeper : Keeper). keeper.tracker) (keeper_left calls)

  pub kept_left : (calls : List KeeperCall) (k : ℕ) → kept_under (run_keeper o calls) k ≡ option_map (run_calls o) (path_under calls k)
  kept_left calls k = ap (λ (keeper : Keeper). kept_under keeper k) (keeper_left calls) ∙ state_under (paths calls) k

-- at first nothing is kept under any number
pub none_at_first : {A : Type 0} (n k : ℕ) → get_or {A = Option A} (replicate n None) k None ≡ None
none_at_first zero k = refl
none_at_first (suc n) zero = refl
none_at_first (suc n) (suc k) = none_at_first n k

-- ---- one call more, and a return
path_on : (calls : List KeeperCall) (more : List KeeperCall) → paths (calls ++ more) ≡ foldl path_after (paths calls) more
unfolding paths
path_on calls more = foldl-append path_after no_path_kept calls more

-- a return changes no path kept
kept_at_return : (p : Paths) (k : ℕ) → (path_after p (Return k)).kept ≡ p.kept
kept_at_return p k = stays_either_way (λ (x : Paths). x.kept) (is_accepted (return_outcome k (is_none (path_at p k)))) refl

-- there are eight numbers
eight_paths : (p : Paths) (c : KeeperCall) → length p.kept ≡ 8 → length (path_after p c).kept ≡ 8
eight_paths p (OnTracker call) e = e
eight_paths p (Keep k) e = stays_either_way (λ (x : Paths). length x.kept) (is_accepted (keep_outcome k)) (length-set p.kept k (Some p.now)) ∙ e
eight_paths p (Return k) e = ap length (kept_at_return p k) ∙ e

eight_kept : (calls : List KeeperCall) → length (paths calls).kept ≡ 8
unfolding paths
eight_kept calls = go calls no_path_kept refl
  where
    go : (calls : List KeeperCall) (p : Paths) → length p.kept ≡ 8 → length (foldl path_after p calls).kept ≡ 8
    go [] p e = e
    go (c ∷ calls) p e = go calls (path_after p c) (eight_paths p c e)

module _ (k : ℕ) where
  -- keeping under another number leaves the path kept under k
  other_kept : (p : Paths) (j : ℕ) → T (not (eqb j k)) → path_at (path_after p (Keep j)) k ≡ path_at p k
  other_kept p j other = stays_either_way (λ (x : Paths). path_at x k) (is_accepted (keep_outcome j)) (get_or-set_other p.kept j k (Some p.now) None apart)
    where
      apart : k ≢ j
      apart e = absurd (rw (eq-eqb j k (sym e)) at other)

  still_kept : (calls : List KeeperCall) (p : Paths) → NoneKeepsUnder k calls → path_at (foldl path_after p calls) k ≡ path_at p k
  still_kept [] p none = refl
  still_kept (OnTracker call ∷ calls) p none = still_kept calls (path_after p (OnTracker call)) none.1
  still_kept (Keep j ∷ calls) p none = still_kept calls (path_after p (Keep j)) none.1 ∙ other_kept p j none.0
  still_kept (Return j ∷ calls) p none = still_kept calls (path_after p (Return j)) none.1 ∙ ap (λ (w : List (Option Path)). get_or w k None) (kept_at_return p j)

  -- With no keeping under k, nothing is there.
  pub no_path_under : (calls : List KeeperCall) → NoneKeepsUnder k calls → path_under calls k ≡ None
  unfolding paths
  no_path_under calls none = still_kept calls no_path_kept none ∙ none_at_first 8 k

  module _ (below : k ≤ highest_place) where
    -- keeping under k keeps the path,
    kept_now : (p : Paths) → length p.kept ≡ 8 → path_at (path_after p (Keep k)) k ≡ Some p.now
    kept_now p e = rw (keep_accepted k below) (get_or-set_same p.kept k (Some p.now) None (omega (arith, e)))

    -- and a return to k takes it up.
    path_taken : (p : Paths) (q : Path) → path_at p k ≡ Some q → (path_after p (Return k)).now ≡ q
    path_taken p q e = rw (e, return_accepted k below) refl

    -- After the latest keeping under k, the path at the keeping stays there,
    pub path_at_keeping : (before between : List KeeperCall) → NoneKeepsUnder k between → path_under (before ++ (Keep k ∷ between)) k ≡ Some (path before)
    path_at_keeping before between none =
        ap (λ (p : Paths). path_at p k) (path_on before (Keep k ∷ between))
        ∙ still_kept between (path_after (paths before) (Keep k)) none
        ∙ kept_now (paths before) (eight_kept before)

    -- and after a return it is the path.
    pub path_at_return : (before between : List KeeperCall) → NoneKeepsUnder k between → path ((before ++ (Keep k ∷ between)) ++ (Return k ∷ [])) ≡ path before
    path_at_return before between none =
        let calls = before ++ (Keep k ∷ between) in
        ap (λ (p : Paths). p.now) (path_on calls (Return k ∷ [])) ∙ path_taken (paths calls) (path before) (path_at_keeping before between none)

-- Calls on the tracker follow the path.
pub path_since : (calls : List KeeperCall) (since : List Call) → path (calls ++ map OnTracker since) ≡ path calls ++ since
path_since calls since = ap (λ (p : Paths). p.now) (path_on calls (map OnTracker since)) ∙ go since (paths calls)
  where
    go : (since : List Call) (p : Paths) → (foldl path_after p (map OnTracker since)).now ≡ p.now ++ since
    go [] p = sym (append-nil p.now)
    go (call ∷ since) p = go since (path_after p (OnTracker call)) ∙ append_assoc p.now (call ∷ []) since

-- A list of calls on the tracker alone, none kept and none returned to, is the path.
pub path_alone : (calls : List Call) → path (map OnTracker calls) ≡ calls
unfolding paths
path_alone calls = path_since [] calls

-- N11's sentence: after a return the history is the one at the keeping, followed by the calls since the return.
pub path_after_return : (k : ℕ) → k ≤ highest_place
    → (before between : List KeeperCall) → NoneKeepsUnder k between
    → (since : List Call)
    → path (((before ++ (Keep k ∷ between)) ++ (Return k ∷ [])) ++ map OnTracker since) ≡ path before ++ since
path_after_return k below before between none since =
    path_since ((before ++ (Keep k ∷ between)) ++ (Return k ∷ [])) since ∙ ap (λ (q : Path). q ++ since) (path_at_return k below before between none)
