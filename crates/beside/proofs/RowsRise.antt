-- The rows of a run that is not refused rise: those of one record by direction, and those of later ones come after them.
-- Assumes nothing.
use Rattle.std.proofs.Common.{◌≡◌, refl, sym, ap, ◌∙◌, ℕ, suc, ◌≤◌, ◌<◌, Bool, true, false, Ok, Err, List, [], ◌∷◌, ◌++◌, map, cond, get_or, arith}
use Rattle.std.specs.List.{All, AllPairs, filter}
use Rattle.std.proofs.lemmas.List.{map-append}
use Rattle.std.proofs.lemmas.List.Elements.{All-nil, All-head, All-tail, All-append, All-filter, All-map, filter-append}
use Rattle.tracker.specs.Promise.{negative, Row, Opening, Outcome, Condition, judged, interval_conditions, awaited_from, settings_of, first_of, history, accepted, of_directions, worked_from, Call, Interval}
use Rattle.tracker.proofs.Promise.{at_direction, awaits_one_more, shows_awaited, worked_direction}
use Rattle.journal_rules.specs.Run.{turn_conditions, rows_in_turn}
use Rattle.journal_rules.proofs.Accept.{none_before, one_before}
use Rattle.comparison.specs.Comparison.{is_lower}
use Rattle.comparison.specs.Internal.{Rises}
use Rattle.beside.specs.Beside.{as_entry, ours}

-- a row comes before another; each of some before every later one
abbrev Before : Row → Row → Type 0
Before r q = is_lower (as_entry r).key (as_entry q).key ≡ true

abbrev Ascending : List Row → Type 0
Ascending [] = Unit
Ascending (r ∷ rs) = All (Before r) rs × Ascending rs

-- and so do those of them with a negative amount
kept : (rs : List Row) → Ascending rs → Rises (ours rs)
kept [] h = tt
kept (r ∷ rs) h = go (negative r.amount.0) (kept rs h.1)
  where
    go : (b : Bool) → Rises (ours rs) → Rises (map as_entry (cond b (r ∷ filter (λ r. negative r.amount.0) rs) (filter (λ r. negative r.amount.0) rs)))
    go true ih = (All-map (λ y. is_lower (as_entry r).key y.key ≡ true) as_entry (filter (λ r. negative r.amount.0) rs) (All-filter (λ r. negative r.amount.0) (Before r) rs h.0), ih)
    go false ih = ih

in_pairs : (rs : List Row) → AllPairs Before rs → Ascending rs
in_pairs [] h = tt
in_pairs (r ∷ rs) h = (λ k d l. h 0 (suc k) d (omega arith) (omega arith), in_pairs rs (λ i j d l m. h (suc i) (suc j) d (omega arith) (omega arith)))

joined : (rs qs : List Row) → Ascending rs → Ascending qs → All (λ r. All (Before r) qs) rs → Ascending (rs ++ qs)
joined [] qs h k before = k
joined (r ∷ rs) qs h k before =
    (All-append (Before r) rs qs h.0 (All-head (λ r. All (Before r) qs) r rs before), joined rs qs h.1 k (All-tail (λ r. All (Before r) qs) r rs before))

pub ours_append : (rs qs : List Row) → ours (rs ++ qs) ≡ ours rs ++ ours qs
ours_append rs qs =
    let test = λ (r : Row). negative r.amount.0 in
    ap (map as_entry) (filter-append test rs qs) ∙ map-append as_entry (filter test rs) (filter test qs)

pub both_accepted : (cs ds : List Condition) → judged (cs ++ ds) ≡ Ok tt → (judged cs ≡ Ok tt) × (judged ds ≡ Ok tt)
both_accepted cs ds e = go (judged cs) refl
  where
    go : (o : Outcome) → judged cs ≡ o → (judged cs ≡ Ok tt) × (judged ds ≡ Ok tt)
    go (Ok done) q = (q, sym (none_before cs ds q) ∙ e)
    go (Err why) q = let none : ◌≡◌ {A = Outcome} (Err why) (Ok tt) = sym (one_before cs ds q) ∙ e in cc

-- the rows of one record, and where it is accepted
module _ (o : Opening) (passed : List Call) (b : List ℕ) where
  abbrev upto : List Call
  upto = passed ++ (Interval b ∷ [])

  abbrev eight : List Row
  eight = of_directions (worked_from o upto)

  module _ (ok : judged (interval_conditions (awaited_from o passed) b) ≡ Ok tt) where
    at : (d : ℕ) (default : Row) → d < 8 → ((get_or eight d default).n ≡ awaited_from o passed) × ((get_or eight d default).direction ≡ d)
    at d default h =
        rw (at_direction (worked_from o upto) default d h) (shows_awaited o passed b ok d, worked_direction (settings_of o) (first_of o) d (history o d (accepted o upto)))

    eight_rise : Ascending eight
    eight_rise = in_pairs eight (λ i j d l m. let p = at i d (omega arith) in let q = at j d (omega arith) in grind arith)

    eight_at : All (λ r. r.n ≡ awaited_from o passed) eight
    eight_at = λ k d l. (at k d (omega arith)).0

-- all n are m or higher
abbrev From : ℕ → List Row → Type 0
From m = All (λ r. m ≤ r.n)

rise : (o : Opening) (passed : List Call) (bs : List (List ℕ)) → judged (turn_conditions o passed bs) ≡ Ok tt
    → Ascending (rows_in_turn o passed bs) × From (awaited_from o passed) (rows_in_turn o passed bs)
unfolding turn_conditions rows_in_turn
rise o passed [] e = (tt, All-nil (λ r. awaited_from o passed ≤ r.n))
rise o passed (b ∷ bs) e =
    let m = awaited_from o passed in
    let both = both_accepted (interval_conditions m b) (turn_conditions o (passed ++ (Interval b ∷ [])) bs) e in
    let own = eight_at o passed b both.0 in
    let next = awaits_one_more o passed b both.0 in
    let more = rise o (passed ++ (Interval b ∷ [])) bs both.1 in
    let later : From (suc m) (rows_in_turn o (passed ++ (Interval b ∷ [])) bs) = rw next at more.1 in
    let rows = rows_in_turn o (passed ++ (Interval b ∷ [])) bs in (
      joined (eight o passed b) rows (eight_rise o passed b both.0) more.0 (λ k d l j q h. let x = own k d l in let y = later j q h in grind arith),
      All-append (λ r. m ≤ r.n) (eight o passed b) rows (λ k d l. let x = own k d l in omega arith) (λ k d l. let y = later k d l in omega arith),
    )

pub rows_rise : (o : Opening) (passed : List Call) (bs : List (List ℕ)) → judged (turn_conditions o passed bs) ≡ Ok tt → Rises (ours (rows_in_turn o passed bs))
rows_rise o passed bs e = kept (rows_in_turn o passed bs) (rise o passed bs e).0
