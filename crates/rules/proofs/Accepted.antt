-- A call is accepted exactly if none of its conditions is met: for any list of conditions, and named for an interval and for an opening.
-- Assumes nothing.
use mathlib.Core.Path.{◌≡◌, refl, sym, ap}
use mathlib.Core.Bool.{Bool, true, false, not, cond, ◌||◌, false≢true}
use mathlib.Core.List.{List, [], ◌∷◌}
use mathlib.Core.Logic.{◌↔◌}
use Prim.Native.Nat.{ℕ, ◌≤◌, ◌<◌}
use borrow.Author.Tests.{eqb-true, eq-eqb, ltb-false, le-ltb, leb-true, le-leb, not-false}
use lib.Dec.{eqb, ltb}
use lib.ListN.{length, get_or}
use Rattle.std.specs.Prelude.{Ok, Err}
use Rattle.rules.specs.declared.Settings.{Settings}
use Rattle.rules.specs.Interval.{place}
use Rattle.rules.specs.Record.{record_number}
use Rattle.rules.specs.declared.Refusal.{Refusal}
use Rattle.rules.specs.Refusal.{Outcome, number_of, Condition, judged, number_met, is_accepted, each, highest_number, bad_flags, bad_status, bad_price, bad_flow, bad_pre_dispatch, interval_conditions, interval_outcome, share_ok, inside_spans, rising, open_conditions, open_outcome}
use Rattle.rules.specs.Tracker.{Opening, opens, accepts}
use Rattle.rules.proofs.EachBelow.{both_false, each_at, each_by}

-- No condition of the list is met.
abbrev pub NoneMet : List Condition → Type 0
NoneMet [] = Unit
NoneMet (c ∷ cs) = (c.met ≡ false) × NoneMet cs

-- The first condition met, as listed, gives the number; without one the call is accepted.
pub accepted_iff : (cs : List Condition) → (judged cs ≡ Ok tt) ↔ NoneMet cs
accepted_iff [] = (λ _. tt, λ _. refl)
accepted_iff (c ∷ cs) = go c.met (accepted_iff cs)
  where
    go : (m : Bool)
        → (judged cs ≡ Ok tt) ↔ NoneMet cs
        → (cond m (Err c.refusal) (judged cs) ≡ Ok tt) ↔ ((m ≡ false) × NoneMet cs)
    go true rest = (λ e. absurd (false≢true (ap is_accepted e)), λ n. absurd (false≢true (sym n.0)))
    go false rest = (λ e. (refl, rest.0 e), λ n. rest.1 n.1)

-- The number of an outcome is that of the first condition met.
pub number_met_lem : (cs : List Condition) → number_of (judged cs) ≡ number_met cs
number_met_lem [] = refl
number_met_lem (c ∷ cs) = go c.met c.refusal (number_met_lem cs)
  where
    go : (m : Bool) (k : Refusal)
        → number_of (judged cs) ≡ number_met cs
        → number_of (judged (record { met = m; refusal = k } ∷ cs)) ≡ number_met (record { met = m; refusal = k } ∷ cs)
    go true k rest = refl
    go false k rest = rest

-- An outcome that is accepted is `Ok`.
pub is_accepted_lem : (o : Outcome) → is_accepted o ≡ true → o ≡ Ok tt
is_accepted_lem (Ok done) e = refl
is_accepted_lem (Err k) e = absurd (false≢true e)

none_met : (cs : List Condition) → is_accepted (judged cs) ≡ true → NoneMet cs
none_met cs e = (accepted_iff cs).0 (is_accepted_lem (judged cs) e)

none_met_by : (cs : List Condition) → NoneMet cs → is_accepted (judged cs) ≡ true
none_met_by cs n = ap is_accepted ((accepted_iff cs).1 n)

-- What it takes for an interval record to be accepted: none of the conditions 1 to 8.
pub record Sound (awaited : ℕ) (b : List ℕ) : Type 0 where
  pub whole : length b ≡ 168
  pub in_range : record_number b ≤ highest_number
  pub in_turn : record_number b ≡ awaited
  pub flags : bad_flags b ≡ false
  pub statuses : bad_status b ≡ false
  pub prices : bad_price b ≡ false
  pub flows : bad_flow b ≡ false
  pub pre_dispatch : bad_pre_dispatch b ≡ false

-- An accepted record has them all,
pub accepted_is : (awaited : ℕ) (b : List ℕ) → accepts awaited b ≡ true → Sound awaited b
unfolding interval_outcome interval_conditions
accepted_is awaited b e =
    let none = none_met (interval_conditions awaited b) e in
    record {
      whole = eqb-true (length b) 168 (not-false (eqb (length b) 168) (search));
      in_range = ltb-false highest_number (record_number b) (search);
      in_turn = eqb-true (record_number b) awaited (not-false (eqb (record_number b) awaited) (search));
      flags = search;
      statuses = search;
      prices = search;
      flows = search;
      pre_dispatch = search;
    }

-- and one that has them all is accepted.
pub accepted_by : (awaited : ℕ) (b : List ℕ) → Sound awaited b → accepts awaited b ≡ true
unfolding interval_outcome interval_conditions
accepted_by awaited b s =
    let one = ap not (eq-eqb (length b) 168 s.whole) in
    let two = le-ltb highest_number (record_number b) s.in_range in
    let three = ap not (eq-eqb (record_number b) awaited s.in_turn) in
    none_met_by (interval_conditions awaited b) (search (one, two, three))

-- What it takes for settings to be accepted (N2): neither 19 nor 20.
pub record Settled (set : Settings) : Type 0 where
  pub inside : inside_spans set ≡ true
  pub rises : rising set.edges ≡ true

-- What it takes for an opening to be accepted: none of the numbers 9, 10, 19, 20.
pub record SoundOpening (o : Opening) : Type 0 where
  pub in_range : o.first ≤ highest_number
  pub begins_half_hour : place o.first ≡ 0
  pub shares : (i : ℕ) → i < 6 → get_or o.shares i 0 ≤ 1000
  pub settings : Settled o.settings

module _ (o : Opening) where
  abbrev late : Bool
  late = ltb highest_number o.first

  abbrev astride : Bool
  astride = not (eqb (place o.first) 0)

  abbrev conditions : List Condition
  conditions = open_conditions o.first o.shares o.settings

  -- An accepted opening has them all,
  pub opened_is : opens o ≡ true → SoundOpening o
  unfolding open_outcome open_conditions
  opened_is e =
      let none = none_met conditions e in
      let nine = both_false late astride (search) in
      record {
        in_range = ltb-false highest_number o.first nine.0;
        begins_half_hour = eqb-true (place o.first) 0 (not-false (eqb (place o.first) 0) nine.1);
        shares = λ i l. leb-true (get_or o.shares i 0) 1000 (each_at (share_ok o.shares) 6 (not-false (each 6 (share_ok o.shares)) (search)) i l);
        settings = record { inside = not-false (inside_spans o.settings) (search); rises = not-false (rising o.settings.edges) (search) };
      }

  -- and one that has them all is accepted.
  pub opened_by : SoundOpening o → opens o ≡ true
  unfolding open_outcome open_conditions
  opened_by s =
      let ten = ap not (each_by (share_ok o.shares) 6 (λ i l. le-leb (get_or o.shares i 0) 1000 (s.shares i l))) in
      let nineteen = ap not s.settings.inside in
      let twenty = ap not s.settings.rises in
      none_met_by conditions (search (nine, ten, nineteen, twenty))
    where
      nine : (late || astride) ≡ false
      nine = simp (le-ltb highest_number o.first s.in_range, eq-eqb (place o.first) 0 s.begins_half_hour)
