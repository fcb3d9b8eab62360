-- Laws of the refused calls: each number as the documents write it, under its condition and in its order, where the vectors do not show it.
-- Assumes nothing.
use mathlib.Core.Path.{◌≡◌, refl}
use mathlib.Core.Bool.{false}
use mathlib.Core.List.{List, [], ◌∷◌, ◌++◌, map, foldr}
use mathlib.Core.Option.{none, some}
use Prim.Native.Nat.{ℕ, ◌+◌, ◌<◌}
use borrow.Author.Tests.{lt-ltb}
use lib.IntN.{pos}
use lib.ListN.{set, drop, replicate}
use Rattle.units.specs.Units.{hundredths}
use Rattle.rules.specs.declared.Settings.{Settings}
use Rattle.rules.specs.declared.Tracker.{Tracker}
use Rattle.std.specs.Prelude.{Ok, Err}
use Rattle.rules.specs.declared.Refusal.TheVariants.{BadFirst, BadFlags, BadFlow, BadPreDispatch, BadPrice, BadShare, BadStatus, NoDirection, NotARecord, NotAwaited, NumberTooHigh}
use Rattle.rules.specs.Market.{of_directions}
use Rattle.rules.specs.Settings.{document01}
use Rattle.rules.specs.Record.{u32_at, i32_at}
use Rattle.rules.specs.declared.Refusal.{Refusal}
use Rattle.rules.specs.Refusal.{number, Outcome, number_of, Condition, each, bad_flags, bad_status, bad_price, bad_flow, pre_dispatch_zero, pre_dispatch_inside, bad_pre_dispatch, interval_conditions, interval_outcome, inside_spans, rising, open_conditions, open_outcome, row_conditions, row_outcome}
use Rattle.rules.specs.Tracker.{opening, open_of, advanced, interval_of, row_answer}
use Rattle.rules.specs.Calls.{run_calls, run}
use Rattle.rules.specs.Figures.{halves, the_record}
use Rattle.rules.proofs.Fresh.{row_of_zeros}

-- ---- the order: the first condition met, as listed, gives the number; without one the call is accepted
-- The record of P1 with faults, each a byte and its value.
abbrev with_faults : List (ℕ × ℕ) → List ℕ
with_faults faults = foldr (λ f b. set b f.0 f.1) the_record faults

-- The faults 2 to 8: n above 1,051,199; n below that and not the awaited 0; a zero byte; a status; a price; a flow; a pre-dispatch
-- price where pre-dispatch is absent.
abbrev faults : List (ℕ × ℕ)
faults = (3, 1) ∷ (0, 1) ∷ (14, 1) ∷ (5, 3) ∷ (19, 127) ∷ (35, 127) ∷ (107, 1) ∷ []

-- The record with all eight faults, one byte too long among them; each next one mends the first fault that is left.
abbrev mended_in_turn : List (List ℕ)
mended_in_turn = (with_faults faults ++ (0 ∷ [])) ∷ map (λ k. with_faults (drop k faults)) (0 ∷ 1 ∷ 2 ∷ 3 ∷ 4 ∷ 5 ∷ 6 ∷ 7 ∷ [])

-- They give 1 to 8, and mended the record is accepted.
pub one_to_eight : map (interval_outcome 0) mended_in_turn
    ≡ Err NotARecord ∷ Err NumberTooHigh ∷ Err NotAwaited ∷ Err BadFlags ∷ Err BadStatus ∷ Err BadPrice ∷ Err BadFlow ∷ Err BadPreDispatch ∷ Ok tt ∷ []
unfolding u32_at i32_at each bad_flags bad_status bad_price bad_flow pre_dispatch_zero pre_dispatch_inside bad_pre_dispatch interval_conditions interval_outcome
one_to_eight = refl

-- An opening with both faults, the first n late or within a half-hour; then with the share alone; then with none.
abbrev opens_at : ℕ → ℕ → Outcome
opens_at first share = (open_of (opening first (set halves 5 share))).outcome

-- They give 9, then 10; with none it is accepted.
pub nine_then_ten : opens_at 1051200 1001 ∷ opens_at 1 1001 ∷ opens_at 0 1001 ∷ opens_at 0 1000 ∷ [] ≡ Err BadFirst ∷ Err BadFirst ∷ Err BadShare ∷ Ok tt ∷ []
unfolding each inside_spans rising open_conditions open_outcome open_of
nine_then_ten = refl

-- ---- the numbers of the conditions, whatever is asked
abbrev pub numbers : List Condition → List ℕ
numbers conditions = map (λ c. number c.refusal) conditions

-- An interval call has 1 to 8,
pub interval_numbers : (awaited : ℕ) (b : List ℕ) → numbers (interval_conditions awaited b) ≡ 1 ∷ 2 ∷ 3 ∷ 4 ∷ 5 ∷ 6 ∷ 7 ∷ 8 ∷ []
unfolding interval_conditions
interval_numbers awaited b = refl

-- an opening 9, 10, 19 and 20,
pub open_numbers : (first : ℕ) (shares : List ℕ) (settings : Settings) → numbers (open_conditions first shares settings) ≡ 9 ∷ 10 ∷ 19 ∷ 20 ∷ []
unfolding open_conditions
open_numbers first shares settings = refl

-- a row call 17.
pub row_numbers : (d : ℕ) → numbers (row_conditions d) ≡ 17 ∷ []
unfolding row_conditions
row_numbers d = refl

-- A refusal returns its number;
pub number_of_refusal : (A : Type 0) (k : Refusal) → number_of {A = A} (Err k) ≡ some (number k)
number_of_refusal A k = refl

-- an acceptance has none.
pub number_of_acceptance : {A : Type 0} (given : A) → number_of (Ok given) ≡ none
number_of_acceptance given = refl

-- ---- the conditions, one by one; where 4 or 5 is tried, the next condition is met too
-- Number 3, n not the awaited number (the opening's first n, then one more than the latest accepted n): what the call answers to n = 0, 1, 2.
abbrev answers_after : List (List ℕ) → List Outcome
answers_after calls = map (λ n. (interval_of (run (opening 0 halves) calls) (with_faults ((0, n) ∷ []))).outcome) (0 ∷ 1 ∷ 2 ∷ [])

-- Just opened at 0, it takes 0 alone; after one record 1 alone.
pub awaited_in_turn : (answers_after [] ≡ Ok tt ∷ Err NotAwaited ∷ Err NotAwaited ∷ []) × (answers_after (the_record ∷ []) ≡ Err NotAwaited ∷ Ok tt ∷ Err NotAwaited ∷ [])
unfolding u32_at i32_at each bad_flags bad_status bad_price bad_flow pre_dispatch_zero pre_dispatch_inside bad_pre_dispatch interval_conditions interval_outcome inside_spans rising open_conditions open_outcome open_of advanced interval_of run_calls
awaited_in_turn = (refl, refl)

-- Number 4, each of the flag bits 3-7 set.
pub high_flags : map (λ x. interval_outcome 0 (with_faults ((4, x) ∷ (5, 3) ∷ []))) (8 ∷ 16 ∷ 32 ∷ 64 ∷ 128 ∷ []) ≡ replicate 5 (Err BadFlags)
unfolding u32_at each bad_flags bad_status interval_conditions interval_outcome
high_flags = refl

-- Number 4, bit 2 with q not 5; at q = 5 it is accepted.
pub pre_dispatch_at_five : map (λ n. interval_outcome n (with_faults ((0, n) ∷ (4, 4) ∷ []))) (0 ∷ 1 ∷ 2 ∷ 3 ∷ 4 ∷ 5 ∷ []) ≡ replicate 5 (Err BadFlags) ++ (Ok tt ∷ [])
unfolding u32_at i32_at each bad_flags bad_status bad_price bad_flow pre_dispatch_zero pre_dispatch_inside bad_pre_dispatch interval_conditions interval_outcome
pre_dispatch_at_five = refl

-- Number 4, each zero byte not 0. Byte 13 is none of them (N7).
pub zero_bytes_lem : map (λ i. interval_outcome 0 (with_faults ((i, 1) ∷ (5, 3) ∷ []))) (13 ∷ 14 ∷ 15 ∷ []) ≡ Err BadStatus ∷ replicate 2 (Err BadFlags)
unfolding u32_at each bad_flags bad_status interval_conditions interval_outcome
zero_bytes_lem = refl

-- Number 5, status not 0, 1, 2, 4, 5, 6, in each of the eight bytes.
abbrev status_is : ℕ → List Outcome
status_is x = of_directions (λ d. interval_outcome 0 (with_faults ((5 + d, x) ∷ (19, 127) ∷ [])))

-- 3, 7 and 8 are refused with 5,
pub status_refused : (status_is 3 ≡ replicate 8 (Err BadStatus)) × (status_is 7 ≡ replicate 8 (Err BadStatus)) × (status_is 8 ≡ replicate 8 (Err BadStatus))
unfolding u32_at i32_at each bad_flags bad_status bad_price interval_conditions interval_outcome
status_refused = (refl, refl, refl)

-- the six are not.
pub status_taken : map status_is (0 ∷ 1 ∷ 2 ∷ 4 ∷ 5 ∷ 6 ∷ []) ≡ replicate 6 (replicate 8 (Err BadPrice))
unfolding u32_at i32_at each bad_flags bad_status bad_price interval_conditions interval_outcome
status_taken = refl

-- Number 10, a share above 1000, of each of the six.
abbrev share_is : ℕ → List Outcome
share_is k = map (λ i. open_outcome 0 (set halves i k) document01) (0 ∷ 1 ∷ 2 ∷ 3 ∷ 4 ∷ 5 ∷ [])

-- 1000 is accepted, 1001 is not.
pub above_1000 : (share_is 1000 ≡ replicate 6 (Ok tt)) × (share_is 1001 ≡ replicate 6 (Err BadShare))
unfolding each inside_spans rising open_conditions open_outcome
above_1000 = (refl, refl)

-- Number 17, direction above 7;
pub above_seven : (row_outcome 7 ≡ Ok tt) × (row_outcome 8 ≡ Err NoDirection)
unfolding row_conditions row_outcome
above_seven = (refl, refl)

-- the row is all zeros, period none.
pub beside_seventeen : (t : Tracker) (d : ℕ) → 7 < d → row_answer t d ≡ record { outcome = Err NoDirection; row = row_of_zeros 0 0 false (hundredths (pos 0)) }
unfolding row_conditions row_outcome row_answer
beside_seventeen t d above = rw (lt-ltb 7 d above) refl
