-- Document 01, "Refused calls".
use Rattle.std.specs.Prelude.{Bool, true, false, not, cond, ◌&&◌, ◌||◌, List, [], ◌∷◌, ℕ, zero, suc, Result, Ok, Err, ◌+◌, ◌*◌, ◌/◌, ◌%◌, eqb, leb, ltb, length, get_or}
use Rattle.std.proofs.Math.Option.{Option, none, some}
use Rattle.std.specs.Int.Signed.{lt_z}
use Rattle.units.specs.declared.Cents.{Cents}
use Rattle.units.specs.declared.Hundredths.{Hundredths}
use Rattle.rules.specs.declared.Refusal.{Refusal}
use Rattle.rules.specs.declared.Refusal.TheVariants.{NotARecord, NumberTooHigh, NotAwaited, BadFlags, BadStatus, BadPrice, BadFlow, BadPreDispatch, BadFirst, BadShare, BadLength, BadTrailer, BadNumbers, NotInOrder, BadRecords, NoRoom, NoDirection, OutsideSpan, NotRising, SmallScratch, NoPlace, NothingKept, BadEntries, EntriesNotRising}
use Rattle.rules.specs.declared.DirectionSettings.{DirectionSettings}
use Rattle.rules.specs.declared.Settings.{Settings}
use Rattle.rules.specs.Market.{price_ok, flow_ok, loss_ok}
use Rattle.rules.specs.Settings.{threshold_ok, edge_at, edge_ok, step_for, step_ok, offset_ok, own_at}
use Rattle.rules.specs.Interval.{place}
use Rattle.rules.specs.Record.{u32_at, record_number, flags, present, status_byte, zero_bytes, price, metered, target, losses, pre_dispatch_price, pre_dispatch_flow, pre_dispatch_losses, record_length, record_count}

-- The number of a refusal: document 01's, N2's 19 and 20, N3's 21, N11's 22 and 23, and N12's 24 and 25. There is no 18.
abbrev pub number : Refusal → ℕ
number NotARecord = 1
number NumberTooHigh = 2
number NotAwaited = 3
number BadFlags = 4
number BadStatus = 5
number BadPrice = 6
number BadFlow = 7
number BadPreDispatch = 8
number BadFirst = 9
number BadShare = 10
number BadLength = 11
number BadTrailer = 12
number BadNumbers = 13
number NotInOrder = 14
number BadRecords = 15
number NoRoom = 16
number NoDirection = 17
number OutsideSpan = 19
number NotRising = 20
number SmallScratch = 21
number NoPlace = 22
number NothingKept = 23
number BadEntries = 24
number EntriesNotRising = 25

-- How a call ends: accepted, or refused.
abbrev pub Outcome : Type 0
Outcome = Result (Unit {0}) Refusal

-- The number of an outcome: an acceptance has none.
abbrev pub number_of : {A : Type 0} → Result A Refusal → Option ℕ
number_of (Ok given) = none
number_of (Err why) = some (number why)

abbrev pub is_accepted : {E : Type 0} → Result (Unit {0}) E → Bool
is_accepted (Ok given) = true
is_accepted (Err why) = false

-- A condition under which a call is refused, and for what.
infix 70 ◌when◌
pub record Condition : Type 0 where
  pub met : Bool
  pub refusal : Refusal

abbrev pub ◌when◌ : Refusal → Bool → Condition
why when met = record { met = met; refusal = why }

-- The first condition met, as listed, gives the number; without one the call is accepted.
abbrev pub judged : List Condition → Outcome
judged [] = Ok tt
judged (c ∷ cs) = cond c.met (Err c.refusal) (judged cs)

-- The same as a number: that of the first condition met, or none.
abbrev pub number_met : List Condition → Option ℕ
number_met [] = none
number_met (c ∷ cs) = cond c.met (some (number c.refusal)) (number_met cs)

-- f holds of each number below n.
unfoldable pub each : ℕ → (ℕ → Bool) → Bool
each zero f = true
each (suc n) f = each n f && f n

-- The highest interval number.
abbrev pub highest_number : ℕ
highest_number = 1051199

-- 4 flag bits 3-7 set, bit 2 with q not 5, or a zero byte, 14 or 15 (N7), not 0;
unfoldable pub bad_flags : List ℕ → Bool
bad_flags b = not (eqb (flags b / 8) 0) || (present b && not (eqb (place (record_number b)) 5) || not (zero_bytes b))

-- 5 status not 0, 1, 2, 4, 5, 6;
abbrev pub status_ok : ℕ → Bool
status_ok x = leb x 2 || leb 4 x && leb x 6

unfoldable pub bad_status : List ℕ → Bool
bad_status b = not (each 8 (λ d. status_ok (status_byte b d)))

-- 6 price outside;
unfoldable pub bad_price : List ℕ → Bool
bad_price b = not (each 4 (λ region. price_ok (price b region)))

-- 7 flow or loss outside;
abbrev pub line_ok : List ℕ → ℕ → Bool
line_ok b i = flow_ok (metered b i) && (flow_ok (target b i) && loss_ok (losses b i))

unfoldable pub bad_flow : List ℕ → Bool
bad_flow b = not (each 6 (line_ok b))

-- 8 pre-dispatch absent and not all zero, or present and outside.
unfoldable pub pre_dispatch_zero : List ℕ → Bool
pre_dispatch_zero b = each 16 (λ i. eqb (u32_at b (104 + 4 * i)) 0)

abbrev pub pre_dispatch_line_ok : List ℕ → ℕ → Bool
pre_dispatch_line_ok b i = flow_ok (pre_dispatch_flow b i) && loss_ok (pre_dispatch_losses b i)

unfoldable pub pre_dispatch_inside : List ℕ → Bool
pre_dispatch_inside b = each 4 (λ region. price_ok (pre_dispatch_price b region)) && each 6 (pre_dispatch_line_ok b)

unfoldable pub bad_pre_dispatch : List ℕ → Bool
bad_pre_dispatch b = not (cond (present b) (pre_dispatch_inside b) (pre_dispatch_zero b))

-- Interval: 1 length not 168; 2 n above 1,051,199; 3 n not the awaited number, so an n already taken too, under any issue (N7); 4 to 8 as above.
unfoldable pub interval_conditions : ℕ → List ℕ → List Condition
interval_conditions awaited b =
    NotARecord when not (eqb (length b) 168)
    ∷ NumberTooHigh when ltb highest_number (record_number b)
    ∷ NotAwaited when not (eqb (record_number b) awaited)
    ∷ BadFlags when bad_flags b
    ∷ BadStatus when bad_status b
    ∷ BadPrice when bad_price b
    ∷ BadFlow when bad_flow b
    ∷ BadPreDispatch when bad_pre_dispatch b
    ∷ []

unfoldable pub interval_outcome : ℕ → List ℕ → Outcome
interval_outcome awaited b = judged (interval_conditions awaited b)

-- Opening: 9 first n above 1,051,199 or not a multiple of 6; 10 a share above 1000;
abbrev pub share_ok : List ℕ → ℕ → Bool
share_ok shares i = leb (get_or shares i 0) 1000

-- 19 a value outside its span (N2): the threshold, an edge, a direction's step or its offset;
abbrev pub edges_ok : List Cents → Bool
edges_ok edges = each 3 (λ i. edge_ok (edge_at edges i))

abbrev pub steps_ok : List Hundredths → Bool
steps_ok steps = each 4 (λ band. step_ok (step_for steps band))

abbrev pub direction_ok : DirectionSettings → Bool
direction_ok own = steps_ok own.steps && offset_ok own.offset

abbrev pub directions_ok : List DirectionSettings → Bool
directions_ok directions = each 8 (λ d. direction_ok (own_at directions d))

unfoldable pub inside_spans : Settings → Bool
inside_spans set = threshold_ok set.threshold && (edges_ok set.edges && directions_ok set.directions)

-- 20 edges not rising strictly (N2).
abbrev pub rises_at : List Cents → ℕ → Bool
rises_at edges i = lt_z (edge_at edges i).0 (edge_at edges (suc i)).0

unfoldable pub rising : List Cents → Bool
rising edges = each 2 (rises_at edges)

unfoldable pub open_conditions : ℕ → List ℕ → Settings → List Condition
open_conditions first shares set =
    BadFirst when (ltb highest_number first || not (eqb (place first) 0))
    ∷ BadShare when not (each 6 (share_ok shares))
    ∷ OutsideSpan when not (inside_spans set)
    ∷ NotRising when not (rising set.edges)
    ∷ []

unfoldable pub open_outcome : ℕ → List ℕ → Settings → Outcome
open_outcome first shares set = judged (open_conditions first shares set)

-- Journal write, and a set of intervals (N10): 15 length not a multiple of 168, or above 288 records.
abbrev pub most_records : ℕ
most_records = 288

unfoldable pub bad_records : List ℕ → Bool
bad_records r = not (eqb (length r % record_length) 0) || ltb most_records (record_count r)

-- Row: 17 direction above 7.
unfoldable pub row_conditions : ℕ → List Condition
row_conditions d = NoDirection when ltb 7 d ∷ []

unfoldable pub row_outcome : ℕ → Outcome
row_outcome d = judged (row_conditions d)
