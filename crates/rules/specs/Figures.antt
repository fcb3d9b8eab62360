-- Document 01, "Figures to prove (P)", an example of N4, N8's leftover at both ends of its range, N2's settings, and N9's unrounded sum: one
-- table about the definitions.
use Rattle.std.specs.Prelude.{Ok, Bool, true, false, List, [], ◌∷◌, ◌++◌, map, ◌≡◌, ℕ, zero, suc, ◌*◌, ◌-◌, ◌/◌, ◌%◌, ℤ, pos, negsuc, length, replicate}
use Rattle.signed.specs.Range.{minus}
use Rattle.units.specs.declared.Cents.{Cents}
use Rattle.units.specs.declared.Hundredths.{Hundredths}
use Rattle.units.specs.declared.Grains.{Grains}
use Rattle.units.specs.Units.{cents, hundredths, grains}
use Rattle.rules.specs.declared.Line.{Line}
use Rattle.rules.specs.declared.Residue.{Residue}
use Rattle.rules.specs.declared.Event.{Event}
use Rattle.rules.specs.declared.Tracker.{Tracker}
use Rattle.rules.specs.declared.Row.{Row}
use Rattle.rules.specs.declared.Settings.{Settings}
use Rattle.rules.specs.declared.Period.TheVariants.{None, Held}
use Rattle.rules.specs.declared.Status.TheVariants.{Unbound}
use Rattle.rules.specs.Market.{of_directions}
use Rattle.rules.specs.Residue.{half_cent, interval_line, pre_dispatch_line, rounded, in_cents, no_residue, residue_of}
use Rattle.rules.specs.Settings.{step_for, own_at, document01}
use Rattle.rules.specs.Interval.{amount, reached, band, clamp_from, flag_of}
use Rattle.rules.specs.History.{sum_since, state_after}
use Rattle.rules.specs.Record.{residue}
use Rattle.rules.specs.Refusal.{interval_outcome}
use Rattle.rules.specs.Rounding.{span, assigned_span, unrounded, apart}
use Rattle.rules.specs.Tracker.{Opening, opening, shares_of, residue_shown, row_answer}
use Rattle.rules.specs.Calls.{run, singly}
use Rattle.rules.specs.Claim.{accepted}

-- All shares 500.
abbrev pub halves : List ℕ
halves = replicate 6 500

-- The residue of VIC1_NSW1 with VIC1 price 10,000, NSW1 price -5,000, l on VIC1-NSW1 and nothing elsewhere.
abbrev pub idle : Line
idle = interval_line (hundredths (pos 0)) (hundredths (pos 0)) (hundredths (pos 0))

abbrev pub on_vic1_nsw1 : Line → Cents
on_vic1_nsw1 l =
    let prices = cents (minus 5000) ∷ cents (pos 0) ∷ cents (pos 0) ∷ cents (pos 10000) ∷ [] in
    (residue_of prices halves (idle ∷ idle ∷ l ∷ idle ∷ idle ∷ idle ∷ []) 2).cents

-- An interval with metered and target 30,000.
abbrev pub flowing : ℤ → Line
flowing losses = interval_line (hundredths (pos 30000)) (hundredths (pos 30000)) (hundredths losses)

-- The same as a record: n = 0, all zero but those prices, and VIC1-NSW1 metered and target 30,000.
abbrev pub the_record : List ℕ
the_record =
    replicate 16 0
    ++ (120 ∷ 236 ∷ 255 ∷ 255 ∷ [])
    ++ replicate 8 0
    ++ (16 ∷ 39 ∷ 0 ∷ 0 ∷ [])
    ++ replicate 24 0
    ++ (48 ∷ 117 ∷ 0 ∷ 0 ∷ 48 ∷ 117 ∷ 0 ∷ 0 ∷ [])
    ++ replicate 104 0

-- The row of VIC1_NSW1 after that record, of a tracker opened at 0.
abbrev pub the_row : Row
the_row = (row_answer (run (opening 0 halves) (the_record ∷ [])) 2).row

-- A residue of so many cents, with so many grains left over.
abbrev pub leaving : ℤ → ℤ → Residue
leaving z g = record { cents = cents z; leftover = grains g }

-- N8's record: n = 0, all zero but the loop operating, an NSW1 price of 1, and NSW1-QLD1 and VIC1-NSW1 metered 1,200. The grains of
-- NSW1 to QLD1 are -1,200,000, those of VIC1 to NSW1 1,200,000.
abbrev pub half_cents : List ℕ
half_cents = replicate 4 0 ++ (2 ∷ []) ++ replicate 11 0 ++ (1 ∷ []) ++ replicate 15 0 ++ (176 ∷ 4 ∷ []) ++ replicate 22 0 ++ (176 ∷ 4 ∷ []) ++ replicate 110 0

-- The row of direction d after that record, of a tracker opened at 0.
abbrev pub half_cents_row : ℕ → Row
half_cents_row d = (row_answer (run (opening 0 halves) (half_cents ∷ [])) d).row

-- The four bytes of a number, little-endian; of a signed one, in two's complement.
abbrev pub bytes_of : ℕ → List ℕ
bytes_of u = u % 256 ∷ u / 256 % 256 ∷ u / 65536 % 256 ∷ u / 16777216 ∷ []

abbrev pub signed_bytes : ℤ → List ℕ
signed_bytes (pos n) = bytes_of n
signed_bytes (negsuc n) = bytes_of (4294967295 - n)

-- N9's record of interval n: all statuses 1, a QLD1 price of p and NSW1-QLD1 metered m, the rest zero. The grains of NSW1 to QLD1 are
-- 1,000 × p × m.
abbrev pub one_line : ℕ → ℤ → ℤ → List ℕ
one_line n p m = bytes_of n ++ (0 ∷ []) ++ replicate 8 1 ++ replicate 7 0 ++ signed_bytes p ++ replicate 8 0 ++ signed_bytes m ++ replicate 132 0

-- Such records of k intervals from first on, metered 1.
abbrev pub metered1 : ℕ → ℕ → ℤ → List (List ℕ)
metered1 first zero p = []
metered1 first (suc k) p = one_line first p (pos 1) ∷ metered1 (suc first) k p

-- What N9 compares, of one direction: its row's amount, the unrounded sum, the number of intervals in the span, and in how many of them the
-- grains were assigned to it.
pub record Compared : Type 0 where
  pub amount : Cents
  pub unrounded : Grains
  pub intervals : ℕ
  pub assigned_intervals : ℕ

abbrev pub comparing : ℤ → ℤ → ℕ → ℕ → Compared
comparing amount sum intervals assigned = record { amount = cents amount; unrounded = grains sum; intervals = intervals; assigned_intervals = assigned }

-- What N9 compares of direction d of a tracker t that the accepted records bs left.
abbrev pub compared_at : List ℕ → Tracker → List (List ℕ) → ℕ → Compared
compared_at shares t bs d = record {
  amount = (row_answer t d).row.amount;
  unrounded = unrounded shares d bs;
  intervals = length (span shares d bs);
  assigned_intervals = length (assigned_span shares d bs);
}

-- What N9 compares of direction d after an opening and any list of interval calls.
abbrev pub compared : Opening → List (List ℕ) → ℕ → Compared
compared o bs d = compared_at (shares_of o) (run o bs) (accepted o (singly bs)) d

-- NSW1_QLD1 after the first six intervals of a half-hour at a QLD1 price of -1,200.
abbrev pub tight : Compared
tight = compared (opening 478044 halves) (metered1 478044 6 (minus 1200)) 0

-- NSW1_QLD1 after an interval at -1,200, the same n again at -1,900, which is refused, and an interval at 1,900.
abbrev pub both_sides : Compared
both_sides = compared (opening 478044 halves) (one_line 478044 (minus 1200) (pos 1) ∷ one_line 478044 (minus 1900) (pos 1) ∷ one_line 478045 (pos 1900) (pos 1) ∷ []) 0

-- Direction d after the first k intervals of a half-hour at -1,199.
abbrev pub rounded_to_0 : ℕ → ℕ → Compared
rounded_to_0 k d = compared (opening 985284 halves) (metered1 985284 k (minus 1199)) d

-- Interval n with residue r, under review or not: flag 1, no estimate, unbound.
abbrev pub reviewed_at : Bool → ℕ → ℤ → Event
reviewed_at review n r = record {
  n = n;
  flag = true;
  residue = cents r;
  leftover = grains (pos 0);
  next = cents (pos 0);
  review = review;
  status = Unbound;
  blocked = false;
  target = hundredths (pos 0);
}

-- The same without review.
abbrev pub at : ℕ → ℤ → Event
at n r = reviewed_at false n r

-- Intervals from 6 on, of which the last is the first that reaches.
abbrev pub until8 : List Event
until8 = at 8 (minus 10000000) ∷ at 7 (pos 0) ∷ at 6 (pos 0) ∷ []

abbrev pub until11 : List Event
until11 = at 11 (minus 10000000) ∷ at 10 (pos 0) ∷ at 9 (pos 0) ∷ at 8 (pos 0) ∷ at 7 (pos 0) ∷ at 6 (pos 0) ∷ []

-- A half-hour under review whose negative r come to -10,000,000;
abbrev pub bad_half_hour : List Event
bad_half_hour = map (λ n. reviewed_at true n (minus 2000000)) (5 ∷ 4 ∷ 3 ∷ 2 ∷ 1 ∷ []) ++ (reviewed_at true 0 (pos 0) ∷ [])

-- then a mild one, without negative r and without review: its first interval;
abbrev pub mild_start : List Event
mild_start = at 6 (pos 0) ∷ bad_half_hour

-- all of it but its close;
abbrev pub mild_but_close : List Event
mild_but_close = map (λ n. at n (pos 0)) (10 ∷ 9 ∷ 8 ∷ 7 ∷ []) ++ mild_start

-- all of it.
abbrev pub mild_half_hour : List Event
mild_half_hour = at 11 (pos 0) ∷ mild_but_close

-- The amount of direction 0 after these intervals.
abbrev pub amount_after : List Event → Cents
amount_after es = amount (state_after document01 0 es).sums

-- The step of a direction at net.
abbrev pub step_at : ℕ → ℤ → Hundredths
step_at d net = step_for (own_at document01.directions d).steps (band document01.edges (cents net))

-- The steps of all eight at net, and the flags of directions 2-7 at a loop sum while the loop is operating.
abbrev pub each_step : ℤ → List Hundredths
each_step net = of_directions (λ d. step_at d net)

abbrev pub loop_flags : ℤ → List Bool
loop_flags sum = map (λ d. flag_of true (cents sum) d) (2 ∷ 3 ∷ 4 ∷ 5 ∷ 6 ∷ 7 ∷ [])

-- Whether a total without review is reached.
abbrev pub reaches : ℤ → Bool
reaches total = reached document01.threshold (at 0 (pos 0)) (cents total)

-- Settings (N2): document 01's but for the threshold.
abbrev pub with_threshold : ℤ → Settings
with_threshold z = record { threshold = cents z; edges = document01.edges; directions = document01.directions }

-- The band of each net, of edges that are one cent apart.
abbrev pub tight_bands : List ℤ → List ℕ
tight_bands nets = map (λ z. band (cents (minus 1) ∷ cents (pos 0) ∷ cents (pos 1) ∷ []) (cents z)) nets

-- The clamp from base, step and offset, in hundredths of a MW.
abbrev pub clamp_of : ℤ → ℤ → ℤ → Hundredths
clamp_of base step offset = clamp_from (hundredths base) (hundredths step) (hundredths offset)

pub record Figures : Type 0 where
  -- P1 the case above: -375,000.
  pub p1 : on_vic1_nsw1 (flowing (pos 0)) ≡ cents (minus 375000)
  pub p1_record : (interval_outcome 0 the_record ≡ Ok tt) × ((residue halves the_record 2).cents ≡ cents (minus 375000))
  pub p1_row : (the_row.amount ≡ cents (minus 375000)) × (the_row.previous ≡ cents (pos 0)) × (the_row.current ≡ cents (minus 375000)) × (the_row.applies ≡ false)
  -- P2 with losses 1,200, share 500: -377,500.
  pub p2 : on_vic1_nsw1 (flowing (pos 1200)) ≡ cents (minus 377500)
  -- P3 grains 1,199,999 give 0; 1,200,000 give 1.
  pub p3 : (rounded (grains (pos 1199999)) ≡ cents (pos 0)) × (rounded (grains (pos 1200000)) ≡ cents (pos 1))
  -- P4 grains -1,200,000 give -1.
  pub p4 : rounded (grains (minus 1200000)) ≡ cents (minus 1)
  -- P5 pre-dispatch flow 30,000, same prices: -2,250,000.
  pub p5 : on_vic1_nsw1 (pre_dispatch_line (hundredths (pos 30000)) (hundredths (pos 0))) ≡ cents (minus 2250000)
  -- P6 total -9,999,999 not reached; -10,000,000 reached.
  pub p6 : (reaches (minus 9999999) ≡ false) × (reaches (minus 10000000) ≡ true)
  -- P7 reached first at 8: period 9 to 17; again at 11: to 23.
  pub p7 : (state_after document01 0 until8).period ≡ Held 9 17 false
  pub p7_again : (state_after document01 0 (at 11 (pos 0) ∷ at 10 (pos 0) ∷ at 9 (pos 0) ∷ until8)).period ≡ Held 9 23 true
  -- P8 reached first at 11: 12 to 17.
  pub p8 : (state_after document01 0 until11).period ≡ Held 12 17 false
  -- P9 direction 4, net -500,000: step -3,000; -500,001: -5,000.
  pub p9 : (step_at 4 (minus 500000) ≡ hundredths (minus 3000)) × (step_at 4 (minus 500001) ≡ hundredths (minus 5000))
  -- P10 net -100,000 and 99,999: 0.
  pub p10 : (each_step (minus 100000) ≡ replicate 8 (hundredths (pos 0))) × (each_step (pos 99999) ≡ replicate 8 (hundredths (pos 0)))
  -- P11 base 5,000, step -10,000: 2,000.
  pub p11 : clamp_from (hundredths (pos 5000)) (hundredths (minus 10000)) (own_at document01.directions 0).offset ≡ hundredths (pos 2000)
  -- P12 loop sum 0: flag 0; -1: flag 1.
  pub p12 : (loop_flags (pos 0) ≡ replicate 6 false) × (loop_flags (minus 1) ≡ replicate 6 true)
  -- N4 a mild start clears nothing: the old sum stands, and a period may open there. It stands until the half-hour's close, which clears it.
  pub n4_opens : ((state_after document01 0 bad_half_hour).period ≡ None) × ((state_after document01 0 mild_start).period ≡ Held 7 17 false)
  pub n4_stands : (amount_after mild_but_close ≡ cents (minus 10000000)) × (sum_since mild_but_close ≡ cents (minus 10000000))
  pub n4_cleared : (amount_after mild_half_hour ≡ cents (pos 0)) × (sum_since mild_half_hour ≡ cents (pos 0))
  -- N8 grains 1,200,000 leave -1,200,000; grains -1,200,000 leave 1,200,000. Rows show it, at flag 1 (direction 0) and at flag 0 (direction
  -- 2), and 0 in the corridor's other direction.
  pub n8_ends : (in_cents (grains (pos 1200000)) ≡ leaving (pos 1) (minus 1200000)) × (in_cents (grains (minus 1200000)) ≡ leaving (minus 1) (pos 1200000))
  pub n8_rows : map (λ d. residue_shown (half_cents_row d)) (0 ∷ 1 ∷ 2 ∷ 3 ∷ []) ≡ leaving (minus 1) (pos 1200000) ∷ no_residue ∷ leaving (pos 1) (minus 1200000) ∷ no_residue ∷ []
  pub n8_flags : ((half_cents_row 0).flag ≡ true) × ((half_cents_row 2).flag ≡ false)
  -- N2 at the threshold -1 an amount of -1 opens a period, and 0 does not; at the threshold -1,000,000,000 an amount of -999,999,999 opens none, and
  -- -1,000,000,000 does.
  pub n2_at_minus_1 : ((state_after (with_threshold (minus 1)) 0 (at 6 (minus 1) ∷ [])).period ≡ Held 7 17 false) × ((state_after (with_threshold (minus 1)) 0 (at 6 (pos 0) ∷ [])).period ≡ None)
  pub n2_at_lowest : ((state_after (with_threshold (minus 1000000000)) 0 (at 6 (minus 999999999) ∷ [])).period ≡ None) × ((state_after (with_threshold (minus 1000000000)) 0 (at 6 (minus 1000000000) ∷ [])).period ≡ Held 7 17 false)
  -- Edges one cent apart make four bands.
  pub n2_bands : tight_bands (minus 2 ∷ minus 1 ∷ pos 0 ∷ pos 1 ∷ []) ≡ 0 ∷ 1 ∷ 2 ∷ 3 ∷ []
  -- The widest steps: down to an offset of 0, and of 100,000; up to the cap.
  pub n2_clamp : (clamp_of (pos 5000) (minus 100000) (pos 0) ≡ hundredths (pos 0)) × (clamp_of (pos 5000) (minus 100000) (pos 100000) ≡ hundredths (pos 100000)) × (clamp_of (pos 999999) (pos 100000) (pos 0) ≡ hundredths (pos 1000000))
  -- N9 six times -1,200,000 grains, rounded to -1 each: the bound is met exactly.
  pub n9_tight : (tight ≡ comparing (minus 6) (minus 7200000) 6 6) × (apart tight.amount tight.unrounded ≡ half_cent * 6)
  -- A refused record counts as nothing; grains above 0 add nothing, and their interval is in the span.
  pub n9_both_sides : both_sides ≡ comparing (minus 1) (minus 1200000) 2 2
  -- Five times -1,199,000 grains, each rounded to 0: the amount is 0, and the unrounded sum is not. None were assigned to QLD1_NSW1. A corridor
  -- with no flow has its grains assigned to From_To.
  pub n9_rounded_to_0 : map (rounded_to_0 5) (0 ∷ 1 ∷ 2 ∷ 3 ∷ []) ≡ comparing (pos 0) (minus 5995000) 5 5 ∷ comparing (pos 0) (pos 0) 5 0 ∷ comparing (pos 0) (pos 0) 5 5 ∷ comparing (pos 0) (pos 0) 5 0 ∷ []
  -- The half-hour's sixth interval closes it, and clears: its grains are negative, and all round to 0.
  pub n9_cleared : rounded_to_0 6 0 ≡ comparing (pos 0) (pos 0) 0 0
