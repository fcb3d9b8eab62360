-- A record's issue, byte 13, is read by no call of the tracker (N7): under any other issue a record is refused with the same number or accepted
-- alike, says the same of each direction, and leaves the same tracker.
-- Assumes nothing.
use mathlib.Core.Path.{◌≡◌, ap, ap₂, fun_ext}
use mathlib.Core.Bool.{not, cond, ◌&&◌}
use mathlib.Core.List.{List}
use Prim.Native.Nat.{ℕ, ◌+◌, ◌*◌, ◌<◌}
use native.Mathlib.Omega.{arith}
use lib.Dec.{eqb, lit<}
use lib.ListN.{set, length-set}
use lib.Seq.{get_or-set_other}
use Rattle.units.specs.declared.Hundredths.{Hundredths}
use Rattle.units.specs.Units.{cents, hundredths, -ʰ◌}
use Rattle.rules.specs.declared.Tracker.{Tracker}
use Rattle.rules.specs.Market.{price_ok, corridor_of, reverse}
use Rattle.rules.specs.Residue.{over_lines}
use Rattle.rules.specs.Record.{byte_at, u32_at, i32_at, record_number, flags, status_byte, price, target, pre_dispatch_price, of_regions, of_lines, prices, line_at, lines, pre_dispatch_prices, pre_dispatch_line_at, pre_dispatch_lines, target_sum, event_of}
use Rattle.rules.specs.Refusal.{each, status_ok, line_ok, pre_dispatch_line_ok, bad_flags, bad_status, bad_price, bad_flow, pre_dispatch_zero, pre_dispatch_inside, bad_pre_dispatch, interval_conditions, interval_outcome}
use Rattle.rules.proofs.EachBelow.{each_same}
use Rattle.rules.specs.Tracker.{step_all, advanced, interval_of}

-- The record b under issue i.
abbrev pub under_issue : ℕ → List ℕ → List ℕ
under_issue i b = set b 13 i

module _ (i : ℕ) (b : List ℕ) where
  -- every other byte, and so every number after it
  byte_same : (at : ℕ) → (at ≡ 13 → ⊥) → byte_at (under_issue i b) at ≡ byte_at b at
  byte_same at other = get_or-set_other b 13 at i 0 other

  word_same : (at : ℕ) → 13 < at → u32_at (under_issue i b) at ≡ u32_at b at
  unfolding u32_at
  word_same at l =
      rw (byte_same at (λ e. omega arith), byte_same (at + 1) (λ e. omega arith), byte_same (at + 2) (λ e. omega arith), byte_same (at + 3) (λ e. omega arith))

  int_same : (at : ℕ) → 13 < at → i32_at (under_issue i b) at ≡ i32_at b at
  unfolding i32_at
  int_same at l = rw (word_same at l)

  pub number_same : record_number (under_issue i b) ≡ record_number b
  unfolding u32_at
  number_same = rw (byte_same 0 (λ e. omega arith), byte_same 1 (λ e. omega arith), byte_same 2 (λ e. omega arith), byte_same 3 (λ e. omega arith))

  byte_14_on : (at : ℕ) → 13 < at → byte_at (under_issue i b) at ≡ byte_at b at
  byte_14_on at l = byte_same at (λ e. omega arith)

  flags_same : flags (under_issue i b) ≡ flags b
  flags_same = byte_same 4 (λ e. omega arith)

  status_same : (d : ℕ) → d < 8 → status_byte (under_issue i b) d ≡ status_byte b d
  status_same d l = byte_same (5 + d) (λ e. omega arith)

  -- the record's numbers, of the interval and of the pre-dispatch half-hour
  price_same : (region : ℕ) → price (under_issue i b) region ≡ price b region
  price_same region = ap cents (int_same (16 + 4 * region) (omega arith))

  pre_dispatch_price_same : (region : ℕ) → pre_dispatch_price (under_issue i b) region ≡ pre_dispatch_price b region
  pre_dispatch_price_same region = ap cents (int_same (104 + 4 * region) (omega arith))

  target_same : (l : ℕ) → target (under_issue i b) l ≡ target b l
  target_same l = ap hundredths (int_same (36 + 12 * l) (omega arith))

  line_same : (l : ℕ) → line_at (under_issue i b) l ≡ line_at b l
  line_same l = rw (int_same (32 + 12 * l) (omega arith), int_same (36 + 12 * l) (omega arith), int_same (40 + 12 * l) (omega arith))

  pre_dispatch_line_same : (l : ℕ) → pre_dispatch_line_at (under_issue i b) l ≡ pre_dispatch_line_at b l
  pre_dispatch_line_same l = rw (int_same (120 + 8 * l) (omega arith), int_same (124 + 8 * l) (omega arith))

  prices_same : prices (under_issue i b) ≡ prices b
  unfolding prices
  prices_same = ap of_regions (fun_ext price_same)

  pre_dispatch_prices_same : pre_dispatch_prices (under_issue i b) ≡ pre_dispatch_prices b
  unfolding pre_dispatch_prices
  pre_dispatch_prices_same = ap of_regions (fun_ext pre_dispatch_price_same)

  lines_same : lines (under_issue i b) ≡ lines b
  unfolding lines
  lines_same = ap of_lines (fun_ext line_same)

  pre_dispatch_lines_same : pre_dispatch_lines (under_issue i b) ≡ pre_dispatch_lines b
  unfolding pre_dispatch_lines
  pre_dispatch_lines_same = ap of_lines (fun_ext pre_dispatch_line_same)

  targets_same : (d : ℕ) → target_sum (under_issue i b) d ≡ target_sum b d
  targets_same d =
      ap (λ (f : ℕ → Hundredths). let sum = hundredths (over_lines (corridor_of d) (λ l. (f l).0)) in cond (reverse d) (-ʰ sum) sum) (fun_ext target_same)

  -- what it says of a direction
  pub event_same : (shares : List ℕ) (d : ℕ) → d < 8 → event_of shares d (under_issue i b) ≡ event_of shares d b
  unfolding event_of
  event_same shares d l =
      rw (number_same, flags_same, status_same d l, prices_same, lines_same, pre_dispatch_prices_same, pre_dispatch_lines_same, targets_same d)

  -- numbers 4 to 8, and so 1 to 8
  flags_judged : bad_flags (under_issue i b) ≡ bad_flags b
  unfolding bad_flags
  flags_judged = rw (number_same, flags_same, byte_14_on 14 (omega arith), byte_14_on 15 (omega arith))

  status_judged : bad_status (under_issue i b) ≡ bad_status b
  unfolding bad_status
  status_judged = ap not (each_same 8 (λ d. status_ok (status_byte (under_issue i b) d)) (λ d. status_ok (status_byte b d)) (λ d l. ap status_ok (status_same d l)))

  price_judged : bad_price (under_issue i b) ≡ bad_price b
  unfolding bad_price
  price_judged = ap (λ f. not (each 4 (λ region. price_ok (f region)))) (fun_ext price_same)

  line_judged : (l : ℕ) → line_ok (under_issue i b) l ≡ line_ok b l
  line_judged l = rw (int_same (32 + 12 * l) (omega arith), int_same (36 + 12 * l) (omega arith), int_same (40 + 12 * l) (omega arith))

  flow_judged : bad_flow (under_issue i b) ≡ bad_flow b
  unfolding bad_flow
  flow_judged = ap (λ f. not (each 6 f)) (fun_ext line_judged)

  zero_judged : pre_dispatch_zero (under_issue i b) ≡ pre_dispatch_zero b
  unfolding pre_dispatch_zero
  zero_judged = each_same 16 (λ k. eqb (u32_at (under_issue i b) (104 + 4 * k)) 0) (λ k. eqb (u32_at b (104 + 4 * k)) 0) (λ k l. rw (word_same (104 + 4 * k) (omega arith)))

  pre_dispatch_line_judged : (l : ℕ) → pre_dispatch_line_ok (under_issue i b) l ≡ pre_dispatch_line_ok b l
  pre_dispatch_line_judged l = rw (int_same (120 + 8 * l) (omega arith), int_same (124 + 8 * l) (omega arith))

  inside_judged : pre_dispatch_inside (under_issue i b) ≡ pre_dispatch_inside b
  unfolding pre_dispatch_inside
  inside_judged = ap₂ (λ f g. each 4 (λ region. price_ok (f region)) && each 6 g) (fun_ext pre_dispatch_price_same) (fun_ext pre_dispatch_line_judged)

  pre_dispatch_judged : bad_pre_dispatch (under_issue i b) ≡ bad_pre_dispatch b
  unfolding bad_pre_dispatch
  pre_dispatch_judged = rw (flags_same, zero_judged, inside_judged)

  pub outcome_same : (awaited : ℕ) → interval_outcome awaited (under_issue i b) ≡ interval_outcome awaited b
  unfolding interval_outcome interval_conditions
  outcome_same awaited =
      rw (length-set b 13 i, number_same, flags_judged, status_judged, price_judged, flow_judged, pre_dispatch_judged)

  -- The call itself: whatever the issue, the same answer.
  pub issue_unread : (t : Tracker) → interval_of t (under_issue i b) ≡ interval_of t b
  unfolding interval_of advanced step_all
  issue_unread t =
      let says = event_same t.shares in
      rw (outcome_same t.awaited, number_same, says 0 (lit< tt), says 1 (lit< tt), says 2 (lit< tt), says 3 (lit< tt), says 4 (lit< tt), says 5 (lit< tt), says 6 (lit< tt), says 7 (lit< tt))
