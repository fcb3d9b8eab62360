-- Document 01, "Record, opening, row, journal": the 168 bytes of a record, what they say of a direction, and records end to end.
use Rattle.std.specs.Prelude.{Bool, cond, ◌&&◌, List, [], ◌∷◌, ℕ, ◌+◌, ◌*◌, ◌-◌, ◌/◌, ◌%◌, ◌^◌, eqb, ltb, ℤ, pos, length, get_or, take, drop}
use Rattle.std.specs.Simd.{first_chunks}
use Rattle.signed.specs.Range.{minus}
use Rattle.units.specs.declared.Cents.{Cents}
use Rattle.units.specs.declared.Hundredths.{Hundredths}
use Rattle.units.specs.declared.Grains.{Grains}
use Rattle.units.specs.Units.{cents, hundredths, -ʰ◌}
use Rattle.rules.specs.declared.Line.{Line}
use Rattle.rules.specs.declared.Residue.{Residue}
use Rattle.rules.specs.declared.Status.{Status}
use Rattle.rules.specs.declared.Status.TheVariants.{Unbound, Bound, Violated}
use Rattle.rules.specs.declared.Event.{Event}
use Rattle.rules.specs.Market.{corridor_of, reverse}
use Rattle.rules.specs.Residue.{interval_line, pre_dispatch_line, over_lines, corridor_grains, residue_of}
use Rattle.rules.specs.Interval.{loop_sum, flag_of, next_of}

-- A byte; little-endian, a u32 and an i32 (two's complement).
abbrev pub byte_at : List ℕ → ℕ → ℕ
byte_at b at = get_or b at 0

unfoldable pub u32_at : List ℕ → ℕ → ℕ
u32_at b at = byte_at b at + 256 * byte_at b (at + 1) + 65536 * byte_at b (at + 2) + 16777216 * byte_at b (at + 3)

abbrev pub twos : ℕ → ℤ
twos u = cond (ltb u 2147483648) (pos u) (minus (4294967296 - u))

unfoldable pub i32_at : List ℕ → ℕ → ℤ
i32_at b at = twos (u32_at b at)

abbrev pub bit : ℕ → ℕ → Bool
bit k x = eqb (x / 2 ^ k % 2) 1

-- n (u32);
abbrev pub record_number : List ℕ → ℕ
record_number b = u32_at b 0

-- flags byte (bit 0 review, bit 1 loop operating, bit 2 pre-dispatch present);
abbrev pub flags : List ℕ → ℕ
flags b = byte_at b 4

abbrev pub reviewed : List ℕ → Bool
reviewed b = bit 0 (flags b)

abbrev pub operating : List ℕ → Bool
operating b = bit 1 (flags b)

abbrev pub present : List ℕ → Bool
present b = bit 2 (flags b)

-- 8 status bytes by direction (0 unbound, 1 bound, 2 violated, plus 4 if blocked);
abbrev pub status_byte : List ℕ → ℕ → ℕ
status_byte b d = byte_at b (5 + d)

-- the status by its number, without the mark of blocked;
abbrev pub status_number : List ℕ → ℕ → ℕ
status_number b d = status_byte b d % 4

-- (a 3 stands for nothing: such a record is refused)
abbrev pub status_numbered : ℕ → Status
status_numbered x = cond (eqb x 0) Unbound (cond (eqb x 2) Violated Bound)

abbrev pub status : List ℕ → ℕ → Status
status b d = status_numbered (status_number b d)

abbrev pub blocked : List ℕ → ℕ → Bool
blocked b d = bit 2 (status_byte b d)

-- Byte 13 is the issue, 0 to 255 (N7);
abbrev pub issue : List ℕ → ℕ
issue b = byte_at b 13

-- bytes 14 and 15 are zero (N7);
abbrev pub zero_bytes : List ℕ → Bool
zero_bytes b = eqb (byte_at b 14) 0 && eqb (byte_at b 15) 0

-- 4 prices; 6 × (metered, target, losses);
abbrev pub price : List ℕ → ℕ → Cents
price b region = cents (i32_at b (16 + 4 * region))

abbrev pub metered : List ℕ → ℕ → Hundredths
metered b i = hundredths (i32_at b (32 + 12 * i))

abbrev pub target : List ℕ → ℕ → Hundredths
target b i = hundredths (i32_at b (36 + 12 * i))

abbrev pub losses : List ℕ → ℕ → Hundredths
losses b i = hundredths (i32_at b (40 + 12 * i))

-- pre-dispatch: 4 prices, 6 × (flow, losses). All i32 from byte 16 on.
abbrev pub pre_dispatch_price : List ℕ → ℕ → Cents
pre_dispatch_price b region = cents (i32_at b (104 + 4 * region))

abbrev pub pre_dispatch_flow : List ℕ → ℕ → Hundredths
pre_dispatch_flow b i = hundredths (i32_at b (120 + 8 * i))

abbrev pub pre_dispatch_losses : List ℕ → ℕ → Hundredths
pre_dispatch_losses b i = hundredths (i32_at b (124 + 8 * i))

-- The four regions' prices and the six physical interconnectors' a and b: of the interval, and of the pre-dispatch half-hour.
abbrev pub of_regions : (ℕ → Cents) → List Cents
of_regions f = f 0 ∷ f 1 ∷ f 2 ∷ f 3 ∷ []

abbrev pub of_lines : (ℕ → Line) → List Line
of_lines f = f 0 ∷ f 1 ∷ f 2 ∷ f 3 ∷ f 4 ∷ f 5 ∷ []

unfoldable pub prices : List ℕ → List Cents
prices b = of_regions (price b)

abbrev pub line_at : List ℕ → ℕ → Line
line_at b i = interval_line (metered b i) (target b i) (losses b i)

unfoldable pub lines : List ℕ → List Line
lines b = of_lines (line_at b)

unfoldable pub pre_dispatch_prices : List ℕ → List Cents
pre_dispatch_prices b = of_regions (pre_dispatch_price b)

abbrev pub pre_dispatch_line_at : List ℕ → ℕ → Line
pre_dispatch_line_at b i = pre_dispatch_line (pre_dispatch_flow b i) (pre_dispatch_losses b i)

unfoldable pub pre_dispatch_lines : List ℕ → List Line
pre_dispatch_lines b = of_lines (pre_dispatch_line_at b)

-- The grains of corridor c under the shares of the opening: of the interval, and of the pre-dispatch half-hour (N8).
abbrev pub grains_in : List ℕ → List ℕ → ℕ → Grains
grains_in shares b c = corridor_grains (prices b) shares (lines b) c

abbrev pub pre_dispatch_grains_in : List ℕ → List ℕ → ℕ → Grains
pre_dispatch_grains_in shares b c = corridor_grains (pre_dispatch_prices b) shares (pre_dispatch_lines b) c

-- What a record says of direction d, under the shares of the opening: the interval's residue and the pre-dispatch residue, with
-- their leftovers (N8), the loop flag, next,
abbrev pub residue : List ℕ → List ℕ → ℕ → Residue
residue shares b d = residue_of (prices b) shares (lines b) d

abbrev pub pre_dispatch_residue : List ℕ → List ℕ → ℕ → Residue
pre_dispatch_residue shares b d = residue_of (pre_dispatch_prices b) shares (pre_dispatch_lines b) d

abbrev pub flag : List ℕ → List ℕ → ℕ → Bool
flag shares b d = flag_of (operating b) (loop_sum (λ k. (residue shares b k).cents)) d

abbrev pub next : List ℕ → List ℕ → ℕ → Cents
next shares b d = next_of (flag shares b d) (record_number b) (present b) (pre_dispatch_residue shares b d).cents

-- and the corridor's target sum (negated for To_From).
abbrev pub target_sum : List ℕ → ℕ → Hundredths
target_sum b d =
    let sum = hundredths (over_lines (corridor_of d) (λ i. (target b i).0)) in
    cond (reverse d) (-ʰ sum) sum

unfoldable pub event_of : List ℕ → ℕ → List ℕ → Event
event_of shares d b = record {
  n = record_number b;
  flag = flag shares b d;
  residue = (residue shares b d).cents;
  leftover = (residue shares b d).leftover;
  next = next shares b d;
  review = reviewed b;
  status = status b d;
  blocked = blocked b d;
  target = target_sum b d;
}

-- Records end to end, as a journal and a set of intervals (N10) have them: how long one is, how many there are, record i, and all of them in a
-- list. Bytes at the end that are too few for a record are left out.
abbrev pub record_length : ℕ
record_length = 168

abbrev pub record_count : List ℕ → ℕ
record_count r = length r / record_length

abbrev pub record_at : List ℕ → ℕ → List ℕ
record_at r i = take record_length (drop (record_length * i) r)

abbrev pub records_in : List ℕ → List (List ℕ)
records_in r = first_chunks record_length (record_count r) r
