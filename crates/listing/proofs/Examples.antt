-- Document 01's example line, a row whose line is the longest, and that no line shows a leftover (N8).
-- Assumes nothing.
use mathlib.Core.Path.{◌≡◌, refl}
use mathlib.Core.Bool.{true, false}
use mathlib.Core.List.{flatten}
use Prim.Native.Nat.{ℕ}
use lib.IntN.{ℤ, pos}
use lib.ListN.{length}
use Rattle.text.specs.Ascii.{ascii}
use Rattle.text.specs.Text.{number_cell, signed_cell, signed_of, dec_of, decimal}
use Rattle.tracker.specs.Promise.{minus, cents, hundredths, grains, Grains, Row, None}
use Rattle.listing.specs.Line.{name_of, amounts_of, line_of, listed_of}
use Rattle.listing.specs.Listing.{longest_line}

-- a row of direction 2 outside a period, of which the line shows n, amount and current, both z, and next
abbrev outside : ℕ → ℤ → ℤ → ℤ → Row
outside n z previous next = record {
  n = n;
  direction = 2;
  residue = cents (pos 0);
  applies = false;
  previous = cents previous;
  current = cents z;
  amount = cents z;
  next = cents next;
  net = cents (pos 0);
  period = None;
  counts = record { unbound = 0; violated = 0 };
  blocked = false;
  flag = true;
  clamp = hundredths (pos 2000000);
  notice = 0;
  leftover = grains (pos 0);
}

pub the_example : line_of (outside 0 (minus 375000) (pos 0) (pos 0)) ≡ ascii "0,VIC1_NSW1,0,-375000,0,-375000,0,2000000\n"
unfolding line_of amounts_of flatten name_of number_cell signed_cell signed_of dec_of decimal
the_example = refl

pub is_listed : listed_of (outside 0 (minus 375000) (pos 0) (pos 0)) ≡ true
unfolding listed_of
is_listed = refl

pub the_longest : length (line_of (outside 1051199 (minus 6307200000000000) (minus 6307200000000000) (minus 36000000000))) ≡ longest_line
unfolding line_of amounts_of flatten name_of number_cell signed_cell signed_of dec_of decimal
the_longest = refl

-- A row with another leftover.
abbrev with_leftover : Grains → Row → Row
with_leftover g r = record {
  n = r.n;
  direction = r.direction;
  residue = r.residue;
  applies = r.applies;
  previous = r.previous;
  current = r.current;
  amount = r.amount;
  next = r.next;
  net = r.net;
  period = r.period;
  counts = r.counts;
  blocked = r.blocked;
  flag = r.flag;
  clamp = r.clamp;
  notice = r.notice;
  leftover = g;
}

-- Its line is the same, and it is listed or not as before.
pub leftover_unlisted : (g : Grains) (r : Row) → (line_of (with_leftover g r) ≡ line_of r) × (listed_of (with_leftover g r) ≡ listed_of r)
unfolding line_of amounts_of listed_of
leftover_unlisted g r = (refl, refl)
