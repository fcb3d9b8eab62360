-- A row by both readers, where the trader's view begins, and that it shows none of a row's other nine fields (N6).
-- Assumes nothing.
use mathlib.Core.Bool.{Bool, true, false}
use mathlib.Core.Path.{◌≡◌, refl}
use lib.IntN.{ℤ, pos}
use Rattle.std.specs.Prelude.{ℕ, Some, None}
use Rattle.tracker.specs.Promise.{minus, cents, hundredths, grains, Cents, Hundredths, Grains, Row, Period, Held, Counts, no_row}
use Rattle.readers.specs.declared.TraderView.{TraderView}
use Rattle.readers.specs.Views.{trader_view, control_view, row_shown}

-- A row of VIC1_SA1, clamped, with an amount: no two of its numbers are the same.
abbrev clamped : ℤ → Row
clamped amount = record {
  n = 11;
  direction = 4;
  residue = cents (minus 700000);
  applies = true;
  previous = cents (minus 9000000);
  current = cents (minus 2000000);
  amount = cents amount;
  next = cents (minus 500000);
  net = cents (minus 1500000);
  period = Held 9 17 false;
  counts = record { unbound = 1; violated = 2 };
  blocked = true;
  flag = false;
  clamp = hundredths (pos 392488);
  notice = 3;
  leftover = grains (minus 1200000);
}

-- Its seven fields.
abbrev seen : ℤ → TraderView
seen amount = record {
  n = 11;
  direction = 4;
  applies = true;
  amount = cents amount;
  previous = cents (minus 9000000);
  current = cents (minus 2000000);
  next = cents (minus 500000);
}

pub for_the_trader :
    trader_view (clamped (minus 11000000))
    ≡ Some (seen (minus 11000000))
unfolding trader_view
for_the_trader = refl

pub for_the_control_room :
    let view = row_shown (control_view (clamped (minus 11000000))) in
    (view.n ≡ 11)
    × (view.direction ≡ 4)
    × (view.residue ≡ cents (minus 700000))
    × (view.applies ≡ true)
    × (view.previous ≡ cents (minus 9000000))
    × (view.current ≡ cents (minus 2000000))
    × (view.amount ≡ cents (minus 11000000))
    × (view.next ≡ cents (minus 500000))
    × (view.net ≡ cents (minus 1500000))
    × (view.period ≡ Held 9 17 false)
    × (view.counts ≡ record { unbound = 1; violated = 2 })
    × (view.blocked ≡ true)
    × (view.flag ≡ false)
    × (view.clamp ≡ hundredths (pos 392488))
    × (view.notice ≡ 3)
    × (view.leftover ≡ grains (minus 1200000))
unfolding control_view
for_the_control_room = (refl, refl, refl, refl, refl, refl, refl, refl, refl, refl, refl, refl, refl, refl, refl, refl)

-- One cent is shown.
pub one_cent : trader_view (clamped (minus 1)) ≡ Some (seen (minus 1))
unfolding trader_view
one_cent = refl

-- Amount 0 is not, though a clamp applies and next is negative: the listing has such rows. The amount's own field decides, and nothing else does.
pub nothing_at_zero : trader_view (clamped (pos 0)) ≡ None
unfolding trader_view
nothing_at_zero = refl

-- Nor is the row beside number 17.
pub nothing_beside_17 : trader_view no_row ≡ None
unfolding trader_view
nothing_beside_17 = refl

-- A row r with other values where the trader does not look.
abbrev elsewhere : Row → Cents → Cents → Period → Counts → Bool → Bool → Hundredths → ℕ → Grains → Row
elsewhere r residue net period counts blocked flag clamp notice leftover = record {
  n = r.n;
  direction = r.direction;
  residue = residue;
  applies = r.applies;
  previous = r.previous;
  current = r.current;
  amount = r.amount;
  next = r.next;
  net = net;
  period = period;
  counts = counts;
  blocked = blocked;
  flag = flag;
  clamp = clamp;
  notice = notice;
  leftover = leftover;
}

-- Whatever clamp, counts and period a row holds, and the other six, the trader's view is the same.
pub others_unseen : (r : Row) (residue net : Cents) (period : Period) (counts : Counts) (blocked flag : Bool) (clamp : Hundredths) (notice : ℕ) (leftover : Grains)
    → trader_view (elsewhere r residue net period counts blocked flag clamp notice leftover) ≡ trader_view r
unfolding trader_view
others_unseen r residue net period counts blocked flag clamp notice leftover = refl
