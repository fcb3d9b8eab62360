-- Document 02, N6: traders and the control room look at the same row.
use Rattle.std.specs.Prelude.{Bool, true, false, cond, ◌≡◌, ℕ, Option, Some, None}
use Rattle.tracker.specs.Promise.{negative, Cents, Row}
use Rattle.readers.specs.declared.TraderView.{TraderView}
use Rattle.readers.specs.declared.ControlView.{ControlView}

-- The trader's reader shows interval, direction, applies, amount, previous, current and next, and only if amount is negative; else it shows none.
abbrev pub seven_fields : Row → TraderView
seven_fields r = record { n = r.n; direction = r.direction; applies = r.applies; amount = r.amount; previous = r.previous; current = r.current; next = r.next }

unfoldable pub trader_view : Row → Option TraderView
trader_view r = cond (negative r.amount.0) (Some (seven_fields r)) None

-- The control reader shows every field, the leftover (N8) among them.
unfoldable pub control_view : Row → ControlView
control_view r = record { 0 = r }

-- The row that has the fields of a control view.
abbrev pub row_shown : ControlView → Row
row_shown view = view.0

-- Seven values that are those fields of a row.
pub record SevenFields (r : Row) (n' direction' : ℕ) (applies' : Bool) (amount' previous' current' next' : Cents) : Type 0 where
  pub n : n' ≡ r.n
  pub direction : direction' ≡ r.direction
  pub applies : applies' ≡ r.applies
  pub amount : amount' ≡ r.amount
  pub previous : previous' ≡ r.previous
  pub current : current' ≡ r.current
  pub next : next' ≡ r.next

-- Two rows alike in those seven fields, whatever clamp, counts and period they hold, and the other six.
abbrev pub Alike : Row → Row → Type 0
Alike r s = SevenFields r s.n s.direction s.applies s.amount s.previous s.current s.next

-- A trader's view that shows anything.
abbrev pub shows_anything : Option TraderView → Bool
shows_anything None = false
shows_anything (Some view) = true

-- What it shows are the row's fields.
abbrev pub ShowsFields : Row → Option TraderView → Type 0
ShowsFields r None = Unit {0}
ShowsFields r (Some view) = SevenFields r view.n view.direction view.applies view.amount view.previous view.current view.next
