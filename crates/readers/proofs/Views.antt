-- What can be told from a view: the laws of N6 for any two rows, and what they give a caller with an answer.
-- Assumes nothing.
use mathlib.Core.Bool.{Bool, true, false, cond, false≢true}
use mathlib.Core.Path.{◌≡◌, refl, sym, ap, subst, ◌∙◌}
use Rattle.std.specs.Prelude.{Option, Some, None}
use Rattle.tracker.specs.Promise.{negative, Row}
use Rattle.readers.specs.declared.TraderView.{TraderView}
use Rattle.readers.specs.declared.ControlView.{ControlView}
use Rattle.readers.specs.Views.{seven_fields, trader_view, control_view, row_shown, Alike, shows_anything, ShowsFields}
use Rattle.readers.specs.Promise.{TraderPromise, ControlPromise}

-- Two rows alike in those seven fields give the trader the same view.
pub alike_same : (r s : Row) → Alike r s → trader_view r ≡ trader_view s
unfolding trader_view
alike_same r s a = simp (a.n, a.direction, a.applies, a.amount, a.previous, a.current, a.next) refl

-- Of a view that shows something, shown in one case only.
any_if : (b : Bool) (view : Option TraderView) → shows_anything view ≡ true → shows_anything (cond b view None) ≡ b
any_if true view any = any
any_if false view any = refl

fields_if : (r : Row) (b : Bool) (view : Option TraderView) → ShowsFields r view → ShowsFields r (cond b view None)
fields_if r true view fields = fields
fields_if r false view fields = tt

-- Anything is shown exactly if amount is negative.
pub shown_if_negative : (r : Row) → shows_anything (trader_view r) ≡ negative r.amount.0
unfolding trader_view
shown_if_negative r = any_if (negative r.amount.0) _ refl

-- What is shown are the row's fields.
pub shows_fields : (r : Row) → ShowsFields r (trader_view r)
unfolding trader_view
shows_fields r = fields_if r (negative r.amount.0) _ (record { n = refl; direction = refl; applies = refl; amount = refl; previous = refl; current = refl; next = refl })

-- What the trader's reader shows, by cases.
pub shown_below_zero : (r : Row) → negative r.amount.0 ≡ true → trader_view r ≡ Some (seven_fields r)
unfolding trader_view
shown_below_zero r below = rw below refl

pub none_else : (r : Row) → negative r.amount.0 ≡ false → trader_view r ≡ None
unfolding trader_view
none_else r not-below = rw not-below refl

-- One view of two rows that shows anything shows seven fields in which they are alike.
of_both : (r s : Row) (view : Option TraderView) → ShowsFields r view → ShowsFields s view → shows_anything view ≡ true → Alike r s
of_both r s None x y some = absurd (false≢true some)
of_both r s (Some view) x y some =
    record {
      n = sym y.n ∙ x.n;
      direction = sym y.direction ∙ x.direction;
      applies = sym y.applies ∙ x.applies;
      amount = sym y.amount ∙ x.amount;
      previous = sym y.previous ∙ x.previous;
      current = sym y.current ∙ x.current;
      next = sym y.next ∙ x.next;
    }

-- Two trader's views that show anything are equal only if those seven fields are.
pub view_tells : (r s : Row) → trader_view r ≡ trader_view s → shows_anything (trader_view r) ≡ true → Alike r s
view_tells r s e = of_both r s (trader_view r) (shows_fields r) (subst (ShowsFields s) (sym e) (shows_fields s))

-- Every field is shown: the row is the one that has the fields of its control view.
pub all_shown : (r : Row) → row_shown (control_view r) ≡ r
unfolding control_view
all_shown r = refl

-- Two control views are equal only if the rows are.
pub control_tells : (r s : Row) → control_view r ≡ control_view s → r ≡ s
control_tells r s e = sym (all_shown r) ∙ ap row_shown e ∙ all_shown s

-- what the equations of the readers bring with them
pub trader_promise : (r : Row) {view : Option TraderView} → view ≡ trader_view r → TraderPromise r view
trader_promise r e = rw e (record { is = refl; if_negative = shown_if_negative r; fields = shows_fields r; alike = alike_same r; told = view_tells r })

pub control_promise : (r : Row) {view : ControlView} → view ≡ control_view r → ControlPromise r view
control_promise r e = rw e (record { is = refl; every = all_shown r; told = control_tells r })
