-- What the two readers promise of every row: what they show, and, beside any other row, what can be told from it (N6).
use Rattle.std.specs.Prelude.{true, ◌≡◌, Option}
use Rattle.tracker.specs.Promise.{negative, Row}
use Rattle.readers.specs.declared.TraderView.{TraderView}
use Rattle.readers.specs.declared.ControlView.{ControlView}
use Rattle.readers.specs.Views.{trader_view, control_view, row_shown, Alike, shows_anything, ShowsFields}

-- The trader's reader returns what document 02 says of a row r: something exactly if the amount is negative, and then the row's fields. A row s
-- alike in the seven fields gives the trader the same view; two views that show anything are equal only if those seven fields are.
pub record TraderPromise (r : Row) (view : Option TraderView) : Type 0 where
  pub is : view ≡ trader_view r
  pub if_negative : shows_anything view ≡ negative r.amount.0
  pub fields : ShowsFields r view
  pub alike : (s : Row) → Alike r s → view ≡ trader_view s
  pub told : (s : Row) → view ≡ trader_view s → shows_anything view ≡ true → Alike r s

-- The control reader returns what document 02 says of a row r, every field: r is the row that has the view's fields. Two control views are equal
-- only if the rows are.
pub record ControlPromise (r : Row) (view : ControlView) : Type 0 where
  pub is : view ≡ control_view r
  pub every : row_shown view ≡ r
  pub told : (s : Row) → view ≡ control_view s → r ≡ s
