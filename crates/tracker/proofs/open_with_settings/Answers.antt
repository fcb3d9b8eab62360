-- By its outcome: what it brings with it is the claim of the empty list.
use Rattle.std.proofs.Common.{◌≡◌, refl, sym, ◌∙◌, Ok}
use Rattle.rules.specs.Refusal.{open_outcome}
use Rattle.rules.specs.Tracker.{open_of}
use Rattle.tracker.specs.Promise.{opening_with}
use Rattle.tracker.proofs.Promise.{open_promise}
use Rattle.tracker.proofs.open_with_settings.Goals as goal
use Rattle.tracker.proofs.open_with_settings.Goals.{in-Ok, in-Err}

pub returns : goal.returns
unfolding open_of
returns c =
    let a = c.args in
    let outcome = c.open_outcome-outcome in
    elim c.match-outcome.branch [
      | in-Ok w ↦
          let e : open_outcome a.first a.shares a.settings ≡ Ok tt = sym outcome.ensures ∙ w.in-Ok.is in
          open_promise (opening_with a.first a.shares a.settings) (rw (outcome.ensures, e, c.fresh_tracker.ensures, w.first-is) refl)
      | in-Err w ↦
          let e = sym outcome.ensures ∙ w.in-Err.is in
          open_promise (opening_with a.first a.shares a.settings) (rw (outcome.ensures, e, c.fresh_tracker.ensures, w.first-is, w.document01.ensures) refl)
    ]
