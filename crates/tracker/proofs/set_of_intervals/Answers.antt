-- As its records end in their turn, so the set does.
use Rattle.std.proofs.Common.{◌≡◌, refl, sym, ◌∙◌}
use Rattle.rules.specs.declared.SetAnswer.{SetAnswer}
use Rattle.rules.specs.Sets.{set_outcome, set_of}
use Rattle.tracker.proofs.InTurn.{is_taken, is_refused}
use Rattle.tracker.proofs.Promise.{set_promise}
use Rattle.tracker.proofs.set_of_intervals.Goals as goal
use Rattle.tracker.proofs.set_of_intervals.Goals.{in-Ok, in-Err}

pub returns : goal.returns
unfolding set_of
returns c =
    let t = c.args.tracker in
    let s = c.args.bytes.now in
    let end = set_outcome t.awaited s in
    let answer : SetAnswer = record { outcome = c.match-after_all.outcome.0; tracker = c.match-after_all.outcome.1 } in
    let is : answer ≡ set_of t s =
    elim c.match-after_all.branch [
      | in-Ok w ↦ let r = is_taken end (sym c.after_all.ensures ∙ w.in-Ok.is) in rw (w.outcome-is, r.0, r.1) refl
      | in-Err w ↦ let e = is_refused end _ (sym c.after_all.ensures ∙ w.in-Err.is) in rw (w.outcome-is, e) refl
    ] in
    set_promise t c.requires s is
