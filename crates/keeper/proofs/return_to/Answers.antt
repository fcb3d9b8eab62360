-- The state to return to decides, or why there is none.
use Rattle.std.proofs.Common.{◌≡◌, refl, ap, ◌∙◌}
use Rattle.keeper.specs.declared.KeeperAnswer.{KeeperAnswer}
use Rattle.keeper.proofs.Promise.{return_promise}
use Rattle.keeper.proofs.Returned.{answer_by, answers}
use Rattle.keeper.proofs.return_to.Goals as goal
use Rattle.keeper.proofs.return_to.Goals.{in-Ok, in-Err}

pub returns : goal.returns
returns c =
    let keeper = c.args.keeper in
    let k = c.args.number in
    let answer : KeeperAnswer = record { outcome = c.match-state_to_return.outcome.0; keeper = c.match-state_to_return.outcome.1 } in
    let by : answer ≡ answer_by keeper c.state_to_return.result =
    elim c.match-state_to_return.branch [
      | in-Ok w ↦ rw (w.outcome-is, w.with_tracker.ensures, w.in-Ok.is) refl
      | in-Err w ↦ rw (w.outcome-is, w.in-Err.is) refl
    ] in
    return_promise keeper c.requires k (by ∙ ap (answer_by keeper) c.state_to_return.ensures ∙ answers keeper k)
