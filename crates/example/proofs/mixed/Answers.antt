-- `example::mixed` meets its contract: the run of the empty list, then each call at the list's end, then the row's claim, also with single calls.
use Rattle.std.proofs.Common.{List, [], ◌∷◌, ◌++◌, ℕ, arith, subst}
use Rattle.tracker.specs.Promise.{opening, DirectionClaim, Interval, Set}
use Rattle.tracker.proofs.Promise.{accepted_singly}
use Rattle.example.proofs.mixed.Goals as goal

pub returns : goal.returns
returns c =
    let o = opening c.args.first c.args.shares in
    let before = Interval c.args.bytes.now ∷ [] in
    let one = (c.interval-one.ensures.call o [] c.open-opened.ensures.ran).ran in
    let more = (c.set_of_intervals-more.ensures.call o before one).ran in
    let claim = c.row.ensures.claim o (before ++ (Set c.args.records.now ∷ [])) more (omega arith) in
    (claim, λ ok. subst (λ (bs : List (List ℕ)). DirectionClaim o 6 bs c.row.result.row) (accepted_singly o before c.args.records.now ok) claim)
