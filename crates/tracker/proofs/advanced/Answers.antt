-- The events are the record's, and the directions are stepped by them.
use Rattle.std.proofs.Common.{◌≡◌, ◌∙◌, List, ℕ, suc, arith, rules}
use Rattle.rules.specs.declared.Direction.{Direction}
use Rattle.rules.specs.declared.Settings.{Settings}
use Rattle.rules.specs.Tracker.{tracker, advanced}
use Rattle.rules.proofs.Accepted.{accepted_is}
use Rattle.tracker.proofs.Advance.{readable, all_steppable, stepped_is}
use Rattle.tracker.proofs.advanced.Goals as goal

-- a tracker whose fields are these, one by one
built : (set : Settings) (shares : List ℕ) {n m k : ℕ} {ds es : List Direction} → n ≡ m → k ≡ suc m → ds ≡ es → tracker set shares n k ds ≡ tracker set shares m (suc m) es
built set shares e f g = λ i. tracker set shares (e i) (f i) (g i)

pub events-events-requires : goal.events-events-requires
events-events-requires c = readable c.args.t c.requires.0 c.args.r.now c.requires.1 (search rules)

pub step_all-directions-requires : goal.step_all-directions-requires
step_all-directions-requires c = all_steppable c.args.t c.requires.0 c.args.r.now c.requires.1 c.events-events.ensures

pub overflow_add-result : goal.overflow_add-result
overflow_add-result c = rw c.number-n.ensures (omega (arith, (accepted_is c.args.t.awaited c.args.r.now c.requires.1).in_range))

pub returns : goal.returns
unfolding advanced
returns c =
    let n = c.number-n.ensures in
    built c.args.t.settings c.args.t.shares n (omega (arith, n)) (c.step_all-directions.ensures ∙ stepped_is c.args.t c.requires.0 c.args.r.now c.requires.1 c.events-events.ensures)
