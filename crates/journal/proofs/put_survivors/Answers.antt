-- The next survivor is put behind those that are there.
use Rattle.std.proofs.Common.{◌≡◌, ap, sym, ◌∙◌, List, ℕ, [], ◌∷◌, ◌++◌, length, arith, append_assoc, length-append, append-nil}
use mathlib.Core.List.{flatten}
use Rattle.words.proofs.Parts.{nothing, chained, room_behind}
use Rattle.journal.proofs.put_survivors.Goals as goal

one_more : {all b : List ℕ} (done : List ℕ) {left others : List (List ℕ)} → all ≡ done ++ flatten left → left ≡ b ∷ others → all ≡ (done ++ b) ++ flatten others
unfolding flatten
one_more {b = b} done {others = others} whole next = whole ∙ ap (λ (w : List (List ℕ)). done ++ flatten w) next ∙ sym (append_assoc done b (flatten others))

pub loop-bytes-init : goal.loop-bytes-init
loop-bytes-init c =
    let all = c.into_iter-bytes-iterator.ensures.into_iter_gives ∙ c.among-bytes-items.ensures.survivors c.requires.0 in
    (tt, tt, record { done = []; whole = sym (ap flatten all); there = nothing _ })

pub put_bytes-n-requires : goal.put_bytes-n-requires
put_bytes-n-requires c =
    let so_far = c.loop-bytes.invariant.2 in
    let whole = one_more so_far.done so_far.whole c.in-Some.ensures.steps in
    room_behind c.in-Some.bytes.now so_far.there (omega (arith, c.requires.1, ap length whole, length-append {A = ℕ}))

pub loop-bytes-preserved : goal.loop-bytes-preserved
loop-bytes-preserved c =
    let so_far = c.loop-bytes.invariant.2 in
    (tt, tt, record { done = so_far.done ++ c.in-Some.bytes.now; whole = one_more so_far.done so_far.whole c.in-Some.ensures.steps; there = chained so_far.there c.put_bytes-n.ensures })

pub returns : goal.returns
unfolding flatten
returns c =
    let so_far = c.loop-bytes.invariant.2 in
    rw (so_far.whole ∙ ap (λ (w : List (List ℕ)). so_far.done ++ flatten w) c.in-None.ensures.steps.0 ∙ append-nil so_far.done) so_far.there
