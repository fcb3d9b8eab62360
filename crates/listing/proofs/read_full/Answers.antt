-- A read's bytes go behind those that the buffer holds.
use Rattle.std.proofs.Common.{◌≡◌, ℕ, ◌+◌, ◌-◌, ◌≤◌, List, ◌++◌, length, take, length-take-le, sym, subst, rules}
use borrow.Rule.Slice.PartMut.{put_mid, post_of}
use lib.Seq.{take-append-add, take-append-le}
use Rattle.std.specs.Io.KnownBytes.{Consumes}
use Rattle.std.proofs.KnownBytes.{Consumes-trans}
use Rattle.listing.proofs.read_full.Goals as goal

-- the first n of the bytes ys put into xs from place a on stand behind the first a
behind : (a k n : ℕ) (xs ys : List ℕ) → a ≤ length xs → n ≤ length ys → take a xs ++ take n ys ≡ take (a + n) (put_mid a k xs ys)
behind a k n xs ys within fits =
    sym (rw (length-take-le a xs within, take-append-le n ys (post_of a k xs) fits) at (take-append-add (take a xs) (ys ++ post_of a k xs) n))

pub loop-done-preserved : goal.loop-done-preserved
loop-done-preserved g c =
    let r = c.loop-done in
    let e = behind r.done (length r.buffer - r.done) c.in_ok-n.n r.buffer c.read.new.buf r.invariant.0 c.in_ok-n.ensures.bound.0 in
    (search rules, subst (Consumes _ _) e (Consumes-trans _ _ _ _ _ r.invariant.1 c.in_ok-n.ensures.bytes.0))
