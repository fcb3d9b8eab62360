-- The header, then what follows it. The buffer has room for the longest listing.
use Rattle.std.proofs.Common.{Bool, false, arith}
use mathlib.Core.List.{flatten}
use Rattle.words.proofs.Parts.{chained, room_behind}
use Rattle.listing.specs.Listing.{header, input_lines}
use Rattle.listing.proofs.ListingLength.{listing_parts, listing_short}
use Rattle.listing.proofs.listing.Goals as goal

-- There is room whatever more is.
pub input_lines-requires : goal.input_lines-requires
unfolding header
input_lines-requires c =
    let a = c.args in
    let short = λ (more : Bool). rw (listing_parts a.input.now more) at (listing_short a.input.now more) in
    let room = λ (more : Bool). room_behind (flatten (input_lines a.input.now more)) c.put_bytes-n.ensures (omega (arith, short more)) in
    omega (arith, room a.more, room false)

pub returns-clause-value : goal.returns-clause-value
unfolding header
returns-clause-value c = let a = c.args in rw (listing_parts a.input.now a.more) (chained c.put_bytes-n.ensures c.input_lines.ensures).counted

pub returns-clause-out_after : goal.returns-clause-out_after
unfolding header
returns-clause-out_after c = let a = c.args in rw (listing_parts a.input.now a.more) (chained c.put_bytes-n.ensures c.input_lines.ensures).bytes
