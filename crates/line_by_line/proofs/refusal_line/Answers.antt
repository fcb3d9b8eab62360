-- A refusal's line is the only one.
use Rattle.std.proofs.Common.{arith}
use mathlib.Core.List.{flatten, append-nil}
use Rattle.tracker.specs.Promise.{number}
use Rattle.listing.specs.Listing.{refused_line}
use Rattle.listing.proofs.ListingLength.{ended_short}
use Rattle.listing.proofs.RefusalNumbers.{two_digits}
use Rattle.line_by_line.proofs.refusal_line.Goals as goal

pub refused-requires : goal.refused-requires
refused-requires c = omega (arith, ended_short (number c.args.why) (two_digits c.args.why), c.requires)

pub returns-then-k-eq0 : goal.returns-then-k-eq0
unfolding flatten
returns-then-k-eq0 c = rw c.if-k-eq0.true (rw (append-nil (refused_line (number c.args.why))) at c.refused.ensures)
