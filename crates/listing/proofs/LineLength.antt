-- How long a line is: no line of a tracker's row, newline included, is longer than the longest.
-- Assumes nothing.
use mathlib.Core.Path.{◌≡◌, refl, ap}
use mathlib.Core.Bool.{Bool, true, false}
use mathlib.Core.List.{[], ◌∷◌, ◌++◌, map, flatten, append-nil}
use Prim.Native.Nat.{ℕ, ◌<◌, ◌≤◌}
use native.Mathlib.Omega.{arith}
use borrow.Author.Tests.{ltb-false}
use lib.Dec.{ltb}
use lib.IntN.{nat_abs}
use lib.ListN.{length, get_or, length-append}
use Rattle.text.specs.Ascii.{ascii}
use Rattle.text.specs.Text.{number_cell, signed_cell}
use Rattle.text.proofs.Decimal.{short_count, short_cell, cell_plain}
use Rattle.tracker.specs.Promise.{Row, RowBounds}
use Rattle.journal_rules.proofs.EightDirections.{each_direction}
use Rattle.listing.specs.Line.{names, comma, newline, mark, name_of, amounts_of, line_of}
use Rattle.listing.specs.Listing.{longest_line}

pub name_parts : (d : ℕ) → d < 8 → name_of d ≡ get_or (map ascii names) d [] ++ (comma ∷ [])
unfolding name_of
name_parts = each_direction name_of (λ d. get_or (map ascii names) d [] ++ (comma ∷ [])) [] refl

-- the cells, end to end
pub amounts_parts : (r : Row) → amounts_of r ≡ signed_cell r.amount.0 comma ++ (signed_cell r.previous.0 comma ++ (signed_cell r.current.0 comma ++ signed_cell r.next.0 comma))
unfolding amounts_of flatten
amounts_parts r = simp append-nil

pub line_parts : (r : Row)
    → line_of r ≡ number_cell r.n comma ++ (name_of r.direction ++ (number_cell (mark r.applies) comma ++ (amounts_of r ++ signed_cell r.clamp.0 newline)))
unfolding line_of flatten
line_parts r = simp append-nil

name_length : (d : ℕ) → d < 8 → ltb 10 (length (name_of d)) ≡ false
unfolding name_of
name_length = each_direction (λ d. ltb 10 (length (name_of d))) (λ d. false) false refl

mark_small : (b : Bool) → mark b < 10
mark_small true = omega arith
mark_small false = omega arith

pub line_short : (r : Row) → RowBounds r → length (line_of r) ≤ longest_line
line_short r h =
    let a = short_count 6 r.n comma (omega (arith, h.n)) in
    let b = ltb-false 10 (length (name_of r.direction)) (name_length r.direction h.direction) in
    let c = short_count 0 (mark r.applies) comma (omega (arith, mark_small r.applies)) in
    let d = short_cell 15 r.amount.0 comma (omega (arith, h.amount)) in
    let e = short_cell 15 r.previous.0 comma (omega (arith, h.previous)) in
    let f = short_cell 15 r.current.0 comma (omega (arith, h.current)) in
    let n = short_cell 10 r.next.0 comma (omega (arith, h.next)) in
    let i = ap length (cell_plain r.clamp.0 newline h.unsigned) in
    let j = short_count 6 (nat_abs r.clamp.0) newline (omega (arith, h.clamp)) in
    rw (line_parts r, amounts_parts r) (omega (arith, length-append {A = ℕ}))
