-- Document 01, `clampday`: a row as a line of the listing, and which rows are printed.
use Rattle.std.specs.Prelude.{Bool, cond, ◌||◌, ℕ, get_or}
use mathlib.Core.List.{List, [], ◌∷◌, ◌++◌, flatten}
use Prim.Native.String.{String}
use Rattle.text.specs.Ascii.{ascii}
use Rattle.text.specs.Text.{number_cell, signed_cell}
use Rattle.tracker.specs.Promise.{negative, Row}

-- Direction 2c is From_To of corridor c, 2c+1 is To_From.
abbrev pub names : List String
names = "NSW1_QLD1" ∷ "QLD1_NSW1" ∷ "VIC1_NSW1" ∷ "NSW1_VIC1" ∷ "VIC1_SA1" ∷ "SA1_VIC1" ∷ "NSW1_SA1" ∷ "SA1_NSW1" ∷ []

-- A cell ends with a comma, the last one of a line with a newline.
abbrev pub comma : ℕ
comma = 44

abbrev pub newline : ℕ
newline = 10

unfoldable pub name_of : ℕ → List ℕ
name_of d = ascii (get_or names d "") ++ (comma ∷ [])

-- A yes is 1, a no is 0.
abbrev pub mark : Bool → ℕ
mark b = cond b 1 0

-- interval,direction,applies,amount,previous,current,next,clamp: cells end to end. Amounts are in cents, the clamp in hundredths.
abbrev pub amount_cells : Row → List (List ℕ)
amount_cells r = signed_cell r.amount.0 comma ∷ signed_cell r.previous.0 comma ∷ signed_cell r.current.0 comma ∷ signed_cell r.next.0 comma ∷ []

unfoldable pub amounts_of : Row → List ℕ
amounts_of r = flatten (amount_cells r)

abbrev pub line_cells : Row → List (List ℕ)
line_cells r =
    number_cell r.n comma
    ∷ name_of r.direction
    ∷ number_cell (mark r.applies) comma
    ∷ amounts_of r
    ∷ signed_cell r.clamp.0 newline
    ∷ []

unfoldable pub line_of : Row → List ℕ
line_of r = flatten (line_cells r)

-- Printed are rows where amount or next is negative or applies is 1.
unfoldable pub listed_of : Row → Bool
listed_of r = negative r.amount.0 || (negative r.next.0 || r.applies)
