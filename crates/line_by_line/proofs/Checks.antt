-- 21 at its ends, what becomes of the scratch, and lines of the listing, for inputs that hold no journal or an empty one.
-- Assumes nothing.
use Rattle.std.proofs.Math.Seq.{drop-append_seam}
use borrow.Author.Tests.{le-ltb, lt-ltb}
use Rattle.std.proofs.Common.{◌≡◌, ℕ, ◌<◌, ◌≤◌, length, drop, arith, List, [], ◌∷◌, Ok, Err, replicate, refl}
use Rattle.text.specs.Ascii.{ascii}
use Rattle.text.specs.Text.{number_cell, dec_of, decimal}
use Rattle.tracker.specs.Promise.{SmallScratch, u32_at, each}
use Rattle.tracker.proofs.Promise.{numbers}
use Rattle.journal_rules.specs.Journal.{bad_length, bad_trailer, bad_numbers, in_order, first_number, last_number, part, read_conditions, read_outcome, read_of, records_of}
use Rattle.journal_rules.specs.Survivors.{survivors, survivors_from}
use Rattle.listing.specs.Listing.{header, refused_line, record_lines, body_lines, input_lines, lines_of}
use Rattle.line_by_line.specs.NextLine.{line_after, least_scratch, scratch_after, next_line_conditions, next_line_outcome}

-- the only number
pub line_numbers : (room : ℕ) → numbers (next_line_conditions room) ≡ 21 ∷ []
unfolding next_line_conditions
line_numbers room = refl

-- under 96 bytes
pub ends : next_line_outcome 0 ∷ next_line_outcome 95 ∷ next_line_outcome 96 ∷ next_line_outcome 65536 ∷ []
    ≡ Err SmallScratch ∷ Err SmallScratch ∷ Ok tt ∷ Ok tt ∷ []
unfolding next_line_outcome next_line_conditions
ends = refl

-- a scratch that is taken is so long, and each such one is taken
pub room : (d : List ℕ) → next_line_outcome (length d) ≡ Ok tt → least_scratch ≤ length d
unfolding next_line_outcome next_line_conditions
room d e = grind arith

pub taken : (d : List ℕ) → least_scratch ≤ length d → next_line_outcome (length d) ≡ Ok tt
unfolding next_line_outcome next_line_conditions
taken d long = rw (le-ltb (length d) least_scratch long) refl

-- the scratch is as it was on a refusal, and behind the line on acceptance
pub untouched : (journal : List ℕ) (given : ℕ) (d : List ℕ) → length d < least_scratch → scratch_after journal given d ≡ d
unfolding scratch_after next_line_outcome next_line_conditions
untouched journal given d short = rw (lt-ltb (length d) least_scratch short) refl

pub kept_behind : (journal : List ℕ) (given : ℕ) (d : List ℕ) → least_scratch ≤ length d
    → drop (length (line_after journal given)) (scratch_after journal given d) ≡ drop (length (line_after journal given)) d
unfolding scratch_after
kept_behind journal given d long = let line = line_after journal given in rw (taken d long) (drop-append_seam line (drop (length line) d))

-- ---- lines
pub header_first : (journal : List ℕ) → line_after journal 0 ≡ header
unfolding lines_of
header_first journal = refl

-- no bytes at all: the refusal is a line, and the last one
pub no_journal : line_after [] 1 ∷ line_after [] 2 ∷ [] ≡ ascii "refused,11\n" ∷ [] ∷ []
unfolding lines_of input_lines body_lines read_of read_outcome read_conditions bad_length refused_line number_cell dec_of decimal
no_journal = refl

-- an empty journal: the header alone
pub empty_journal : line_after (replicate 16 0) 1 ≡ []
unfolding lines_of input_lines body_lines read_of read_outcome read_conditions bad_length bad_trailer bad_numbers in_order first_number last_number part records_of survivors survivors_from record_lines u32_at each
empty_journal = refl
