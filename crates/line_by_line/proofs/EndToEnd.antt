-- What calls with 0, 1, 2, … lines already given give, end to end, is the listing that clampday prints.
-- Assumes nothing.
use Rattle.std.proofs.Common.{◌≡◌, ℕ, zero, suc, ◌+◌, ◌<◌, ◌≤◌, Bool, true, false, ◌||◌, List, [], ◌∷◌, ◌++◌, length, get_or, take, drop, refl, sym, ◌∙◌, arith}
use Rattle.std.specs.List.{All}
use Rattle.std.proofs.lemmas.List.Elements.{All-head, All-tail}
use Rattle.std.proofs.lemmas.List.{append-nil, take_all, take_more, drop_all, get_or_past}
use Rattle.std.proofs.Math.Seq.{take-append_seam}
use borrow.Author.Tests.{ltb-false}
use lib.Dec.{ltb}
use mathlib.Core.List.{flatten}
use Rattle.words.proofs.Parts.{flatten-append}
use Rattle.journal_rules.specs.Journal.{longest_journal, trailer_length, bad_length, read_conditions, read_outcome, read_of}
use Rattle.listing.specs.Listing.{ended_by, body_lines, input_lines, lines_of, listing_of, listing_in}
use Rattle.line_by_line.proofs.Checks.{taken}
use Rattle.line_by_line.specs.NextLine.{journal_lines, line_after, least_scratch, next_line_of, scratch_after, bytes_of_call, bytes_from, EndToEnd}

abbrev Long : List ℕ → Type 0
Long d = least_scratch ≤ length d

-- a call from such a scratch gives its line
one_line : (journal : List ℕ) (k : ℕ) (d : List ℕ) → Long d → bytes_of_call (next_line_of journal k (length d)) (scratch_after journal k d) ≡ line_after journal k
unfolding next_line_of scratch_after
one_line journal k d long = let line = line_after journal k in rw (taken d long) (take-append_seam line (drop (length line) d))

-- lines from line k on: line k, and those behind it
from_line : (lines : List (List ℕ)) (k : ℕ) → flatten (drop k lines) ≡ get_or lines k [] ++ flatten (drop (suc k) lines)
unfolding flatten
from_line [] k = rw (drop_all k none (omega arith), get_or_past none k [] (omega arith)) refl
  where
    none : List (List ℕ)
    none = []
from_line (line ∷ lines) zero = refl
from_line (line ∷ lines) (suc k) = from_line lines k

all_from : (journal : List ℕ) (ds : List (List ℕ)) → All Long ds → (k : ℕ) → length (journal_lines journal) ≤ k + length ds
    → bytes_from journal k ds ≡ flatten (drop k (journal_lines journal))
unfolding bytes_from flatten
all_from journal [] long k many = rw (drop_all k (journal_lines journal) (omega (arith, many))) refl
all_from journal (d ∷ ds) long k many =
    rw (one_line journal k d (All-head Long d ds long), all_from journal ds (All-tail Long d ds long) (suc k) (omega (arith, many)))
    (sym (from_line (journal_lines journal) k))

-- a journal that is too long is refused, and so is input beyond the program's buffer
too_long : (journal : List ℕ) → ltb longest_journal (length journal) ≡ true → body_lines journal ≡ ended_by 11
unfolding body_lines read_of read_outcome read_conditions bad_length
too_long journal e = rw (e, either (ltb (length journal) trailer_length)) refl
  where
    either : (b : Bool) → (b || true) ≡ true
    either true = refl
    either false = refl

pub whole : (journal : List ℕ) → listing_of journal false ≡ listing_in longest_journal journal
unfolding lines_of input_lines
whole journal = go (ltb longest_journal (length journal)) refl
  where
    go : (more : Bool) → ltb longest_journal (length journal) ≡ more → listing_of journal false ≡ listing_in longest_journal journal
    go true e = rw (e, too_long journal e) refl
    go false e = rw (e, take_all longest_journal journal (ltb-false longest_journal (length journal) e)) refl

pub end_to_end : (journal : List ℕ) → EndToEnd journal
end_to_end journal ds enough = all_from journal ds enough.long 0 (omega (arith, enough.many)) ∙ whole journal

-- the lines given, and one more
pub one_more : (journal : List ℕ) (given : ℕ) → given < length (journal_lines journal)
    → flatten (take (given + 1) (journal_lines journal)) ≡ flatten (take given (journal_lines journal)) ++ line_after journal given
unfolding flatten
one_more journal given h = rw (take_more (journal_lines journal) given [] h, flatten-append, append-nil)
