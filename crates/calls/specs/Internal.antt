-- A script: calls of 52 words each, and records beside it that a call's AT and LEN refer to.
use Rattle.std.specs.Prelude.{List, ℕ, ◌+◌, ◌*◌}
unfoldable pub use Rattle.tracker.specs.Promise.{u32_at}

-- a call: its kind, its numbers, zeros
abbrev pub call_words : ℕ
call_words = 52

abbrev pub word_of : List ℕ → ℕ → ℕ
word_of call k = u32_at call (4 * k)

-- where the bytes end that a call refers to: AT is its first number, LEN its second
abbrev pub part_end : List ℕ → ℕ
part_end call = word_of call 1 + word_of call 2
