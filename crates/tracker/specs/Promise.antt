-- What crates above the tracker may cite, and nothing else of it or of the crates that it is made of (with the laws of proofs/Promise): the words
-- of the calls, of demand 3 with N9's bound, and of N8's law on a corridor's rows, and what the calls promise by them. (Crate `words`, which reads
-- and writes bytes for all, is no part of it.) What lies under these words is not opened from above: the tests of numbers 4 to 8, 10, 19 and 20,
-- what a record says of a direction or a corridor (event_of, grains_in, assigned_to), and what the rules make of its history (state_after).
use Rattle.std.specs.Prelude.{Err, List, [], ◌∷◌, ◌++◌, ◌≡◌, ℕ, ◌<◌}
-- amounts, flows and parts of a cent
pub use Rattle.signed.specs.Range.{minus, negative}
pub use Rattle.units.specs.declared.Cents.{Cents}
pub use Rattle.units.specs.declared.Hundredths.{Hundredths}
pub use Rattle.units.specs.declared.Grains.{Grains}
pub use Rattle.units.specs.Units.{cents, hundredths, grains, ◌+ᶜ◌, ◌+ᵍ◌, ◌-ᵍ◌, in_grains}
-- what the calls take and answer
pub use Rattle.rules.specs.declared.DirectionSettings.{DirectionSettings}
pub use Rattle.rules.specs.declared.Settings.{Settings}
pub use Rattle.rules.specs.Settings.{document01}
pub use Rattle.rules.specs.declared.Tracker.{Tracker}
pub use Rattle.rules.specs.declared.Row.{Row}
pub use Rattle.rules.specs.declared.Period.{Period}
pub use Rattle.rules.specs.declared.Period.TheVariants.{None, Held}
pub use Rattle.rules.specs.declared.Counts.{Counts}
pub use Rattle.rules.specs.declared.Notice.{Notice}
pub use Rattle.rules.specs.declared.Notice.TheVariants.{Start, End}
pub use Rattle.rules.specs.Interval.{notice_number}
pub use Rattle.rules.specs.declared.Refusal.{Refusal}
pub use Rattle.rules.specs.declared.Refusal.TheVariants.{NotARecord, NumberTooHigh, NotAwaited, BadFlags, BadStatus, BadPrice, BadFlow, BadPreDispatch, BadFirst, BadShare, BadLength, BadTrailer, BadNumbers, NotInOrder, BadRecords, NoRoom, NoDirection, OutsideSpan, NotRising, SmallScratch, NoPlace, NothingKept, BadEntries, EntriesNotRising}
pub use Rattle.rules.specs.declared.Answer.{Answer}
pub use Rattle.rules.specs.declared.RowAnswer.{RowAnswer}
-- how bytes make a number, the number of a record, its issue (N7), how conditions in their order make an outcome, and a test of each number below n
unfoldable pub use Rattle.rules.specs.Record.{u32_at, i32_at}
pub use Rattle.rules.specs.Record.{byte_at, record_number, issue}
pub use Rattle.rules.specs.Refusal.{number, Outcome, number_of, is_accepted, Condition, ◌when◌, judged, number_met}
unfoldable pub use Rattle.rules.specs.Refusal.{each}
unfoldable pub use Rattle.rules.specs.Refusal.{open_conditions, interval_conditions, row_conditions}
-- the calls and what they return, and that a tracker came from an opening and calls
pub use Rattle.rules.specs.Tracker.{Opening, opening_with, opening, first_of, shares_of, settings_of, accepts, open_of, interval_of, row_of, no_row, row_answer, after}
pub use Rattle.rules.specs.Claim.{Came}
-- records end to end, which a journal has too, and a set of intervals (N10): how it ends, and the same said by the single calls
pub use Rattle.rules.specs.Record.{record_length, record_count, record_at, records_in}
pub use Rattle.rules.specs.Refusal.{most_records}
unfoldable pub use Rattle.rules.specs.Refusal.{bad_records}
pub use Rattle.rules.specs.declared.SetRefusal.{SetRefusal}
pub use Rattle.rules.specs.declared.SetAnswer.{SetAnswer}
pub use Rattle.rules.specs.Sets.{SetOutcome, number_and_index, else_rest, accepts_set, set_of, single_outcome, AcceptedInTurn, BySingleCalls}
unfoldable pub use Rattle.rules.specs.Sets.{outcome_in_turn, set_conditions, set_outcome}
-- a list of calls from an opening, in which single intervals, on a lent tracker (N14) or not, and sets (N10) are mixed
pub use Rattle.rules.specs.Calls.{Call, Interval, Lent, Set, after_call, not_lent, singly, run}
unfoldable pub use Rattle.rules.specs.Calls.{run_calls}
-- what follows from an opening and records alone: the accepted ones, the awaited number, the history of a direction, its row
pub use Rattle.rules.specs.declared.Event.{Event}
pub use Rattle.rules.specs.declared.Status.{Status}
pub use Rattle.rules.specs.declared.Status.TheVariants.{Unbound, Bound, Violated}
pub use Rattle.rules.specs.Record.{status_numbered, event_of}
pub use Rattle.rules.specs.Interval.{fresh}
pub use Rattle.rules.specs.History.{state_after}
pub use Rattle.rules.specs.Tracker.{row}
unfoldable pub use Rattle.rules.specs.Claim.{accept_call, accepted, history, worked_row}
pub use Rattle.rules.specs.Claim.{awaited_after, accept_record, awaited_from, worked_from}
-- the words of demand 3 about a history, and the claim with its parts
pub use Rattle.rules.specs.Interval.{place, half_hour}
unfoldable pub use Rattle.rules.specs.History.{in_half_hour, latest_half_hour, any_negative, clearing, since_clearing, sum_negative}
pub use Rattle.rules.specs.History.{sum_since, estimate, under_review, got_there, GotThereWithin, lies_in}
pub use Rattle.rules.specs.Claim.{DirectionClaim, ClaimOf, Claim}
-- r with its leftover, of two directions together, and a corridor's grains in a record (N8)
pub use Rattle.rules.specs.declared.Residue.{Residue}
pub use Rattle.rules.specs.Tracker.{residue_shown}
pub use Rattle.rules.specs.Residue.{together}
pub use Rattle.rules.specs.Record.{grains_in}
-- the unrounded sum beside a direction's amount (N9)
pub use Rattle.rules.specs.Residue.{half_cent}
pub use Rattle.rules.specs.Rounding.{lower_grains, direction_grains, assigned_to}
unfoldable pub use Rattle.rules.specs.Rounding.{span, assigned_of, sum_lower}
pub use Rattle.rules.specs.Rounding.{assigned_span, unrounded, apart, DifferAtMost, NearFor, Rounding}
-- one value for each of the eight directions
pub use Rattle.rules.specs.Market.{of_directions}
-- how large the numbers of a row get
pub use Rattle.rules.specs.Bounds.{highest_residue, highest_next, highest_sum, WithinHalfCent, RowBounds}

-- An opening, with any settings (N2), returns what document 01 says: its number is that of the first condition met, or none. Its tracker is the
-- run of the empty list, and the claim of that list holds of it.
pub record OpenPromise (o : Opening) (r : Answer) : Type 0 where
  pub is : r ≡ open_of o
  pub number : number_of r.outcome ≡ number_met (open_conditions o.first o.shares o.settings)
  pub came : Came r.tracker
  pub ran : r.tracker ≡ run_calls o []
  pub claim : Claim o [] r.tracker

-- The call of a record b after a list of calls from an opening, of either kind, Interval or Lent (N14): its outcome is that of numbers 1 to 8 at the
-- number which these calls await, the tracker there is afterwards is the run of that list with this call at its end, and the claim of the longer list
-- holds of it.
pub record IntervalAfter (kind : List ℕ → Call) (o : Opening) (calls : List Call) (b : List ℕ) (r : Answer) : Type 0 where
  pub outcome : r.outcome ≡ judged (interval_conditions (awaited_from o calls) b)
  pub number : number_of r.outcome ≡ number_met (interval_conditions (awaited_from o calls) b)
  pub ran : r.tracker ≡ run_calls o (calls ++ (kind b ∷ []))
  pub claim : Claim o (calls ++ (kind b ∷ [])) r.tracker

-- An interval call on a tracker t returns what document 01 says, and it is the call after every opening and list that led to t, whatever kinds of
-- calls the list has.
pub record IntervalPromise (t : Tracker) (b : List ℕ) (r : Answer) : Type 0 where
  pub is : r ≡ interval_of t b
  pub came : Came r.tracker
  pub call : (o : Opening) (calls : List Call) → t ≡ run_calls o calls → IntervalAfter Interval o calls b r

-- An outcome, and the tracker there is afterwards, as an answer.
abbrev pub answer : Outcome → Tracker → Answer
answer outcome afterwards = record { outcome = outcome; tracker = afterwards }

-- An interval call on a lent tracker, which held t (N14): what it holds afterwards, and the answer, equal what the other call gives on t, so that all
-- that is promised there holds of them; on a refusal it holds what it held. And the call is the one after every opening and list that led to t.
pub record LentPromise (t : Tracker) (b : List ℕ) (outcome : Outcome) (afterwards : Tracker) : Type 0 where
  pub as_returned : IntervalPromise t b (answer outcome afterwards)
  pub as_before : {why : Refusal} → outcome ≡ Err why → afterwards ≡ t
  pub call : (o : Opening) (calls : List Call) → t ≡ run_calls o calls → IntervalAfter Lent o calls b (answer outcome afterwards)

-- The call of a set s (N10) after a list of calls from an opening: its outcome is that of 15 and of its records in their turn, from the number which
-- these calls await on, the tracker returned is the run of that list with this call at its end, and the claim of the longer list holds of it.
pub record SetAfter (o : Opening) (calls : List Call) (s : List ℕ) (r : SetAnswer) : Type 0 where
  pub outcome : r.outcome ≡ set_outcome (awaited_from o calls) s
  pub ran : r.tracker ≡ run_calls o (calls ++ (Set s ∷ []))
  pub claim : Claim o (calls ++ (Set s ∷ [])) r.tracker

-- The call of a set on a tracker t returns what document 02 says, also as the single calls of its records say it, and it is the call after every
-- opening and list that led to t, whatever kinds of calls the list has.
pub record SetPromise (t : Tracker) (s : List ℕ) (r : SetAnswer) : Type 0 where
  pub is : r ≡ set_of t s
  pub single_calls : BySingleCalls t s r
  pub came : Came r.tracker
  pub call : (o : Opening) (calls : List Call) → t ≡ run_calls o calls → SetAfter o calls s r

-- A row call returns what document 01 says, and demand 3 holds of the row returned, in all its parts, N9's among them, for every opening and list
-- that led to t.
pub record RowPromise (t : Tracker) (d : ℕ) (r : RowAnswer) : Type 0 where
  pub is : r ≡ row_answer t d
  pub number : number_of r.outcome ≡ number_met (row_conditions d)
  pub bounded : RowBounds r.row
  pub claim : (o : Opening) (calls : List Call)
      → t ≡ run_calls o calls
      → d < 8
      → DirectionClaim o d (accepted o calls) r.row
