-- What the call promises, by its answer. The figures add up, since both lists rise wherever the call is accepted.
-- Assumes nothing.
use Rattle.std.proofs.Common.{◌≡◌, refl, sym, ap, ◌∙◌, ℕ, List, [], ◌∷◌, Ok, Err, Result}
use borrow.Author.Tests.{not-false}
use mathlib.Core.Option.{Option}
use Rattle.tracker.specs.Promise.{Refusal, Outcome, number_of, judged}
use Rattle.tracker.proofs.Promise.{number_met_lem}
use Rattle.journal_rules.specs.Journal.{first, part, read_conditions}
use Rattle.journal_rules.specs.Survivors.{survivors}
use Rattle.journal_rules.specs.Promise.{unless_refused}
use Rattle.journal_rules.specs.Run.{opened_at, turn_conditions, opened_conditions, run_conditions, rows_in_turn}
use Rattle.journal_rules.proofs.Accept.{accepted_iff, none_before, one_before}
use Rattle.journal_rules.proofs.RunInTurn.{tests}
use Rattle.comparison.specs.declared.Comparison.{Comparison}
use Rattle.comparison.specs.Comparison.{compared, AddUp}
use Rattle.comparison.specs.Entries.{entries_in, rising}
use Rattle.comparison.specs.Internal.{Rises}
use Rattle.comparison.proofs.EntriesRise.{rises}
use Rattle.comparison.proofs.Totals.{add_up}
use Rattle.beside.specs.Beside.{entry_conditions, ours, our_rows, beside_conditions, beside_outcome, figures_by, beside_of, values_of, beside_values}
use Rattle.beside.specs.Promise.{BesidePromise}
use Rattle.beside.proofs.RowsRise.{both_accepted, rows_rise}

module _ (s b : List ℕ) where
  -- our rows rise wherever no number refuses the run
  ours_rise : judged (run_conditions s) ≡ Ok tt → Rises (our_rows s)
  unfolding run_conditions our_rows opened_conditions rows_in_turn
  ours_rise e = go (survivors (part s)) (both_accepted (read_conditions s) (opened_conditions (first s) (survivors (part s))) e).1
    where
      go : (bs : List (List ℕ)) → judged (opened_conditions (first s) bs) ≡ Ok tt → Rises (ours (rows_in_turn (opened_at (first s)) [] bs))
      go [] e = tt
      go (b ∷ bs) e = rows_rise (opened_at (first s)) [] (b ∷ bs) (both_accepted (tests (opened_at (first s))) (turn_conditions (opened_at (first s)) [] (b ∷ bs)) e).1

  pub entries_rise : judged (entry_conditions b) ≡ Ok tt → Rises (entries_in b)
  unfolding entry_conditions
  entries_rise e = rises (entries_in b) (not-false (rising (entries_in b)) ((accepted_iff (entry_conditions b)).0 e).1.0)

  says : (o : Outcome) {n : Option ℕ}
      → number_of o ≡ n
      → (number_of (figures_by o (compared (our_rows s) (entries_in b))) ≡ n)
      × (beside_values (figures_by o (compared (our_rows s) (entries_in b))) ≡ unless_refused n (values_of (compared (our_rows s) (entries_in b))))
  says (Ok done) e = (e, rw (← e) refl)
  says (Err why) e = (e, rw (← e) refl)

  added : (o : Outcome) → beside_outcome s b ≡ o → {f : Comparison} → figures_by o (compared (our_rows s) (entries_in b)) ≡ Ok f → AddUp (our_rows s) (entries_in b) f
  unfolding beside_outcome beside_conditions
  added (Ok done) ok {f} e =
      let both = both_accepted (run_conditions s) (entry_conditions b) ok in
      let same : compared (our_rows s) (entries_in b) ≡ f = cc in
      rw same at (add_up (our_rows s) (entries_in b) (ours_rise both.0) (entries_rise both.1))
  added (Err why) ok e = absurd (cc)

  promise : {answer : Result Comparison Refusal} → answer ≡ beside_of s b → BesidePromise s b answer
  unfolding beside_of beside_outcome
  promise e =
      let told = says (beside_outcome s b) (number_met_lem (beside_conditions s b)) in
      record {
        is = e;
        number = ap number_of e ∙ told.0;
        values = ap beside_values e ∙ told.1;
        add_up = λ q. added (beside_outcome s b) refl (sym e ∙ q);
      }

  -- refused by the run, or for the entries, or neither
  pub refused_run : {why : Refusal} {answer : Result Comparison Refusal} → judged (run_conditions s) ≡ Err why → answer ≡ Err why → BesidePromise s b answer
  unfolding beside_of beside_outcome beside_conditions
  refused_run e is = promise (is ∙ sym (ap (λ (o : Outcome). figures_by o (compared (our_rows s) (entries_in b))) (one_before (run_conditions s) (entry_conditions b) e)))

  module _ (ran : judged (run_conditions s) ≡ Ok tt) where
    pub by_entries : {o : Outcome} {answer : Result Comparison Refusal} → judged (entry_conditions b) ≡ o → answer ≡ figures_by o (compared (our_rows s) (entries_in b)) → BesidePromise s b answer
    unfolding beside_of beside_outcome beside_conditions
    by_entries e is =
        promise (is ∙ sym (ap (λ (o : Outcome). figures_by o (compared (our_rows s) (entries_in b))) (none_before (run_conditions s) (entry_conditions b) ran ∙ e)))
