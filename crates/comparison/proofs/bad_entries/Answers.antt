-- The entries one after the other.
use Rattle.std.proofs.Common.{◌≡◌, refl, sym, ap, ◌∙◌, ◌||◌, ℕ, List, [], ◌∷◌, map, length, ◌%◌, rules}
use Rattle.std.specs.List.{list_any}
use Rattle.std.proofs.lemmas.Iterator.{YieldsList-from_slice}
use Rattle.std.proofs.lemmas.Iterator.Search.{any_from_yields_List}
use borrow.Author.Tests.{tests, eq-eqb, eqb-true}
use Rattle.comparison.specs.Entries.{entry_of, entry_length, entries_in, bad_entry, bad_entries}
use Rattle.comparison.proofs.bad_entries.Goals as goal

of_each : (bs : List (List ℕ)) → list_any bad_entry (map entry_of bs) ≡ list_any (λ b. bad_entry (entry_of b)) bs
of_each [] = refl
of_each (b ∷ bs) = ap (λ t. bad_entry (entry_of b) || t) (of_each bs)

pub returns-else-not-is_empty : goal.returns-else-not-is_empty
unfolding bad_entries entries_in
returns-else-not-is_empty c =
    any_from_yields_List (λ b. bad_entry (entry_of b)) _ _ _ c.any.ensures.ran (YieldsList-from_slice c.as_chunks.result.0.now cc) (λ x b q k. search (rules, tests))
    ∙ sym (of_each c.as_chunks.result.0.now)
    ∙ ap (λ l. list_any bad_entry (map entry_of l)) c.as_chunks.ensures.front
    ∙ rw (eq-eqb (length c.args.entries.now % entry_length) 0 (sym c.as_chunks.ensures.back_len ∙ eqb-true (length c.as_chunks.result.1.now) 0 (sym c.is_empty.ensures ∙ c.if-not-is_empty.false))) refl
