-- Each share passes.
use Rattle.std.proofs.Common.{rules, ◌∙◌, leb}
use Rattle.std.proofs.lemmas.Iterator.{YieldsList-from_slice}
use Rattle.std.proofs.lemmas.Iterator.Search.{all_from_yields_List}
use borrow.Author.Tests.{tests}
use Rattle.rules.proofs.EachBelow.{each_item}
use Rattle.tracker.proofs.shares_ok.Goals as goal

pub returns : goal.returns
returns c =
    all_from_yields_List (λ share. leb share 1000) _ _ _ c.all.ensures.ran (YieldsList-from_slice c.args.shares cc) (λ x b q k. search (rules, tests))
    ∙ each_item (λ share. leb share 1000) 0 _ (search rules)
