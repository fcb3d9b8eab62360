-- `readers::trader` meets its contract: none unless amount is negative, and else the seven fields.
use Rattle.std.proofs.Common.{sym, ◌∙◌}
use Rattle.readers.proofs.Views.{shown_below_zero, none_else, trader_promise}
use Rattle.readers.proofs.trader.Goals as goal

pub returns-then-is_negative : goal.returns-then-is_negative
returns-then-is_negative c = let row = c.args.row in trader_promise row (sym (shown_below_zero row (sym c.is_negative.ensures ∙ c.if-is_negative.true)))

pub returns-else-is_negative : goal.returns-else-is_negative
returns-else-is_negative c = let row = c.args.row in trader_promise row (sym (none_else row (sym c.is_negative.ensures ∙ c.if-is_negative.false)))
