-- The keeper's tracker came from an opening and calls on it, and its row is that of the keeper.
use Rattle.keeper.proofs.Promise.{came_tracker, keeper_row_promise}
use Rattle.keeper.proofs.row.Goals as goal

pub row-requires : goal.row-requires
row-requires c = came_tracker c.args.keeper.now c.requires

pub returns : goal.returns
returns c = keeper_row_promise c.args.keeper.now c.args.direction c.row.ensures
