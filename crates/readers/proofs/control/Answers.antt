-- `readers::control` meets its contract: every field.
use Rattle.std.proofs.Common.{refl}
use Rattle.readers.specs.Views.{control_view}
use Rattle.readers.proofs.Views.{control_promise}
use Rattle.readers.proofs.control.Goals as goal

pub returns : goal.returns
unfolding control_view
returns c = control_promise c.args.row refl
