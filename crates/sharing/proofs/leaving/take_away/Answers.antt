use Rattle.std.proofs.Common.{◌∙◌}
use Rattle.sharing.proofs.GivenUp.{there, given, goes_alone}
use Rattle.sharing.proofs.leaving.take_away.Goals as goal

pub remove-requires : goal.remove-requires
remove-requires c = there c.args.tables.now c.args.handle c.args.row c.requires

pub free_handle-requires : goal.free_handle-requires
free_handle-requires c = rw c.remove.ensures (given c.args.tables.now c.args.handle c.args.row c.requires)

pub returns : goal.returns
returns c = c.free_handle.ensures ∙ rw c.remove.ensures (goes_alone c.args.tables.now c.args.handle c.args.row c.requires)
