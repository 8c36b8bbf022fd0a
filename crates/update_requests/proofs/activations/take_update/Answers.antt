use Rattle.std.proofs.Common.{sym}
use Rattle.update_requests.proofs.Refusing.{may_update}
use Rattle.update_requests.proofs.activations.take_update.Goals as goal

pub activate-requires-clause-unlocked : goal.activate-requires-clause-unlocked
activate-requires-clause-unlocked g c = λ t there. (may_update c.args.desk.now.tables c.args.row t (sym (c.in_default.ensures t there))).1
