use Rattle.std.proofs.Common.{None, sym, arith}
use Rattle.std.proofs.lemmas.List.{set_past}
use Rattle.sharing.proofs.apps.free.Goals as goal

pub returns-then-past : goal.returns-then-past
returns-then-past c = sym (set_past c.args.names.now c.args.place None (omega arith))
