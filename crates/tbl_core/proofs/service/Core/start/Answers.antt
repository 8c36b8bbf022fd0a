use Rattle.std.proofs.Common.{List, sym, subst}
use Rattle.tbl_kinds.specs.declared.entry.Entry.{Entry}
use Rattle.tbl_core.specs.Entering.{IsKept}
use Rattle.tbl_core.specs.Starting.{CoreBegins}
use Rattle.tbl_core.specs.Service.{core_of}
use Rattle.tbl_core.proofs.Starting.{core_begins, none_kept}
use Rattle.tbl_core.proofs.service.Core.start.Goals as goal

pub invariant_of-result : goal.invariant_of-result
invariant_of-result g c = subst (λ (es : List Entry). IsKept es c.in-Ok.engine) (sym c.new.ensures.items) (none_kept c.in-Ok.engine c.in-Ok.ensures.after)

pub returns-in-Ok : goal.returns-in-Ok
returns-in-Ok g c = subst (λ (es : List Entry). CoreBegins g.B.Bank c.args.bank c.args.kit c.args.admit (core_of es c.in-Ok.engine)) (sym c.new.ensures.items) (core_begins g.B.Bank c.args.bank c.args.kit c.args.admit c.in-Ok.engine c.in-Ok.ensures)
