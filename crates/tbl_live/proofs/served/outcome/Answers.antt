use Rattle.std.proofs.Common.{◌∙◌, ap, Err}
use Rattle.tbl_live.proofs.StepLemmas.{outcome_fault, outcome_stop}
use Rattle.tbl_live.proofs.served.outcome.Goals as goal

pub returns-in-Err-BootFault : goal.returns-in-Err-BootFault
returns-in-Err-BootFault g c =
    let is = c.in-Err-BootFault.is in
    let last = c.take_last-later-in-Err-BootFault.ensures in
    record { outcome = outcome_fault (g.K.ServiceCore.core c.args.core.now).entries c.args.done _ _ _ (is ∙ ap Err (rw is at c.in-Err-BootFault.field-0-is)) last.last; room = last.room }

pub returns-in-Err-BootStopped : goal.returns-in-Err-BootStopped
returns-in-Err-BootStopped g c =
    let is = c.in-Err-BootStopped.is in
    let last = c.take_last-later-in-Err-BootStopped.ensures in
    record { outcome = outcome_stop (g.K.ServiceCore.core c.args.core.now).entries c.args.done _ _ _ (is ∙ ap Err (rw is at c.in-Err-BootStopped.field-0-is)) last.last; room = last.room }
