use Rattle.std.proofs.Common.{Ok}
use Rattle.tbl_history.proofs.Laws.{Laws}
use Rattle.tbl_history.proofs.ServingLemmas.{stepped_continues}
use Rattle.tbl_history.proofs.TroubleLemmas.{on_fault, on_stop}
use Rattle.tbl_top.proofs.stepping.step.Goals as goal

pub returns-in-Err-BootFault-clause-continues : goal.returns-in-Err-BootFault-clause-continues
returns-in-Err-BootFault-clause-continues g c =
    let e = c.in-Err-BootFault in
    let laws : Laws g.B.Bank = record { tells_both = g.met.B.Bank.tells_both; leaves_now = g.met.B.Bank.leaves_now; leaves_only_now = g.met.B.Bank.leaves_only_now; counts_now = g.met.B.Bank.counts_now } in
    stepped_continues g.B.Bank g.C.Validator c.args.core.now c.step.new.self c.args.actor c.args.request _ laws c.requires.may_play.live (on_fault e.field-0 e.field-0-is e.ensures.stepped)

pub returns-in-Err-BootStopped-clause-continues : goal.returns-in-Err-BootStopped-clause-continues
returns-in-Err-BootStopped-clause-continues g c =
    let e = c.in-Err-BootStopped in
    let laws : Laws g.B.Bank = record { tells_both = g.met.B.Bank.tells_both; leaves_now = g.met.B.Bank.leaves_now; leaves_only_now = g.met.B.Bank.leaves_only_now; counts_now = g.met.B.Bank.counts_now } in
    stepped_continues g.B.Bank g.C.Validator c.args.core.now c.step.new.self c.args.actor c.args.request _ laws c.requires.may_play.live (on_stop e.field-0 e.field-0-is e.ensures.stepped)

pub returns-in-Ok-clause-continues : goal.returns-in-Ok-clause-continues
returns-in-Ok-clause-continues g c =
    let laws : Laws g.B.Bank = record { tells_both = g.met.B.Bank.tells_both; leaves_now = g.met.B.Bank.leaves_now; leaves_only_now = g.met.B.Bank.leaves_only_now; counts_now = g.met.B.Bank.counts_now } in
    stepped_continues g.B.Bank g.C.Validator c.args.core.now c.step.new.self c.args.actor c.args.request (Ok tt) laws c.requires.may_play.live c.in-Ok.ensures.stepped
