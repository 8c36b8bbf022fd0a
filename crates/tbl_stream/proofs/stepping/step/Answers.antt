use Rattle.std.proofs.Common.{Ok, rules}
use Rattle.tbl_history.proofs.Laws.{Laws}
use Rattle.tbl_history.proofs.TroubleLemmas.{on_fault, on_stop}
use Rattle.tbl_stream.proofs.GoingLemmas.{goes_one}
use Rattle.tbl_stream.proofs.StepLemmas.{entry_of, failed_step, stopped_step}
use Rattle.tbl_stream.proofs.stepping.step.Goals as goal

pub returns-in-Err-BootFault-clause-answers : goal.returns-in-Err-BootFault-clause-answers
returns-in-Err-BootFault-clause-answers g c =
    let e = c.in-Err-BootFault in
    let laws : Laws g.B.Bank = record { tells_both = g.met.B.Bank.tells_both; leaves_now = g.met.B.Bank.leaves_now; leaves_only_now = g.met.B.Bank.leaves_only_now; counts_now = g.met.B.Bank.counts_now } in
    let steps = on_fault e.field-0 e.field-0-is e.ensures.steps in
    record {
      entry = entry_of g.B.Bank g.C.Validator c.args.engine.now c.play.new.self (c.args.entry.now.actor, c.args.entry.now.request) c.play.new.entry _ steps;
      goes = goes_one g.B.Bank laws g.C.Validator c.args.engine.now c.play.new.self (c.args.entry.now.actor, c.args.entry.now.request) c.play.new.entry _ steps c.requires.live;
      ending = tt;
      boot = failed_step g.B.Bank g.C.Validator c.args.engine.now c.play.new.self (c.args.entry.now.actor, c.args.entry.now.request) c.play.new.entry e.field-0 e.field-0-is steps;
    }

pub returns-in-Err-BootStopped-clause-answers : goal.returns-in-Err-BootStopped-clause-answers
returns-in-Err-BootStopped-clause-answers g c =
    let e = c.in-Err-BootStopped in
    let laws : Laws g.B.Bank = record { tells_both = g.met.B.Bank.tells_both; leaves_now = g.met.B.Bank.leaves_now; leaves_only_now = g.met.B.Bank.leaves_only_now; counts_now = g.met.B.Bank.counts_now } in
    let steps = on_stop e.field-0 e.field-0-is e.ensures.steps in
    record {
      entry = entry_of g.B.Bank g.C.Validator c.args.engine.now c.play.new.self (c.args.entry.now.actor, c.args.entry.now.request) c.play.new.entry _ steps;
      goes = goes_one g.B.Bank laws g.C.Validator c.args.engine.now c.play.new.self (c.args.entry.now.actor, c.args.entry.now.request) c.play.new.entry _ steps c.requires.live;
      ending = tt;
      boot = stopped_step g.B.Bank g.C.Validator c.args.engine.now c.play.new.self (c.args.entry.now.actor, c.args.entry.now.request) c.play.new.entry e.field-0 e.field-0-is steps;
    }

pub returns-in-Ok-clause-answers : goal.returns-in-Ok-clause-answers
returns-in-Ok-clause-answers g c =
    let laws : Laws g.B.Bank = record { tells_both = g.met.B.Bank.tells_both; leaves_now = g.met.B.Bank.leaves_now; leaves_only_now = g.met.B.Bank.leaves_only_now; counts_now = g.met.B.Bank.counts_now } in
    let steps = c.in-Ok.ensures.steps in
    record {
      entry = entry_of g.B.Bank g.C.Validator c.args.engine.now c.play.new.self (c.args.entry.now.actor, c.args.entry.now.request) c.play.new.entry (Ok tt) steps;
      goes = goes_one g.B.Bank laws g.C.Validator c.args.engine.now c.play.new.self (c.args.entry.now.actor, c.args.entry.now.request) c.play.new.entry (Ok tt) steps c.requires.live;
      ending = tt;
      boot = search rules;
    }
