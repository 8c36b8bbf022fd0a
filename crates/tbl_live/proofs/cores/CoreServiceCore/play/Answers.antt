use Rattle.std.proofs.Common.{rules}
use Rattle.tbl_history.proofs.Laws.{Laws}
use Rattle.tbl_history.proofs.ServingLemmas.{played_adds, played_continues}
use Rattle.tbl_live.proofs.cores.CoreServiceCore.play.Goals as goal

pub returns-in-None : goal.returns-in-None
returns-in-None g c =
    let laws : Laws g.B.Bank = record { tells_both = g.met.B.Bank.tells_both; leaves_now = g.met.B.Bank.leaves_now; leaves_only_now = g.met.B.Bank.leaves_only_now; counts_now = g.met.B.Bank.counts_now } in
    let step = c.step.ensures in
    record {
      lent = search rules;
      adds = played_adds g.B.Bank g.C.Validator c.args.self.now c.step.new.self c.args.actor c.args.request c.step.result step.stepped;
      continues = played_continues g.B.Bank g.C.Validator c.args.self.now c.step.new.self c.args.actor c.args.request c.step.result laws c.requires.live step.stepped;
      pins = step.pins;
      live = step.live;
      err = step.err;
    }

pub returns-in-Some : goal.returns-in-Some
returns-in-Some g c =
    let laws : Laws g.B.Bank = record { tells_both = g.met.B.Bank.tells_both; leaves_now = g.met.B.Bank.leaves_now; leaves_only_now = g.met.B.Bank.leaves_only_now; counts_now = g.met.B.Bank.counts_now } in
    let step = c.step_read.ensures in
    record {
      lent = search rules;
      adds = played_adds g.B.Bank g.C.Validator c.args.self.now c.step_read.new.self c.args.actor c.args.request c.step_read.result step.stepped;
      continues = played_continues g.B.Bank g.C.Validator c.args.self.now c.step_read.new.self c.args.actor c.args.request c.step_read.result laws c.requires.live step.stepped;
      pins = step.pins;
      live = step.live;
      err = step.err;
    }
