use Rattle.reply_packets.specs.Counters.{counts_view}
use Rattle.tbl_core.specs.Service.{parts_view}
use Rattle.tbl_core.proofs.Answering.{answered_alone}
use Rattle.tbl_core.proofs.parts.Parts.answer.Goals as goal

pub returns-in-File : goal.returns-in-File
returns-in-File g c =
    answered_alone g.B.Bank g.C.Validator (parts_view c.args.self.now) (parts_view c.uplink_call.new.self) (counts_view c.args.telemetry.now.counters) c.args.telemetry.now.report c.args.entry.now c.uplink_call.new.entry c.uplink_call.result c.requires.stands.numbers c.requires.stands.nothing c.uplink_call.ensures

pub returns-in-Time : goal.returns-in-Time
returns-in-Time g c =
    answered_alone g.B.Bank g.C.Validator (parts_view c.args.self.now) (parts_view c.uplink_call-in-Time.new.self) (counts_view c.args.telemetry.now.counters) c.args.telemetry.now.report c.args.entry.now c.uplink_call-in-Time.new.entry c.uplink_call-in-Time.result c.requires.stands.numbers c.requires.stands.nothing c.uplink_call-in-Time.ensures
