use Rattle.std.proofs.Common.{Ok, arith, refl}
use Rattle.cmd_packets.specs.Views.{command_of}
use Rattle.desk.specs.Desk.{output}
use Rattle.tbl_core.proofs.Served.{commanded_so}
use Rattle.tbl_core.proofs.requests.commanded.Goals as goal

pub returns-in-Load : goal.returns-in-Load
returns-in-Load g c = record {
  served = commanded_so g.C.Validator c.args.desk.now c.load.new.desk (output c.load.new.reply c.load.new.report) (command_of c.args.command.now) _ 0 c.load.result (omega arith) (λ s. rw c.in-Load.is refl) c.load.ensures.served;
}

pub returns-in-Abort : goal.returns-in-Abort
returns-in-Abort g c = record {
  served = commanded_so g.C.Validator c.args.desk.now c.abort.new.desk (output c.args.reply.now c.abort.new.report) {E = Unit {0}} (command_of c.args.command.now) _ 0 (Ok c.abort.result) (omega arith) (λ s. rw c.in-Abort.is refl)
      (c.abort.ensures.made c.args.reply.now c.requires.empty);
}

pub returns-in-Validate : goal.returns-in-Validate
returns-in-Validate g c = record {
  served = commanded_so g.C.Validator c.args.desk.now c.validate.new.desk (output c.validate.new.reply c.validate.new.report) (command_of c.args.command.now) _ 1 c.validate.result (omega arith) (λ s. rw c.in-Validate.is refl) c.validate.ensures.served;
}

pub returns-in-Activate : goal.returns-in-Activate
returns-in-Activate g c = record {
  served = commanded_so g.C.Validator c.args.desk.now c.activate.new.desk (output c.activate.new.reply c.activate.new.report) (command_of c.args.command.now) _ 0 c.activate.result (omega arith) (λ s. rw c.in-Activate.is refl) c.activate.ensures.served;
}

pub returns-in-Dump : goal.returns-in-Dump
returns-in-Dump g c = record {
  served = commanded_so g.C.Validator c.args.desk.now c.dump.new.desk (output c.dump.new.reply c.dump.new.report) (command_of c.args.command.now) _ 1 c.dump.result (omega arith) (λ s. rw (c.in-Dump.is, c.copy.ensures, c.copy-in-Dump.ensures) refl) c.dump.ensures.served;
}

pub returns-in-DumpRegistry : goal.returns-in-DumpRegistry
returns-in-DumpRegistry g c = record {
  served = commanded_so g.C.Validator c.args.desk.now c.dump_registry.new.desk (output c.dump_registry.new.reply c.dump_registry.new.report) (command_of c.args.command.now) _ 1 c.dump_registry.result (omega arith) (λ s. rw c.in-DumpRegistry.is refl) c.dump_registry.ensures.served;
}

pub returns-in-SendRegistry : goal.returns-in-SendRegistry
returns-in-SendRegistry g c = record {
  served = commanded_so g.C.Validator c.args.desk.now c.send_registry.new.desk (output c.send_registry.new.reply c.send_registry.new.report) (command_of c.args.command.now) _ 0 c.send_registry.result (omega arith) (λ s. rw c.in-SendRegistry.is refl) c.send_registry.ensures.served;
}
