use Rattle.tbl_model.specs.Activations.{activation_of, activate_command_effect}
use Rattle.desk.specs.Desk.{output}
use Rattle.desk.proofs.ByName.{named_made, missing_made}
use Rattle.update_requests.proofs.activations.activate.Goals as goal

pub returns-in_default : goal.returns-in_default
unfolding activate_command_effect
returns-in_default g c = record {
  served = missing_made g.C.Validator c.args.desk.now (output c.args.reply.now c.args.report.now) c.plain.result c.args.name.now activation_of 0 c.requires.empty c.plain.ensures.status c.plain.ensures.detail c.in_default.ensures.missing;
}

pub returns : goal.returns
unfolding activate_command_effect
returns g c = rw c.name_table.ensures (record {
  served = named_made g.C.Validator c.args.desk.now (output _ c.request_activation-answer.new.report) c.request_activation-answer.result c.args.name.now activation_of 0
      _ c.in-Some.table c.in-Some.ensures.table c.in-Some.ensures.found (c.request_activation-answer.ensures.made _ c.in_ok-take_notice_room.ensures.free);
})
