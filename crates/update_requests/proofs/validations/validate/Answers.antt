use Rattle.std.proofs.Common.{◌∙◌, arith}
use Rattle.tbl_model.specs.Validations.{selected, validate_by, validate_effect}
use Rattle.desk.specs.Desk.{output}
use Rattle.desk.proofs.ByName.{named_made, missing_made}
use Rattle.update_requests.proofs.validations.validate.Goals as goal

pub returns-in_default : goal.returns-in_default
unfolding validate_effect
returns-in_default g c = record {
  served = missing_made g.C.Validator c.args.desk.now (output c.args.reply.now c.args.report.now) c.plain.result c.args.name.now (λ s row t. validate_by s row t (selected t c.args.select)) 1 c.requires.empty c.plain.ensures.status c.plain.ensures.detail c.in_default.ensures.missing;
}

pub returns : goal.returns
unfolding validate_effect
returns g c =
    let room = c.in_ok-reserve.ensures.room in
    rw c.name_table.ensures (record {
      served = named_made g.C.Validator c.args.desk.now (output _ c.validate_selected-answer.new.report) c.validate_selected-answer.result c.args.name.now (λ s row t. validate_by s row t (selected t c.args.select)) 1
          _ c.in-Some.table c.in-Some.ensures.table c.in-Some.ensures.found
          (c.validate_selected-answer.ensures.made _ (record { bytes = c.requires.empty.bytes; packets = c.reserve.ensures.bytes ∙ c.requires.empty.packets; room = omega (arith, room) }));
    })
