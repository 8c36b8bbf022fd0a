use Rattle.tbl_model.specs.Effects.{answered}
use Rattle.tbl_model.specs.Sharing.{send_registry_effect}
use Rattle.tbl_model.specs.declared.telemetry.Shown.TheVariants.{Registry}
use Rattle.tbl_kinds.specs.declared.status.TheConstants.Status.{SUCCESS}
use Rattle.desk.proofs.ByName.{named_made, missing_made}
use Rattle.dump_requests.proofs.registry.send_registry.Goals as goal

pub returns-in_default : goal.returns-in_default
unfolding send_registry_effect
returns-in_default g c =
    record { served = missing_made g.C.Validator c.args.desk.now _ c.plain.result c.args.name.now (λ s row t. record (answered s SUCCESS 0) { shown = Registry row }) 0 c.requires.empty c.plain.ensures.status c.plain.ensures.detail c.in_default.ensures.missing }

pub returns : goal.returns
unfolding send_registry_effect
returns g c = record {
  served = rw c.name_table.ensures (named_made g.C.Validator c.args.desk.now _ c.in_ok-answer.answer c.args.name.now (λ s row t. record (answered s SUCCESS 0) { shown = Registry row }) 0 c.show_record.new.desk c.in-Some.table c.in-Some.ensures.table c.in-Some.ensures.found c.in_ok-answer.ensures.served);
}
