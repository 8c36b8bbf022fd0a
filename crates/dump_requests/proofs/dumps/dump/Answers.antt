use Rattle.tbl_model.specs.Validations.{selected}
use Rattle.tbl_model.specs.Dumps.{dump_by, dump_effect}
use Rattle.desk.proofs.ByName.{named_made, missing_made}
use Rattle.dump_requests.proofs.dumps.dump.Goals as goal

pub returns-in_default : goal.returns-in_default
unfolding dump_effect
returns-in_default g c =
    record { served = missing_made g.C.Validator c.args.desk.now _ c.plain.result c.args.asked.now.table (λ s row t. dump_by s c.args.asked.now.file row t (selected t c.args.asked.now.select)) 1 c.requires.empty c.plain.ensures.status c.plain.ensures.detail c.in_default.ensures.missing }

pub returns : goal.returns
unfolding dump_effect
returns g c = record {
  served = rw c.name_table.ensures (named_made g.C.Validator c.args.desk.now _ c.in_ok-answer.answer c.args.asked.now.table (λ s row t. dump_by s c.args.asked.now.file row t (selected t c.args.asked.now.select)) 1 c.dump_found.new.desk c.in-Some.table c.in-Some.ensures.table c.in-Some.ensures.found c.in_ok-answer.ensures.served);
}
