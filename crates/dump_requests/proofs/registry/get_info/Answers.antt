use Rattle.std.proofs.Common.{ap, ◌∙◌, rules}
use Rattle.tbl_model.specs.State.{Tables}
use Rattle.tbl_model.specs.Tables.{table_at}
use Rattle.validation.proofs.Ready.{some_is}
use Rattle.dump_requests.proofs.registry.get_info.Goals as goal

pub returns-in_ok-bytes-in-Ok-clause-effect : goal.returns-in_ok-bytes-in-Ok-clause-effect
returns-in_ok-bytes-in-Ok-clause-effect c = λ s same_tables same_apps.
    let t = some_is (table_at c.args.tables.now c.in-Ok.row) c.in-Ok.ensures.table in
    let there = ap (λ (tables : Tables). table_at tables c.in-Ok.row) c.keep_check_word.ensures.same ∙ t.1 in
    let bytes = c.in_ok-bytes-in-Ok.ensures ∙ c.«record».ensures.record t.0 there in
    rw (c.in-Ok.ensures.ok s same_tables same_apps t.0 t.1) (search rules)
