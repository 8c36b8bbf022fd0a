use Rattle.tbl_model.specs.Tables.{table_at}
use Rattle.validation.proofs.Ready.{some_is}
use Rattle.load_requests.proofs.owner_loads.judge.Goals as goal

pub judge-requires : goal.judge-requires
judge-requires g c =
    let t = some_is (table_at c.args.desk.now.tables c.args.row) c.requires.table in
    rw (c.validator-number.ensures t.0 t.1) (c.requires.kit t.0 t.1)
