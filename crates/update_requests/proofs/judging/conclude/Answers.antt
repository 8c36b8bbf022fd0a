use Rattle.tbl_model.specs.Tables.{table_at}
use Rattle.validation.proofs.Ready.{some_is}
use Rattle.update_requests.proofs.Refusing.{is_there}
use Rattle.update_requests.proofs.judging.conclude.Goals as goal

pub unreachable-requires : goal.unreachable-requires
unreachable-requires g c =
    let t = some_is (table_at c.args.desk.now.tables c.args.row) c.requires.table in
    let there = c.keep_check_word.ensures.there t.0 t.1 in
    let has = is_there t.0 c.args.active (c.requires.image t.0 t.1) in
    cc (rw c.in_default.is at there, has)
