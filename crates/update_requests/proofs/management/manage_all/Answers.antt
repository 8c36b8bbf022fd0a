use Rattle.std.proofs.Common.{◌∙◌, true, refl, arith}
use Rattle.tbl_model.specs.Tables.{table_at}
use Rattle.validation.proofs.Ready.{some_is}
use Rattle.desk.specs.Desk.{output}
use Rattle.update_requests.proofs.Managing.{managed_made, first_there, event_at_most, both_at_most, none_told}
use Rattle.update_requests.proofs.Verdicts.{ready}
use Rattle.update_requests.proofs.management.manage_all.Goals as goal

pub validate_pending-second-requires-clause-ready : goal.validate_pending-second-requires-clause-ready
validate_pending-second-requires-clause-ready g c = c.validate_pending-first.ensures.ready 1 (ready g.C.Validator 2 c.args.desk.now (omega arith) c.requires.orderly)

pub validate_pending-second-requires-clause-events : goal.validate_pending-second-requires-clause-events
validate_pending-second-requires-clause-events g c =
    let t = some_is (table_at c.args.desk.now.tables c.args.row) c.requires.table in
    let one = event_at_most c.args.row true t.0 c.validate_pending-first.result in
    rw (c.validate_pending-first.ensures.report t.0 t.1, c.requires.report) (omega (arith, one))

pub take_update-refusal-requires-clause-events : goal.take_update-refusal-requires-clause-events
take_update-refusal-requires-clause-events g c =
    let t = some_is (table_at c.args.desk.now.tables c.args.row) c.requires.table in
    let there = first_there c.args.row t.0 c.args.desk.now _ c.validate_pending-first.result c.validate_pending-first.ensures.desk t.1 in
    let most = both_at_most c.args.row t.0 c.validate_pending-first.result c.validate_pending-second.result in
    rw (c.judge.ensures, c.validate_pending-second.ensures.report t.0 there, c.validate_pending-first.ensures.report t.0 t.1, c.requires.report) (omega (arith, most))

pub returns : goal.returns
returns g c =
    let t = some_is (table_at c.args.desk.now.tables c.args.row) c.requires.table in
    let there = first_there c.args.row t.0 c.args.desk.now _ c.validate_pending-first.result c.validate_pending-first.ensures.desk t.1 in
    let none = none_told c.take_update-refusal.result c.is_none.result c.is_none.ensures in
    rw c.fill_pending-filled.ensures.tables (record {
      made = managed_made c.args.row t.0 c.args.desk.now c.validate_pending-first.new.desk c.validate_pending-second.new.desk c.validate_pending-first.result c.validate_pending-second.result t.1
          c.validate_pending-first.ensures.desk c.validate_pending-second.ensures.desk c.validate_pending-first.ensures.told c.validate_pending-second.ensures.told
          c.take_update-refusal.new.desk c.take_update-refusal.result c.fill_pending-filled.result c.take_update-refusal.ensures.desk c.take_update-refusal.ensures.refusal c.take_update-refusal.ensures.table c.fill_pending-filled.ensures.filled
          g.C.Validator (output _ _) c.update_answer.result (c.validate_pending-first.ensures.asked t.0 t.1) c.validate_pending-second.ensures.asked c.update_answer.ensures
          (c.append.ensures.bytes ∙ rw (c.requires.bytes, c.bits-did.ensures, c.is_some.ensures, c.is_some-2.ensures, none) refl)
          c.judge.new.self (rw (c.judge.ensures, c.verdicts.ensures, c.validate_pending-second.ensures.report t.0 there, c.validate_pending-first.ensures.report t.0 t.1, c.requires.report) refl)
          c.take_update-refusal.ensures.report c.requires.packets (c.requires.room t.0 t.1);
    })
