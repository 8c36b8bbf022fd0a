use Rattle.std.proofs.Common.{◌≡◌, ◌∙◌, Some, sym, true, false, refl, arith}
use Rattle.tbl_model.specs.Tables.{table_at, is_dump_only}
use Rattle.tbl_model.specs.Dumps.{dump_by, ask_dump_effect}
use Rattle.tbl_model.specs.Validations.{selected}
use Rattle.validation.proofs.Ready.{some_is}
use Rattle.desk.proofs.Serving.{serves_so, served_so}
use Rattle.desk.proofs.Quiet.{refused_at_once}
use Rattle.dump_requests.specs.Dumps.{table_dump, file_dump}
use Rattle.dump_requests.proofs.dumps.dump_found.Goals as goal

pub returns-then-is_dump_only : goal.returns-then-is_dump_only
returns-then-is_dump_only g c =
    let file = c.args.asked.now.file in
    let t = some_is (table_at c.args.desk.now.tables c.args.row) c.requires.table in
    let only : is_dump_only t.0 ≡ true = sym (c.is_dump_only.ensures t.0 t.1) ∙ c.if-is_dump_only.true in
    record {
      served = serves_so g.C.Validator c.args.row (λ s given t. ask_dump_effect s file c.args.row t) (λ s given t. dump_by s file c.args.row t (selected t c.args.asked.now.select)) 1 (λ tables. 24) c.args.desk.now c.ask_owner.new.desk _ c.ask_owner.result t.0 t.1
          (λ rest given. rw (← c.in-Some.ensures t.0 t.1, only) refl) c.ask_owner.ensures.made;
    }

pub returns-in-Ok : goal.returns-in-Ok
returns-in-Ok g c =
    let file = c.args.asked.now.file in
    let t = some_is (table_at c.args.desk.now.tables c.args.row) c.requires.table in
    let only : is_dump_only t.0 ≡ false = sym (c.is_dump_only.ensures t.0 t.1) ∙ c.if-is_dump_only.false in
    record {
      served = served_so g.C.Validator (file_dump (Some c.args.row) file c.in-Ok.contents.list) (table_dump c.args.row c.args.asked.now.select file) c.args.desk.now c.put_file.new.desk _ c.put_file.result
          (λ rest given. rw (t.1, ← c.in-Some.ensures t.0 t.1, only, c.in_ok-contents.ensures.comes_to rest file t.0 t.1, c.in-Ok.is) refl) refl refl (rw c.copy.ensures at c.put_file.ensures.served);
    }

pub returns-in-Err : goal.returns-in-Err
returns-in-Err g c =
    let file = c.args.asked.now.file in
    let t = some_is (table_at c.args.desk.now.tables c.args.row) c.requires.table in
    let only : is_dump_only t.0 ≡ false = sym (c.is_dump_only.ensures t.0 t.1) ∙ c.if-is_dump_only.false in
    record {
      served = refused_at_once {v = g.C.Validator} {meaning = table_dump c.args.row c.args.asked.now.select file} {answer = c.plain-in-Err.result} c.requires.empty (omega arith)
          (λ rest given. rw (t.1, ← c.in-Some.ensures t.0 t.1, only, c.in_ok-contents.ensures.comes_to rest file t.0 t.1, c.in-Err.is, c.plain-in-Err.ensures.status, c.plain-in-Err.ensures.detail) refl);
    }
