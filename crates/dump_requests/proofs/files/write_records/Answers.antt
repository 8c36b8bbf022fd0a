use Rattle.std.proofs.Common.{◌<◌, ◌∙◌, ap, sym, length, ℕ, List, ◌++◌, arith}
use Rattle.std.proofs.lemmas.List.{append_assoc}
use Rattle.dump_requests.proofs.Records.{records_left, tables_left}
use Rattle.dump_requests.proofs.files.write_records.Goals as goal

pub loop-row-preserved : goal.loop-row-preserved
loop-row-preserved c =
    let rows = c.args.tables.now.rows in
    let limit = c.row_limit-row-end.ensures.limit in
    let before = c.loop-row-test.true in
    let within : c.loop-row.row < length rows = omega (arith, limit, before) in
    let tables = tables_left rows c.loop-row.row within in
    let was = c.loop-row.invariant in
    let room = c.write_record.ensures.room in
    let len = c.write_record.ensures.len in
    let was_room = was.room in
    let was_len = was.len in
    record {
      all = rw c.write_record.ensures.bytes (append_assoc c.loop-row.out.list _ _ ∙ ap (λ (xs : List ℕ). c.loop-row.out.list ++ xs) (sym (records_left rows c.loop-row.row within)) ∙ was.all);
      len = omega (arith, len, tables, was_len);
      room = omega (arith, room, tables, was_room);
    }
