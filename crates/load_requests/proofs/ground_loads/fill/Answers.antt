use Rattle.std.proofs.Common.{◌≡◌, ◌∙◌, ap, sym, length, rules}
use Rattle.tbl_model.specs.State.{Tables}
use Rattle.tbl_model.specs.Tables.{table_at}
use Rattle.tbl_model.proofs.RefusalLaws.{load_taken}
use Rattle.load_requests.proofs.ground_loads.fill.Goals as goal
use Rattle.load_requests.proofs.ground_loads.fill.Goals.{else-is_some-via-then-is_some+else-write_load, else-is_some-via-else-is_some}

pub write_load-requires-clause-within : goal.write_load-requires-clause-within
write_load-requires-clause-within c = λ t there. (load_taken c.args.tables.now c.args.row t c.args.offset (length c.args.bytes.now) (c.requires.taken t there)).within

pub patched-requires-clause-within : goal.patched-requires-clause-within
patched-requires-clause-within c = λ t there.
    let same : c.else-is_some.tables ≡ c.args.tables.now = elim c.else-is_some.branch [
      | else-is_some-via-then-is_some+else-write_load w ↦ search rules
      | else-is_some-via-else-is_some w ↦ search rules
    ] in
    (load_taken c.args.tables.now c.args.row t c.args.offset (length c.args.bytes.now) (c.requires.taken t (ap (λ (tables : Tables). table_at tables c.args.row) (sym same) ∙ there))).within
