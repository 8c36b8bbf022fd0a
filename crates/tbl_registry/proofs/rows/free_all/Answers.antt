use Rattle.std.proofs.Common.{◌∙◌, ◌<◌, sym, length, slice_index_or, None, arith}
use Rattle.std.proofs.lemmas.List.{get_or_default, take_all, drop_all, append-nil}
use Rattle.std.proofs.lemmas.List.Edits.{map_over_more}
use Rattle.std.proofs.lemmas.Simd.{splat_is_map}
use Rattle.access_desc.specs.Steps.{nothing}
use Rattle.tbl_registry.proofs.rows.free_all.Goals as goal

pub loop-row-preserved : goal.loop-row-preserved
loop-row-preserved c =
    let within : c.loop-row.row-index < length c.args.rows.now = omega arith in
    let there : c.loop-row.row-index < length c.loop-row.rows = omega arith in
    map_over_more nothing c.args.rows.now c.loop-row.rows c.loop-row.row-index (slice_index_or c.loop-row.rows c.loop-row.row-index None) within c.loop-row.invariant (get_or_default c.loop-row.rows c.loop-row.row-index _ _ there)

pub returns : goal.returns
returns c =
    c.loop-row.invariant
    ∙ rw (take_all c.loop-row.row-index c.args.rows.now c.loop-row-test.false, drop_all c.loop-row.row-index c.args.rows.now c.loop-row-test.false, append-nil) (sym (splat_is_map c.args.rows.now 128 None c.requires))
