use Rattle.std.proofs.Common.{◌≡◌, ◌∙◌, ◌+◌, ◌-◌, ap, refl, length, arith}
use Rattle.std.proofs.lemmas.List.{drop_all}
use Rattle.tbl_model.specs.Tables.{uses_buffer}
use Rattle.tbl_registry.proofs.InUse.{collected}
use Rattle.tbl_registry.proofs.rows.rows_with_buffer.Goals as goal

pub loop-row-preserved : goal.loop-row-preserved
loop-row-preserved c =
    let next : c.loop-row.row - 1 + 1 ≡ c.loop-row.row = omega arith in (
      omega arith,
      c.put_front.ensures
          ∙ collected c.args.rows.now (c.loop-row.row - 1) c.index-rows-row.result c.uses_buffer.result c.loop-row.found (omega arith) c.requires.few (c.uses_buffer.ensures ∙ ap uses_buffer c.index-rows-row.is) (rw next c.loop-row.invariant.1),
    )

pub loop-row-init : goal.loop-row-init
loop-row-init c = (omega arith, rw (drop_all (length c.args.rows.now) c.args.rows.now (omega arith)) refl)

pub returns : goal.returns
returns c = let first : c.loop-row.row ≡ 0 = omega arith in rw first at c.loop-row.invariant.1
