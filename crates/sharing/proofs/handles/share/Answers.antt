use Rattle.std.proofs.Common.{◌∙◌, refl, ap}
use Rattle.tbl_kinds.specs.Free.{least_free}
use Rattle.tbl_model.specs.State.{Tables}
use Rattle.tbl_model.specs.TableSteps.{find}
use Rattle.tbl_model.specs.Sharing.{share_by}
use Rattle.sharing.proofs.Running.{has_name, shares}
use Rattle.sharing.proofs.handles.share.Goals as goal

pub returns-in-Some : goal.returns-in-Some
returns-in-Some c = λ s tables apps.
    shares s c.args.apps.now c.args.app apps (has_name c.name.result _ c.name.ensures.none _ c.is_none.ensures c.if-is_none.false) c.args.tables.now c.args.name.now _ tables
    (c.in-Some.ensures.row ∙ ap (λ name. find name c.args.tables.now) c.bytes.ensures.bytes)
    ∙ ap (λ (t : Tables). share_by s c.args.app c.in-Some.row (least_free t.handles)) tables ∙ c.share_row.ensures s tables

pub returns-in-None : goal.returns-in-None
returns-in-None c = λ s tables apps.
    shares s c.args.apps.now c.args.app apps (has_name c.name.result _ c.name.ensures.none _ c.is_none.ensures c.if-is_none.false) c.args.tables.now c.args.name.now _ tables
    (c.in-None.ensures.row ∙ ap (λ name. find name c.args.tables.now) c.bytes.ensures.bytes)
    ∙ rw (c.plain-in-None.ensures.status, c.plain-in-None.ensures.detail, ← tables) refl
