use Rattle.std.proofs.Common.{◌≡◌, ◌∙◌, length, None, sym, ap, refl}
use Rattle.tbl_model.specs.Tables.{table_at}
use Rattle.tbl_model.specs.Refusals.{image_refusal}
use Rattle.tbl_model.proofs.RefusalLaws.{image_taken}
use Rattle.validation.proofs.Ready.{some_is}
use Rattle.desk.proofs.Serving.{serves_so}
use Rattle.load_requests.proofs.owner_loads.load_image.Goals as goal

pub admit-requires-clause-fits : goal.admit-requires-clause-fits
admit-requires-clause-fits g c = rw c.new_image.ensures.desk (λ t there.
    let none : image_refusal c.args.desk.now.tables c.args.row t (length c.args.image.now.list) ≡ None = rw (← c.bytes.ensures) (sym (c.in_default.ensures t there)) in
    let is = image_taken c.args.desk.now.tables c.args.row t (length c.args.image.now.list) none in
    record { unlocked = is.unlocked; no_load = is.no_load; size = ap length c.in_ok-image.ensures.image ∙ is.size })

pub returns-clause-served : goal.returns-clause-served
returns-clause-served g c =
    let t = some_is (table_at c.args.desk.now.tables c.args.row) c.requires.table in
    let none : image_refusal c.args.desk.now.tables c.args.row t.0 (length c.args.image.now.list) ≡ None = rw (← c.bytes.ensures) (sym (c.in_default.ensures t.0 t.1)) in
    serves_so g.C.Validator c.args.row _ _ _ _ c.args.desk.now _ _ _ t.0 t.1 (λ rest given. rw (none, c.in_ok-image.ensures.image) refl) ((rw c.new_image.ensures.desk at c.admit.ensures.made) _ c.in_ok-take_room.ensures)
