use Rattle.std.proofs.Common.{◌∙◌, [], ◌∷◌, Option, Some, refl, sym, ap, subst, arith}
use Rattle.tbl_kinds.specs.declared.entry.Answer.{Answer}
use Rattle.tbl_model.specs.Tables.{table_at}
use Rattle.tbl_model.specs.Telemetry.{activated}
use Rattle.tbl_model.specs.Refusals.{by_answer}
use Rattle.tbl_model.specs.Activations.{update_of, updated_effect}
use Rattle.validation.proofs.Asking.{asked_nothing}
use Rattle.validation.proofs.Ready.{some_is}
use Rattle.request_effects.specs.Reports.{Reported, nothing_reported}
use Rattle.request_effects.specs.Effects.{told_effect}
use Rattle.desk.specs.Desk.{state_at, output}
use Rattle.desk.specs.Requests.{Does}
use Rattle.desk.specs.Rooms.{copy_room, event_room}
use Rattle.update_requests.specs.Activations.{with_update}
use Rattle.update_requests.proofs.Answering.{made_there}
use Rattle.update_requests.proofs.Refusing.{may_update}
use Rattle.update_requests.proofs.activations.update.Goals as goal

pub returns : goal.returns
returns g c =
    let old = c.args.desk.now in
    let t = some_is (table_at old.tables c.args.row) c.requires.table in
    let none = rw c.in_default.is at (c.take_update.ensures.refusal t.0 t.1) in
    let told : Reported = record nothing_reported { table = Some (record { row = c.args.row; name = t.0.name }); events = activated c.args.row t.0 ∷ [] } in
    let copy = ap copy_room t.1 in
    let event = ap event_room (may_update old.tables c.args.row t.0 (sym none)).0 in
    let room = c.update_room.ensures.room t.0 t.1 in
    let reserved = c.in_ok-reserve.ensures.room in record {
      served = made_there g.C.Validator old (output _ _) c.plain.result c.args.row t.0 t.1 (λ s given t. update_of s c.args.row t) 1 (λ tables. copy_room (table_at tables c.args.row)) c.requires.empty.bytes
          _ (with_update c.args.row old) told
          (rw c.in_default.is at c.take_update.ensures.desk)
          (rw (c.name_table.ensures, c.named-table.ensures t.0 t.1, c.take_update.ensures.report t.0 t.1, c.in_default.is, c.requires.empty.report) refl)
          (λ rest. subst (λ (o : Option Answer). Does g.C.Validator rest old (with_update c.args.row old) (told_effect c.plain.result [] told) (by_answer (state_at rest old) o (updated_effect (state_at rest old) c.args.row t.0))) none (record {
            effect = record { status = sym c.plain.ensures.status; detail = sym c.plain.ensures.detail; bytes = refl; table = refl; events = refl; shown = refl; questions = refl; calls = refl; notice = refl; next = refl };
            asked = asked_nothing g.C.Validator.verdict g.C.Validator.asked old.kit;
          }))
          refl (record { events = omega arith; notice = tt; bytes = omega arith }) (record { none = c.reserve.ensures.bytes ∙ c.requires.empty.packets; room = omega (arith, copy, event, room, reserved) });
    }
