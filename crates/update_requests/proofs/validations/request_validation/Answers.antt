use Rattle.std.proofs.Common.{◌∙◌, [], ◌∷◌, Some, pos, refl, sym, subst, arith}
use Rattle.tbl_model.specs.Tables.{table_at}
use Rattle.tbl_model.specs.Telemetry.{finished}
use Rattle.tbl_model.specs.Validations.{judged_image, validate_by}
use Rattle.validation.proofs.Asking.{asked_nothing}
use Rattle.validation.proofs.Ready.{some_is}
use Rattle.request_effects.specs.Reports.{Reported, nothing_reported}
use Rattle.request_effects.specs.Effects.{told_effect}
use Rattle.desk.specs.Desk.{state_at, output}
use Rattle.desk.specs.Requests.{Does}
use Rattle.update_requests.specs.Judging.{concluded}
use Rattle.update_requests.proofs.Answering.{made_there}
use Rattle.update_requests.proofs.Refusing.{nothing_missing, passes_all}
use Rattle.update_requests.proofs.validations.request_validation.Goals as goal

pub conclude-requires-clause-image : goal.conclude-requires-clause-image
conclude-requires-clause-image g c = λ t there. nothing_missing t c.args.active (sym (c.in_default.ensures t there))

pub returns-then-not-has_function : goal.returns-then-not-has_function
returns-then-not-has_function g c = record {
  made = λ reply free.
      let old = c.args.desk.now in
      let row = c.args.row in
      let active = c.args.active in
      let t = some_is (table_at old.tables row) c.requires.table in
      let room = free.room in
      let told : Reported = record nothing_reported { events = finished row active t.0 (judged_image t.0 active) (pos 0) ∷ [] } in
      let left = concluded row active (pos 0) old in
      made_there g.C.Validator old (output reply _) c.plain.result row t.0 t.1 (λ s given t. validate_by s row t (Some active)) 1 (λ tables. 24) free.bytes _ left told
      c.conclude.ensures.desk
      (rw (c.conclude.ensures.report t.0 t.1, c.requires.report) refl)
      (λ rest. subst (Does g.C.Validator rest old left (told_effect c.plain.result [] told))
      (sym (passes_all (state_at rest old) row t.0 active (sym (c.in_default.ensures t.0 t.1)) (sym (c.has_function.ensures t.0 t.1) ∙ c.if-not-has_function.true))) (record {
        effect = record { status = sym c.plain.ensures.status; detail = sym c.plain.ensures.detail; bytes = refl; table = refl; events = refl; shown = refl; questions = refl; calls = refl; notice = refl; next = refl };
        asked = asked_nothing g.C.Validator.verdict g.C.Validator.asked old.kit;
      }))
      refl (record { events = omega arith; notice = tt; bytes = omega arith }) (record { none = free.packets; room = omega (arith, room) });
}
