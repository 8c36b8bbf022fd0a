use Rattle.std.proofs.Common.{◌≡◌, [], ◌∷◌, w32, rules, Bool, Option, Some, None, refl, sym, ap, subst, arith}
use mir.Val.{to_z, of_z}
use Rattle.tbl_kinds.specs.declared.entry.Answer.{Answer}
use Rattle.tbl_model.specs.Tables.{table_at}
use Rattle.tbl_model.specs.Telemetry.{finished}
use Rattle.tbl_model.specs.Validations.{judged_image, validation_of, do_validation}
use Rattle.validation.proofs.Ready.{some_is}
use Rattle.request_effects.specs.Reports.{Reported, nothing_reported}
use Rattle.request_effects.specs.Effects.{told_effect, given_of}
use Rattle.desk.specs.Desk.{state_at, output}
use Rattle.desk.specs.Requests.{Does}
use Rattle.update_requests.specs.Judging.{judged_by}
use Rattle.update_requests.proofs.Answering.{made_there}
use Rattle.desk.proofs.Kits.{same_owners}
use Rattle.update_requests.proofs.Verdicts.{judged_state}
use Rattle.update_requests.proofs.validations.app_validate.Goals as goal

pub unreachable-requires : goal.unreachable-requires
unreachable-requires g c = cc (c.in_default-validate_pending.ensures.told, c.in-Some.ensures.pending)

pub returns : goal.returns
returns g c = record {
  served = λ reply empty.
      let old = c.args.desk.now in
      let row = c.args.row in
      let verdict = c.in-Some-validate_pending.verdict in
      let kit = c.validate_pending.new.desk.kit in
      let t = some_is (table_at old.tables row) c.requires.table in
      let room = empty.event in
      let fits : to_z w32 (of_z w32 verdict) ≡ verdict = search rules in
      let answer = rw fits at c.verdict_answer.ensures in
      let image = judged_image t.0 c.in-Some.active in
      let told : Reported = record nothing_reported { events = finished row c.in-Some.active t.0 image verdict ∷ []; verdicts = Some verdict ∷ None ∷ [] } in
      let was = c.in-Some-validate_pending.ensures.asked t.0 t.1 in
      let left = judged_by row c.in-Some.active (Some verdict) kit old in
      made_there g.C.Validator old (output reply _) c.verdict_answer.result row t.0 t.1 (λ s given t. validation_of s given row t) 1 (λ tables. 0) empty.bytes _ left told
      c.in-Some-validate_pending.ensures.desk
      (rw (c.judge.ensures, fits, c.in-Some-validate_pending.ensures.report t.0 t.1, c.requires.report) refl)
      (λ rest. subst (λ (o : Option Bool). Does g.C.Validator rest old left (told_effect c.verdict_answer.result [] told) (do_validation (state_at rest old) (given_of (told_effect c.verdict_answer.result [] told)) row t.0 o)) c.in-Some.ensures.first (record {
        effect = record { status = ap (λ (a : Answer). a.status) (sym answer); detail = ap (λ (a : Answer). a.detail) (sym answer); bytes = refl; table = refl; events = refl; shown = refl; questions = refl; calls = refl; notice = refl; next = judged_state row c.in-Some.active old kit rest verdict (same_owners g.C.Validator.verdict g.C.Validator.asked old.kit kit _ _ was) };
        asked = was;
      }))
      refl (record { events = omega arith; notice = tt; bytes = omega arith }) (record { none = empty.packets; room = omega (arith, room) });
}
