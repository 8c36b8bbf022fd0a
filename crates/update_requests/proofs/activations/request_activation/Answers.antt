use Rattle.std.proofs.Common.{[], Option, refl, sym, ap, subst, arith}
use Rattle.tbl_kinds.specs.declared.entry.Answer.{Answer}
use Rattle.tbl_model.specs.Tables.{table_at}
use Rattle.tbl_model.specs.TableSteps.{ask}
use Rattle.tbl_model.specs.Refusals.{by_answer}
use Rattle.tbl_model.specs.Activations.{activation_of, ask_effect}
use Rattle.validation.proofs.Asking.{asked_nothing}
use Rattle.validation.proofs.Ready.{some_is}
use Rattle.request_effects.specs.Reports.{Reported, nothing_reported}
use Rattle.request_effects.specs.Effects.{told_effect}
use Rattle.desk.specs.Desk.{state_at, output}
use Rattle.desk.specs.Requests.{Does}
use Rattle.update_requests.proofs.Answering.{made_there, answered_there}
use Rattle.update_requests.proofs.activations.request_activation.Goals as goal

pub returns-in-Some : goal.returns-in-Some
returns-in-Some g c = record {
  made = λ reply free.
      let t = some_is (table_at c.args.desk.now.tables c.args.row) c.requires.table in
      let is = free t.0 t.1 in
      let room = is.room in
      answered_there g.C.Validator c.args.desk.now (output reply _) c.in-Some.answer c.args.row t.0 t.1 (λ s given t. activation_of s c.args.row t) 0 (λ tables. 24) is.bytes is.packets (omega (arith, room)) c.requires.report
      (λ rest given. ap (λ (o : Option Answer). by_answer (state_at rest c.args.desk.now) o (ask_effect (state_at rest c.args.desk.now) c.args.row t.0)) (sym (c.in-Some.ensures t.0 t.1)));
}

pub returns : goal.returns
returns g c = record {
  made = λ reply free.
      let t = some_is (table_at c.args.desk.now.tables c.args.row) c.requires.table in
      let is = free t.0 t.1 in
      let room = is.room in
      let old = c.args.desk.now in
      let left = record old { tables = ask c.args.row old.tables } in
      let told : Reported = record nothing_reported { notice = t.0.notice } in
      made_there g.C.Validator old (output reply _) c.plain.result c.args.row t.0 t.1 (λ s given t. activation_of s c.args.row t) 0 (λ tables. 24) is.bytes _ left told
      (ap (λ ts. record old { tables = ts }) c.ask.ensures)
      (rw (c.notify.ensures, c.requires.report, c.notice.ensures t.0 t.1) refl)
      (λ rest. subst (λ (o : Option Answer). Does g.C.Validator rest old left (told_effect c.plain.result [] told) (by_answer (state_at rest old) o (ask_effect (state_at rest old) c.args.row t.0))) (c.in_default.ensures t.0 t.1) (record {
        effect = record { status = sym c.plain.ensures.status; detail = sym c.plain.ensures.detail; bytes = refl; table = refl; events = refl; shown = refl; questions = refl; calls = refl; notice = refl; next = refl };
        asked = asked_nothing g.C.Validator.verdict g.C.Validator.asked old.kit;
      }))
      refl (record { events = omega arith; notice = c.requires.orderly.notices c.args.row t.0 t.1; bytes = omega arith }) (record { none = is.packets; room = omega (arith, room) });
}
