-- A request that asks nothing and reports no event, as one that is refused.
use Rattle.std.proofs.Common.{◌≡◌, ◌≤◌, ℕ, List, [], length, Bool, true, false, Option, Some, None, refl, sym, subst, arith}
use Rattle.tbl_kinds.specs.declared.entry.Answer.{Answer}
use Rattle.tbl_kinds.specs.declared.entry.Reply.{Reply}
use Rattle.tbl_model.specs.Effects.{answered, answered_left}
use Rattle.tbl_model.specs.Given.{Given}
use Rattle.tbl_model.specs.declared.telemetry.Named.{Named}
use Rattle.tbl_outside.specs.declared.validator.Validator.{Ghosts as ValidatorGhosts}
use Rattle.validation.proofs.Asking.{asked_nothing}
use Rattle.request_effects.specs.Reports.{Reported, nothing_reported}
use Rattle.request_effects.specs.Effects.{told_effect}
use Rattle.desk.specs.Desk.{Rest, state_at, output, IsEmpty}
use Rattle.desk.specs.Requests.{Meaning, Has, Made}
use Rattle.desk.specs.Rooms.{event_room}
use Rattle.desk.specs.declared.desk.Desk.{Desk}
use Rattle.desk.proofs.Serving.{made_so}

module _ {C : Type 0} {v : ValidatorGhosts C} {meaning : Meaning} where
  -- its reply has these bytes, and this table is reported
  pub quietly : {old new : Desk C} {reply : Reply} {report : Reported} {answer : Answer} (bytes : List ℕ) (table : Option Named)
      → ((rest : Rest) (given : Given) → meaning.effect (state_at rest old) given ≡ Some (record (answered_left (state_at rest old) answer (state_at rest new)) { bytes = bytes; table = table }))
      → new.kit ≡ old.kit → reply.bytes.list ≡ bytes → report ≡ record nothing_reported { table = table } → length bytes ≤ 4 → reply.packets.list ≡ [] → meaning.more old.tables ≤ reply.packets.spare
      → Made v meaning old new (output reply report) answer
  quietly {old = old} {new = new} {reply = reply} {report = report} {answer = answer} bytes table effect same replied reported few none room =
      let done = told_effect answer bytes (record nothing_reported { table = table }) in
      made_so v meaning old new (output reply report) answer bytes (record nothing_reported { table = table }) replied reported
      (λ rest. subst (Has v rest old new done) (sym (effect rest _)) (record {
        effect = record { status = refl; detail = refl; bytes = refl; table = refl; events = refl; shown = refl; questions = refl; calls = refl; notice = refl; next = refl };
        asked = rw same (asked_nothing v.verdict v.asked old.kit);
      }))
      refl
      (record { events = omega arith; notice = tt; bytes = omega (arith, few) })
      (record { none = none; room = omega (arith, room) })

  -- nothing is changed, nothing is reported, and the reply is as it was
  pub refused_at_once : {desk : Desk C} {reply : Reply} {report : Reported} {answer : Answer} → IsEmpty (output reply report) → meaning.more desk.tables ≤ 24
      → ((rest : Rest) (given : Given) → meaning.effect (state_at rest desk) given ≡ Some (answered (state_at rest desk) answer.status answer.detail)) → Made v meaning desk desk (output reply report) answer
  refused_at_once empty few effect = let event = empty.event in quietly [] None effect refl empty.bytes empty.report (omega arith) empty.packets (omega (arith, few, event))

-- whatever event may follow, there is room for it where there is room for one
pub one_event : (can : Bool) → event_room can ≤ 24
one_event true = omega arith
one_event false = omega arith
