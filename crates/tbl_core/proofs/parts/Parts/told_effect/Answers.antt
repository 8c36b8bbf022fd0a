use Rattle.std.proofs.Common.{◌≡◌, ◌∙◌, true, ap, refl, sym, subst, arith, rules}
use Rattle.store_requests.proofs.Moments.{uncalled_leaves}
use Rattle.store_requests.specs.Copying.{told_in}
use Rattle.tbl_kinds.specs.Buffers.{Buffer}
use Rattle.tbl_kinds.specs.declared.entry.Reply.{Reply}
use Rattle.tbl_model.specs.State.{Tables}
use Rattle.tbl_model.specs.Tables.{table_at, is_critical_in}
use Rattle.tbl_model.specs.Validations.{validation_of}
use Rattle.desk.specs.Desk.{output}
use Rattle.desk.specs.Requests.{told}
use Rattle.request_effects.specs.Effects.{HasRoom, told_effect}
use Rattle.validation.proofs.Ready.{some_is}
use Rattle.tbl_core.specs.Owned.{owned}
use Rattle.tbl_core.specs.Requests.{activates}
use Rattle.tbl_core.specs.Service.{Does, owned_in, parts_view}
use Rattle.tbl_core.proofs.CopiedAfter.{copies_made}
use Rattle.tbl_core.proofs.Owned.{stays_critical, room_stays}
use Rattle.tbl_core.proofs.Owners.{is_copied, leads_plainly}
use Rattle.tbl_core.proofs.Served.{parts_at, does_of, owned_does}
use Rattle.tbl_core.proofs.TableRequests.{table_made}
use Rattle.tbl_core.proofs.parts.Parts.told_effect.Goals as goal

pub then_copy-requires-clause-room : goal.then_copy-requires-clause-room
then_copy-requires-clause-room g c critical =
    let self = c.args.self.now in
    let new = c.owned.new.desk in
    let t = some_is (table_at self.desk.tables c.args.row) c.requires.table in
    let can : activates c.args.request.now ≡ true = search rules in
    let does = does_of g.C.Validator self.store self.ended self.desk new (owned c.args.row c.args.request.now) (output c.owned.new.reply c.owned.new.report) c.in_ok-answer-in_default.answer 3 (omega arith) c.in_ok-answer-in_default.ensures.served in
    c.in_ok-copy_room-in_default.ensures.room (stays_critical g.C.Validator (parts_view self) (parts_at self.store self.ended new) c.args.row c.args.request.now _ t.0 t.1 can does critical)

pub returns-in_ok-answer-in_default : goal.returns-in_ok-answer-in_default
returns-in_ok-answer-in_default g c =
    let v = g.C.Validator in
    let self = c.args.self.now in
    let new = c.owned.new.desk in
    let r = c.args.request.now in
    let row = c.args.row in
    let out = output c.owned.new.reply c.owned.new.report in
    let answer = c.in_ok-answer-in_default.answer in
    let made = c.in_ok-answer-in_default.ensures.served in
    let can : activates r ≡ true = search rules in
    let t = some_is (table_at self.desk.tables row) c.requires.table in
    let before = told_effect answer c.owned.new.reply.bytes.list c.owned.new.report in
    let does = does_of v self.store self.ended self.desk new (owned row r) out answer 3 (omega arith) made in
    let copied = rw c.put_answer.ensures at c.then_copy.ensures.copied in
    let packets = c.owned.new.reply.packets in
    let kept = room_stays (is_critical_in (table_at self.desk.tables row)) (is_critical_in (table_at new.tables row))
    (stays_critical v (parts_view self) (parts_at self.store self.ended new) row r _ t.0 t.1 can does) packets (told answer out) made.room in
    record {
      made = λ actor leads. copies_made g.B.Bank v _ _ actor r row _ (record {
        before = before;
        does = subst (λ (tables : Tables). Does v 3 (parts_view self) (record (parts_at self.store self.ended new) { tables = tables }) (owned_in row r) before) (sym c.then_copy.ensures.same) does;
        copied = record {
          effect = λ tells e is tables. copied.effect tells e is (tables ∙ c.then_copy.ensures.same);
          call = copied.call;
        };
      }) can c.requires.ready (λ s stands given. leads.means s stands given ∙ is_copied r row given.note (owned_in row r s given) can);
      room = subst (λ (p : Buffer). HasRoom 0 p (told_in c.then_copy.new.reply c.then_copy.new.report c.then_copy.result)) (sym (c.then_copy.ensures.packets ∙ ap (λ (r : Reply). r.packets) c.put_answer.ensures))
          (c.then_copy.ensures.room packets (record { none = kept.none; room = kept.room }));
      request = search rules;
      err = tt;
    }

pub returns-in-Validate : goal.returns-in-Validate
returns-in-Validate g c =
    let b = g.B.Bank in
    let v = g.C.Validator in
    let r = c.args.request.now in
    let row = c.args.row in
    let self = c.args.self.now in
    let new = c.app_validate-answer.new.desk in
    let answer = c.app_validate-answer.result in
    let out = output c.args.reply.now c.app_validate-answer.new.report in
    let done = told_effect answer c.args.reply.now.bytes.list c.app_validate-answer.new.report in
    let made = c.app_validate-answer.ensures.served c.args.reply.now c.requires.empty in
    let does : Does v 1 (parts_view self) (parts_at self.store self.ended new) (owned_in row r) done =
    owned_does v self.desk new out self.store self.ended answer row r (λ s given t. validation_of s given row t) 1 (λ tables. 0) 1 (omega arith) (λ s given t. rw c.in-Validate.is refl) made in
    rw (c.answered.ensures.note, c.answered.ensures.reply) (record {
      made = λ actor leads. table_made b v 1 _ _ actor r done (leads_plainly v 1 _ _ actor row r done leads (rw c.in-Validate.is refl) does) (omega arith) c.requires.ready (rw c.in-Validate.is refl)
          (λ told blocks stands. uncalled_leaves b g.met.B.Bank.leaves_only_now g.met.B.Bank.only_now self.store _ blocks refl (stands.shows told));
      room = made.room;
      request = refl;
      err = tt;
    })
