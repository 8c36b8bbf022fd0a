use Rattle.std.proofs.Common.{◌∙◌, [], refl, arith, rules}
use Rattle.store_requests.proofs.Moments.{uncalled_leaves}
use Rattle.validation.proofs.Ready.{some_is}
use Rattle.tbl_kinds.specs.declared.request.Actor.TheVariants.{App}
use Rattle.tbl_model.specs.Tables.{table_at}
use Rattle.request_effects.specs.Effects.{quiet_effect}
use Rattle.tbl_core.specs.Service.{LeadsTo, parts_view}
use Rattle.tbl_core.proofs.Owners.{owner_refused, leads_to, told_owners}
use Rattle.tbl_core.proofs.TableRequests.{table_made}
use Rattle.tbl_core.proofs.Telling.{owner_resets, told_no_command, told_some}
use Rattle.tbl_core.proofs.parts.Parts.owner.Goals as goal

pub end_call-requires : goal.end_call-requires
end_call-requires g c =
    let self = c.args.self.now in
    let request = c.args.entry.now.request in
    let row = c.in-Ok.row in
    let t = some_is (table_at self.desk.tables row) c.in-Ok.ensures.table in
    let leads : LeadsTo (parts_view self) (App c.args.app) request row =
    leads_to (parts_view self) c.args.app c.args.handle row request (told_owners request c.args.handle c.requires.asks) t.0 t.1 (λ s stood effect. c.in-Ok.ensures.ok s effect stood.tables stood.apps) in
    let makes = (c.in_ok-note-in-Ok.ensures.made (App c.args.app) leads).makes in
    rw c.in_ok-note-in-Ok.ensures.request (record {
      no_command = told_no_command request (told_some request c.args.handle c.requires.asks);
      no_reset = owner_resets request c.args.handle c.requires.asks;
      nothing_given_yet = c.requires.stands.begun.nothing;
      fresh = λ stop. (makes.stopped stop).1;
      live = λ stop. makes.ended ∙ (makes.stopped stop).1.ended;
      within = makes.within;
      room = c.in_ok-note-in-Ok.ensures.room;
    })

pub returns-in_ok-note-in-Ok : goal.returns-in_ok-note-in-Ok
returns-in_ok-note-in-Ok g c =
    let self = c.args.self.now in
    let request = c.args.entry.now.request in
    let row = c.in-Ok.row in
    let t = some_is (table_at self.desk.tables row) c.in-Ok.ensures.table in
    let leads : LeadsTo (parts_view self) (App c.args.app) request row =
    leads_to (parts_view self) c.args.app c.args.handle row request (told_owners request c.args.handle c.requires.asks) t.0 t.1 (λ s stood effect. c.in-Ok.ensures.ok s effect stood.tables stood.apps) in
    let a = c.end_call.ensures (parts_view self) refl refl (rw (c.in_ok-note-in-Ok.ensures.request, c.requires.actor) (c.in_ok-note-in-Ok.ensures.made (App c.args.app) leads)) in
    record { actor_is = a.actor_is; request_is = a.request_is ∙ c.in_ok-note-in-Ok.ensures.request; made = a.made; told = a.told; small = a.small }

pub end_call-requires-in-Err : goal.end_call-requires-in-Err
end_call-requires-in-Err g c = rw (c.answered-note.ensures.note, c.answered-note.ensures.reply, c.requires.stands.nothing, c.requires.stands.begun.reply.no_bytes) (record {
  no_command = told_no_command c.args.entry.now.request (told_some c.args.entry.now.request c.args.handle c.requires.asks);
  no_reset = owner_resets c.args.entry.now.request c.args.handle c.requires.asks;
  nothing_given_yet = c.requires.stands.begun.nothing;
  fresh = λ stop. absurd (cc stop);
  live = λ stop. absurd (cc stop);
  within = record { events = omega arith; notice = tt; bytes = omega arith };
  room = search rules;
})

pub returns-in-Err : goal.returns-in-Err
returns-in-Err g c =
    let v = g.C.Validator in
    let old = parts_view c.args.self.now in
    let request = c.args.entry.now.request in
    let answer = c.plain.result in
    let does = owner_refused v old c.args.app c.args.handle request (told_owners request c.args.handle c.requires.asks) c.in-Err.status answer c.plain.ensures.status c.plain.ensures.detail
    (λ s stood effect. c.in-Err.ensures.err s effect stood.tables stood.apps) in
    let made = table_made g.B.Bank v 0 old old (App c.args.app) request (quiet_effect answer []) does (omega arith) c.requires.stands.ready (owner_resets request c.args.handle c.requires.asks)
    (λ told blocks stands. uncalled_leaves g.B.Bank g.met.B.Bank.leaves_only_now g.met.B.Bank.only_now c.args.self.now.store _ blocks refl (stands.shows told)) in
    let a = c.end_call-in-Err.ensures old refl refl (rw (c.answered-note.ensures.note, c.answered-note.ensures.reply, c.requires.stands.nothing, c.requires.stands.begun.reply.no_bytes, c.requires.actor) made) in
    record { actor_is = a.actor_is; request_is = a.request_is; made = a.made; told = a.told; small = a.small }
