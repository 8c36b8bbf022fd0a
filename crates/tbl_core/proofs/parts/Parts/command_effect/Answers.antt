use Rattle.std.proofs.Common.{◌≡◌, ◌∙◌, Ok, Err, sym, ap, subst, refl, arith, rules}
use Rattle.desk.specs.Desk.{output}
use Rattle.store_requests.proofs.Moments.{uncalled_leaves}
use Rattle.cmd_packets.specs.Views.{command_of}
use Rattle.tbl_kinds.specs.GroundCommands.{delete_cds, command_in}
use Rattle.tbl_kinds.specs.declared.entry.Answer.{Answer}
use Rattle.tbl_kinds.specs.declared.request.Actor.TheVariants.{Ground}
use Rattle.tbl_kinds.specs.declared.request.Request.TheVariants as ask
use Rattle.tbl_model.specs.AppBlocks.{delete_cds_effect}
use Rattle.request_effects.specs.Requests.{read_of}
use Rattle.request_effects.specs.Effects.{Effect, reported_effect}
use Rattle.tbl_core.specs.Answers.{WasMade}
use Rattle.tbl_core.specs.Service.{parts_view, step_of}
use Rattle.tbl_kinds.specs.Buffers.{Buffer}
use Rattle.tbl_core.proofs.Commanding.{refused_does}
use Rattle.tbl_core.proofs.Served.{command_does}
use Rattle.tbl_core.proofs.StoreRequests.{block_makes, call_meets}
use Rattle.tbl_core.proofs.TableRequests.{table_made}
use Rattle.tbl_core.proofs.parts.Parts.command_effect.Goals as goal

pub returns-in-Err-clause-made : goal.returns-in-Err-clause-made
returns-in-Err-clause-made g c packet is =
    let b = g.B.Bank in
    let v = g.C.Validator in
    let does = refused_does v (parts_view c.args.self.now) packet c.answer.result (sym is ∙ ap read_of c.in-Err.is ∙ ap (λ (a : Answer). Err a) (sym c.answer.ensures.answer)) in
    rw (c.answered.ensures.note, c.answered.ensures.reply, c.requires.empty.bytes, c.requires.empty.report) (table_made b v 0 _ _ Ground (ask.Command packet) _ does (omega arith) c.requires.ready refl
    (λ told blocks stands. uncalled_leaves b g.met.B.Bank.leaves_only_now g.met.B.Bank.only_now c.args.self.now.store _ blocks refl (stands.shows told)))

-- what the reply tells is what the block's deletion did
pub returns-in_ok-effect-in-Ok-DeleteCds-clause-made : goal.returns-in_ok-effect-in-Ok-DeleteCds-clause-made
returns-in_ok-effect-in-Ok-DeleteCds-clause-made g c packet is =
    let b = g.B.Bank in
    let v = g.C.Validator in
    let table = c.in-Ok-DeleteCds.table in
    let old = parts_view c.args.self.now in
    let store = c.delete_cds.new.store in
    let made = c.in_ok-effect-in-Ok-DeleteCds.ensures.made in
    let deletes : read_of c.args.command.now ≡ Ok (delete_cds table) = search rules in
    let read : Ok (delete_cds table) ≡ command_in packet.list = sym deletes ∙ is in
    subst (λ (e : Effect). WasMade b v (step_of old (record old { store = store }) (ask.Command packet)) Ground (reported_effect e.answer e.bytes c.delete_cds.new.report e.note)) (sym c.put.ensures.told) (record {
      makes = block_makes b v old store (ask.Command packet) c.requires.ready.live (λ n. refl) _ made.call;
      meets = rw (← read) (call_meets b v old (record old { store = store }) (ask.Command packet) _ refl c.requires.ready.live made.call (λ s n. delete_cds_effect s table n) made refl);
    })

pub returns-in_ok-answer-in-Ok : goal.returns-in_ok-answer-in-Ok
returns-in_ok-answer-in-Ok g c =
    let b = g.B.Bank in
    let v = g.C.Validator in
    let store = c.args.self.now.store in
    let made = c.in_ok-answer-in-Ok.ensures.served in
    let does = λ (packet : Buffer) (is : read_of c.args.command.now ≡ command_in packet.list). command_does v c.args.self.now.desk c.commanded.new.desk (output c.commanded.new.reply c.commanded.new.report) store c.args.self.now.ended c.in_ok-answer-in-Ok.answer packet (command_of c.in-Ok.command) (sym (ap read_of c.in-Ok.is) ∙ is) made in
    rw (c.answered-in-Ok.ensures.note, c.answered-in-Ok.ensures.reply) (record {
      made = λ packet is. table_made b v 4 _ _ Ground (ask.Command packet) _ (does packet is) (omega arith) c.requires.ready refl
          (λ told blocks stands. uncalled_leaves b g.met.B.Bank.leaves_only_now g.met.B.Bank.only_now store _ blocks refl (stands.shows told));
      room = made.room;
      err = tt;
    })
