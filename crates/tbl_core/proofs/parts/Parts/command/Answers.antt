use Rattle.std.proofs.Common.{◌∙◌, Some, sym, refl, ap}
use Rattle.tbl_kinds.specs.GroundCommands.{command_in}
use Rattle.tbl_kinds.specs.declared.request.Request.TheVariants as ask
use Rattle.tbl_model.specs.Dispatch.{ground_effect}
use Rattle.tbl_core.specs.Service.{parts_view}
use Rattle.tbl_core.proofs.BootedAfter.{is_made}
use Rattle.tbl_core.proofs.parts.Parts.command.Goals as goal

pub boot_if_stopped-requires-clause-fresh : goal.boot_if_stopped-requires-clause-fresh
boot_if_stopped-requires-clause-fresh g c stop = ((c.in_ok-note.ensures.made c.in-Command.bytes (c.read.ensures ∙ ap command_in c.bytes.ensures)).makes.stopped stop).1

pub boot_if_stopped-requires-clause-live : goal.boot_if_stopped-requires-clause-live
boot_if_stopped-requires-clause-live g c stop =
    let makes = (c.in_ok-note.ensures.made c.in-Command.bytes (c.read.ensures ∙ ap command_in c.bytes.ensures)).makes in
    makes.ended ∙ (makes.stopped stop).1.ended

pub tell_command-requires-clause-few : goal.tell_command-requires-clause-few
tell_command-requires-clause-few g c = (c.in_ok-note.ensures.made c.in-Command.bytes (c.read.ensures ∙ ap command_in c.bytes.ensures)).makes.within.events

pub tell_command-requires-clause-code : goal.tell_command-requires-clause-code
tell_command-requires-clause-code g c = (c.in_ok-note.ensures.made c.in-Command.bytes (c.read.ensures ∙ ap command_in c.bytes.ensures)).makes.within.notice

pub returns : goal.returns
returns g c =
    let packet = c.in-Command.bytes in
    let read = c.read.ensures ∙ ap command_in c.bytes.ensures in
    let was = c.in_ok-note.ensures.made packet read in
    let made = is_made g.B.Bank g.C.Validator (parts_view c.args.self.now) (parts_view c.command_effect.new.self) (parts_view c.boot_if_stopped.new.self) (ask.Command packet) (λ s given. ground_effect s (ask.Command packet) given) _ c.boot_if_stopped.new.note
    was.makes was.meets c.boot_if_stopped.ensures (λ stop. refl) in
    rw (c.keep_given.ensures, c.requires.actor, c.in-Command.is) (record {
      actor_is = refl;
      request_is = refl;
      made = made;
      told = rw c.answer_in-answer.ensures at (c.tell_command.ensures.tells (ask.Command packet) (ap (λ r. Some r) (sym read)) c.command_effect.new.reply.bytes.list c.boot_if_stopped.new.note);
      small = record { bytes = was.makes.within.bytes; packets = c.tell_command.ensures.len };
    })
