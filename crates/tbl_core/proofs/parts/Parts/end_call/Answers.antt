use Rattle.std.proofs.Common.{refl}
use Rattle.tbl_model.specs.Dispatch.{effect_of}
use Rattle.tbl_core.specs.Service.{parts_view}
use Rattle.tbl_core.proofs.BootedAfter.{is_made}
use Rattle.tbl_core.proofs.parts.Parts.end_call.Goals as goal

pub returns : goal.returns
returns g c old seconds sub was =
    let b = g.B.Bank in
    let request = c.args.entry.now.request in
    let made = is_made b g.C.Validator old (parts_view c.args.self.now) (parts_view c.boot_if_stopped.new.self) request (λ s given. effect_of s c.args.entry.now.actor request given) _ c.boot_if_stopped.new.note
    was.makes was.meets c.boot_if_stopped.ensures (λ stop. c.requires.no_reset) in
    rw c.keep_given.ensures (record {
      actor_is = refl;
      request_is = refl;
      made = made;
      told = rw (seconds, sub) (rw c.answer_in-answer.ensures at (c.tell_call.ensures.tells c.args.entry.now.reply.bytes.list c.boot_if_stopped.new.note));
      small = record { bytes = was.makes.within.bytes; packets = c.tell_call.ensures.len };
    })
