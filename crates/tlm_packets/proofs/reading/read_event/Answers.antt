use Rattle.std.proofs.Common.{◌≡◌, true, false, Some, length, sym, ap, ◌∙◌, arith, rules}
use Rattle.tbl_kinds.specs.declared.telemetry.Event.{Event}
use Rattle.tlm_packets.specs.Reading.{event_in}
use Rattle.tlm_packets.proofs.Events.{read_event, spells_event}
use Rattle.tlm_packets.proofs.reading.read_event.Goals as goal

pub returns-in_err-body : goal.returns-in_err-body
returns-in_err-body c = record { spelled = search rules; again = λ event s. let e : false ≡ true = c.in_err-body.ensures.has_head ∙ (read_event c.args.bytes.now event s).head in absurd cc }

pub returns : goal.returns
returns c = record {
  spelled =
      let b = c.in_ok-body.ensures in
      rw (c.event_of.ensures ∙ ap event_in b.body) (spells_event c.args.bytes.now (λ i. omega (arith, c.type_inv.bytes i)) (sym b.has_head) (sym (ap length b.body) ∙ b.len));
  again = λ event s.
      ap (λ (e : Event). Some e) (c.event_of.ensures ∙ ap event_in c.in_ok-body.ensures.body ∙ (read_event c.args.bytes.now event s).value);
}
