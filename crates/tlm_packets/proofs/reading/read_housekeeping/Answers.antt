use Rattle.std.proofs.Common.{◌≡◌, true, false, Some, length, sym, ap, ◌∙◌, arith, rules}
use Rattle.tlm_packets.specs.Reading.{body_in, is_housekeeping, housekeeping_in}
use Rattle.tlm_packets.specs.Spellings.{SpellsHousekeeping}
use Rattle.tlm_packets.proofs.Options.{if_there, is_there}
use Rattle.tlm_packets.proofs.States.{read_housekeeping, spells_housekeeping}
use Rattle.tlm_packets.proofs.reading.read_housekeeping.Goals as goal

pub returns-in_err-body : goal.returns-in_err-body
returns-in_err-body c = record { spelled = search rules; again = λ value s. let e : false ≡ true = c.in_err-body.ensures.has_head ∙ (read_housekeeping c.args.bytes.now value s).head in absurd cc }

pub returns : goal.returns
returns c = record {
  spelled =
      let b = c.in_ok-body.ensures in
      let part = rw b.body at c.housekeeping_of.ensures in
      if_there c.housekeeping_of.result (is_housekeeping (body_in c.args.bytes.now)) (housekeeping_in (body_in c.args.bytes.now)) (SpellsHousekeeping c.args.bytes.now) part.is part.value
      (spells_housekeeping c.args.bytes.now (λ i. omega (arith, c.type_inv.bytes i)) (sym b.has_head) (sym (ap length b.body) ∙ b.len));
  again = λ value s.
      let part = rw c.in_ok-body.ensures.body at c.housekeeping_of.ensures in
      let r = read_housekeeping c.args.bytes.now value s in
      is_there c.housekeeping_of.result (housekeeping_in (body_in c.args.bytes.now)) (part.is ∙ r.is) part.value ∙ ap (λ v. Some v) r.value;
}
