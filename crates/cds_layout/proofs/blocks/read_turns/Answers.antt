use Rattle.std.proofs.Common.{ℕ, ap, ◌∙◌}
use Rattle.tbl_kinds.specs.Numbers.{piece}
use Rattle.cds_layout.proofs.Turned.{first-read, second-read}
use Rattle.cds_layout.proofs.blocks.read_turns.Goals as goal

pub returns-clause-turns : goal.returns-clause-turns
returns-clause-turns g c told =
    let bytes = g.B.Bank.now c.args.bank.now in
    let read = c.in_ok-read_at.ensures.read told ∙ ap (λ (at : ℕ). piece at 2 bytes) c.turns_place.ensures in
    record {
      first = c.of.ensures.first ∙ first-read bytes c.args.slot c.read_at.new.into read;
      second = c.of.ensures.second ∙ second-read bytes c.args.slot c.read_at.new.into read;
    }
