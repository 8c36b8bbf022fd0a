use Rattle.std.proofs.Common.{rules, sym, ◌∙◌}
use Rattle.std.proofs.lemmas.Result.{on_ok_weaker}
use Rattle.tbl_outside.proofs.Moments.{leaves_among}
use Rattle.cds_store.specs.Boots.{SameStore}
use Rattle.cds_store.proofs.Strays.{unmoved, stray_is, tidied_torn, tidied_step, tidied_skip}
use Rattle.cds_store.proofs.tidying.tidy_slot.Goals as goal

pub returns-then-is_stray-clause-changes : goal.returns-then-is_stray-clause-changes
returns-then-is_stray-clause-changes g c old is so_far =
    let b = g.B.Bank in
    let stray = λ (told : b.tells). sym (stray_is c.args.front.now c.args.directory.now old c.args.slot (is told) c.requires.within) ∙ sym c.is_stray.ensures ∙ c.if-is_stray.true in
    record {
      done =
          on_ok_weaker c.set_gate.result
          (λ done told. tidied_step old (b.now c.args.bank.now) (b.now c.set_gate.new.bank) c.args.slot c.requires.within (stray told) (so_far told) (c.set_gate.ensures.writes.torn told) (done told))
          c.set_gate.ensures.done;
      left = λ told. tidied_torn old (b.now c.args.bank.now) (b.now c.set_gate.new.bank) c.args.slot c.requires.within (stray told) (so_far told) (c.set_gate.ensures.writes.torn told);
      moments = λ m.
          let told = g.met.B.Bank.tells_both m in
          leaves_among (c.set_gate.ensures.writes.moments m) (λ image torn. tidied_torn old (b.now c.args.bank.now) image c.args.slot c.requires.within (stray told) (so_far told) torn);
      bank_calls = search rules;
    }

pub returns-else-is_stray-clause-changes : goal.returns-else-is_stray-clause-changes
returns-else-is_stray-clause-changes g c old is so_far =
    let b = g.B.Bank in
    record {
      done = λ told.
          tidied_skip old (b.now c.args.bank.now) c.args.slot c.requires.within
          (sym (stray_is c.args.front.now c.args.directory.now old c.args.slot (is told) c.requires.within) ∙ sym c.is_stray.ensures ∙ c.if-is_stray.false)
          (so_far told);
      left = λ told. (so_far told).same;
      moments = λ m. unmoved b c.args.bank.now (SameStore old) (λ image left. g.met.B.Bank.leaves_only_now c.args.bank.now image m (g.met.B.Bank.only_now c.args.bank.now image m left)) (so_far (g.met.B.Bank.tells_both m)).same;
      bank_calls = search rules;
    }
