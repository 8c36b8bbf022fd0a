use Rattle.std.proofs.Common.{◌≡◌, List, Option, None, Some, ap, refl, rules, sym, subst, ◌∙◌, is_ok, slice_index_or, true}
use Rattle.tbl_kinds.specs.declared.block.Block.{Block}
use Rattle.tbl_outside.specs.BankCalls.{Asks}
use Rattle.cds_layout.specs.Order.{carry_at}
use Rattle.cds_store.specs.Boots.{SameStore}
use Rattle.cds_store.proofs.CarriedOver.{carried_skip}
use Rattle.cds_store.proofs.Strays.{unmoved}
use Rattle.cds_store.proofs.carrying.carry_slot.Goals as goal

pub returns-in-Some-clause-changes : goal.returns-in-Some-clause-changes
returns-in-Some-clause-changes g c old dir carried =
    let b = g.B.Bank in
    let slot = c.args.slot in
    let here : slice_index_or c.args.directory.now slot None ≡ Some c.in-Some.block.now = search rules in
    let block = c.carry_block.ensures.changes old (λ told. ap (λ (l : List (Option Block)). slice_index_or l slot None) (sym (dir told)) ∙ here) carried in
    record {
      done = block.done;
      left = block.left;
      moments = block.moments;
      bank_calls = λ told.
          subst (λ (o : Option Block). Asks b.tells_calls b.calls c.args.bank.now c.carry_block.new.bank (is_ok c.carry_block.result) (carry_at (b.now c.args.bank.now) slot o)) (sym here) (block.bank_calls told);
    }

pub returns-in-None-clause-changes : goal.returns-in-None-clause-changes
returns-in-None-clause-changes g c old dir carried =
    let b = g.B.Bank in
    let slot = c.args.slot in
    let here : slice_index_or c.args.directory.now slot None ≡ None = search rules in
    record {
      done = λ told. carried_skip old (b.now c.args.bank.now) slot (ap (λ (l : List (Option Block)). slice_index_or l slot None) (sym (dir told)) ∙ here) (carried told);
      left = λ told. (carried told).same;
      moments = λ m. unmoved b c.args.bank.now (SameStore old) (λ image left. g.met.B.Bank.leaves_only_now c.args.bank.now image m (g.met.B.Bank.only_now c.args.bank.now image m left)) (carried (g.met.B.Bank.tells_both m)).same;
      bank_calls = λ told.
          subst (λ (o : Option Block). Asks b.tells_calls b.calls c.args.bank.now c.args.bank.now true (carry_at (b.now c.args.bank.now) slot o)) (sym here) (λ told_calls. (told_calls, refl));
    }
