use Rattle.std.proofs.Common.{◌∙◌, Bool, cond, ap, sym}
use Rattle.tbl_model.specs.TableSteps.{handle_at}
use Rattle.tbl_model.specs.Sharing.{give_up}
use Rattle.sharing.proofs.GivenUp.{held, gives_none, gives_up_if}
use Rattle.sharing.proofs.leaving.give_up_if.Goals as goal

pub give_up-requires : goal.give_up-requires
give_up-requires c = held c.args.app (handle_at c.args.tables.now c.args.handle) (sym c.is_handle_of.ensures ∙ c.if-not-is_handle_of.false)

pub returns-then-not-is_handle_of : goal.returns-then-not-is_handle_of
returns-then-not-is_handle_of c = gives_none c.args.tables.now c.args.pending.now _ (λ s tables pending.
    gives_up_if s c.args.tables.now c.args.pending.now tables pending c.args.app c.args.handle _ c.is_handle_of.ensures
    ∙ ap (λ (b : Bool). cond b (give_up c.args.handle s) s) c.if-not-is_handle_of.true)

pub returns : goal.returns
returns c = record {
  effect = λ s tables pending.
      gives_up_if s c.args.tables.now c.args.pending.now tables pending c.args.app c.args.handle _ c.is_handle_of.ensures
      ∙ ap (λ (b : Bool). cond b (give_up c.args.handle s) s) c.if-not-is_handle_of.false
      ∙ c.give_up.ensures.effect s tables pending;
  pending = c.give_up.ensures.pending;
  loads = c.give_up.ensures.loads;
}
