use Rattle.std.proofs.Common.{◌≡◌, ◌∙◌, length, refl, ap, sym, arith}
use Rattle.tbl_model.specs.State.{State, Tables}
use Rattle.tbl_model.specs.Sharing.{give_up_if}
use Rattle.tbl_model.specs.Effects.{left_with}
use Rattle.sharing.proofs.GivenUp.{gives_none, fold_next, all_in_turn}
use Rattle.sharing.proofs.leaving.give_up_all.Goals as goal

pub loop-handle-init : goal.loop-handle-init
loop-handle-init c = gives_none _ _ _ (λ s tables pending. refl)

pub loop-handle-preserved : goal.loop-handle-preserved
loop-handle-preserved c = record {
  effect = λ s tables pending.
      fold_next (give_up_if c.args.app) s c.loop-handle.handle
      ∙ ap (λ (t : State). give_up_if c.args.app t c.loop-handle.handle) (c.loop-handle.invariant.effect s tables pending)
      ∙ c.give_up_if.ensures.effect (left_with s c.loop-handle.tables c.loop-handle.pending) refl refl;
  pending = λ all. c.give_up_if.ensures.pending (c.loop-handle.invariant.pending all);
  loads = λ all. c.give_up_if.ensures.loads (c.loop-handle.invariant.loads all);
}

pub returns : goal.returns
returns c =
    let last : c.loop-handle.handle ≡ c.handle_limit-handle-end.result = omega arith in record {
      effect = λ s tables pending.
          all_in_turn s c.args.app c.loop-handle.handle (last ∙ c.handle_limit-handle-end.ensures ∙ ap (λ (t : Tables). length t.handles) (sym tables))
          ∙ c.loop-handle.invariant.effect s tables pending;
      pending = c.loop-handle.invariant.pending;
      loads = c.loop-handle.invariant.loads;
    }
