use Rattle.std.proofs.Common.{◌∙◌, sym}
use Rattle.tbl_model.specs.TableSteps.{handle_at}
use Rattle.tbl_model.specs.Effects.{answered}
use Rattle.sharing.proofs.GivenUp.{held, gives_none}
use Rattle.sharing.proofs.Running.{has_name, gives_back, not_given, of_another, of_this}
use Rattle.sharing.proofs.leaving.unregister.Goals as goal

pub give_up-requires : goal.give_up-requires
give_up-requires c = held c.args.app (handle_at c.args.tables.now c.args.handle) (sym c.is_handle_of.ensures ∙ c.if-not-is_handle_of.false)

pub returns-in_default : goal.returns-in_default
returns-in_default c = gives_none c.args.tables.now c.args.pending.now _ (λ s tables pending apps.
    gives_back s c.args.apps.now c.args.app apps (has_name c.name.result _ c.name.ensures.none _ c.is_none.ensures c.if-is_none.false) c.args.tables.now c.args.handle tables
    ∙ not_given s c.args.app c.args.handle _ c.in_default.ensures ∙ (λ i. answered s (sym c.plain-in_default.ensures.status i) (sym c.plain-in_default.ensures.detail i)))

pub returns-then-not-is_handle_of : goal.returns-then-not-is_handle_of
returns-then-not-is_handle_of c = gives_none c.args.tables.now c.args.pending.now _ (λ s tables pending apps.
    gives_back s c.args.apps.now c.args.app apps (has_name c.name.result _ c.name.ensures.none _ c.is_none.ensures c.if-is_none.false) c.args.tables.now c.args.handle tables
    ∙ of_another s c.args.app c.args.handle _ _ c.in-Some.ensures (sym c.is_handle_of.ensures ∙ c.if-not-is_handle_of.true)
    ∙ (λ i. answered s (sym c.plain-then-not-is_handle_of.ensures.status i) (sym c.plain-then-not-is_handle_of.ensures.detail i)))

pub returns : goal.returns
returns c = record {
  effect = λ s tables pending apps.
      gives_back s c.args.apps.now c.args.app apps (has_name c.name.result _ c.name.ensures.none _ c.is_none.ensures c.if-is_none.false) c.args.tables.now c.args.handle tables
      ∙ of_this s c.args.app c.args.handle _ (sym c.is_handle_of.ensures ∙ c.if-not-is_handle_of.false)
      ∙ (λ i. record (answered s (sym c.plain-2.ensures.status i) (sym c.plain-2.ensures.detail i)) { next = c.give_up.ensures.effect s tables pending i });
  pending = c.give_up.ensures.pending;
  loads = c.give_up.ensures.loads;
}
