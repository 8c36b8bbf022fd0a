use Rattle.std.proofs.Common.{◌≡◌, ◌∙◌, ℕ, ◌-◌, List, map, Option, None, ap, sym}
use Rattle.std.specs.Prelude.{slice_set}
use Rattle.tbl_kinds.specs.declared.status.TheConstants.Status.{SUCCESS}
use Rattle.tbl_model.specs.State.{State}
use Rattle.tbl_model.specs.Effects.{answered}
use Rattle.tbl_model.specs.Sharing.{unless_of, ended_app}
use Rattle.validation.specs.Kits.{owners}
use Rattle.sharing.proofs.Functions.{owners_dropped}
use Rattle.sharing.proofs.Running.{has_name, ends}
use Rattle.sharing.proofs.leaving.app_exit.Goals as goal

pub returns-clause-gone : goal.returns-clause-gone
returns-clause-gone g c = record {
  effect = λ s tables pending apps kit.
      let names : slice_set s.apps (c.args.app - 1) None ≡ c.end.new.self = ap (λ (names : List (Option (List ℕ))). slice_set names (c.args.app - 1) None) apps ∙ sym c.end.ensures in
      let functions : map (unless_of c.args.app) s.kit ≡ owners c.drop_app.new.self =
      ap (map (unless_of c.args.app)) kit ∙ sym (owners_dropped c.args.app c.args.kit.now) ∙ sym (ap owners c.drop_app.ensures) in
      ends s c.args.apps.now c.args.app apps (has_name c.name.result _ c.name.ensures.none _ c.is_none.ensures c.if-is_none.false)
      ∙ ap (λ (next : State). record (answered s SUCCESS 0) { next = ended_app c.args.app next }) (c.give_up_all.ensures.effect s tables pending)
      ∙ (λ i. record (answered s (sym c.plain-2.ensures.status i) (sym c.plain-2.ensures.detail i)) { next = record s { tables = c.give_up_all.new.tables; pending = c.give_up_all.new.pending; apps = names i; kit = functions i } });
  pending = c.give_up_all.ensures.pending;
  loads = c.give_up_all.ensures.loads;
}
