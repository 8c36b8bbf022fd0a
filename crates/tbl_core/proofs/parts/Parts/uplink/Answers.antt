use Rattle.std.proofs.Common.{[], ◌∷◌, Some, None, ap, refl, rules}
use Rattle.std.proofs.lemmas.Result.{IfOk-weaker}
use Rattle.tbl_kinds.specs.Notes.{untouched}
use Rattle.tbl_model.specs.Effects.{Effect}
use Rattle.tbl_core.proofs.Doing.{answered}
use Rattle.tbl_core.proofs.Verdicts.{none_judged}
use Rattle.tbl_core.proofs.parts.Parts.uplink.Goals as goal

pub returns-in-File-clause-quietly : goal.returns-in-File-clause-quietly
returns-in-File-clause-quietly g c = record {
  does =
      IfOk-weaker c.file.result _ _ (λ answer effect. answered g.C.Validator _ _ _ answer (λ s. record s { drawer = c.file.new.drawer })
      (λ s stood. rw c.in-File.is (ap (λ (e : Effect). Some e) (effect s stood.drawer)))
      (λ s stood. record { tables = stood.tables; pending = stood.pending; store = refl; drawer = refl; apps = stood.apps; kit = stood.kit; admit = stood.admit; seconds = stood.seconds; sub = stood.sub; ended = stood.ended })
      (none_judged g.C.Validator _ [] untouched (None ∷ None ∷ []) refl refl) refl) c.file.ensures.effect;
  err = search rules;
}
