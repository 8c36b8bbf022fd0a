use Rattle.std.proofs.Common.{◌∙◌, refl, sym, rules}
use Rattle.validation.specs.Kits.{owners}
use Rattle.tbl_model.specs.State.{State}
use Rattle.tbl_model.specs.TableSteps.{new_table}
use Rattle.tbl_model.specs.Effects.{answered}
use Rattle.tbl_model.specs.Registration.{new_effect}
use Rattle.sharing.specs.Registering.{next_row, next_handle, reading}
use Rattle.sharing.proofs.Plans.{not_running, bad_plan, bad_name, no_place, passes, harmless}
use Rattle.sharing.proofs.registering.plan_table.Goals as goal

pub returns-in_default : goal.returns-in_default
returns-in_default g c =
    let at : State → State = reading c.args.tables.now (owners c.args.kit.now) c.args.apps.now in record {
      effect = λ s note. not_running (at s) c.args.app c.args.asked.now note c.in_default.ensures.name ∙ (λ i. answered (at s) (sym c.plain.ensures.status i) (sym c.plain.ensures.detail i));
      harmless = rw c.plain.ensures.status refl;
    }

pub returns-in-Some-plan_refusal : goal.returns-in-Some-plan_refusal
returns-in-Some-plan_refusal g c = record {
  effect = λ s note. bad_plan (reading c.args.tables.now (owners c.args.kit.now) c.args.apps.now s) c.args.app c.args.asked.now note c.in-Some.name c.in-Some.ensures.name
      c.in-Some-plan_refusal.answer c.in-Some-plan_refusal.ensures.refusal;
  harmless = harmless (owners c.args.kit.now) c.args.app c.args.asked.now c.in-Some-plan_refusal.answer c.in-Some-plan_refusal.ensures.refusal;
}

pub returns-in-Some-name_refusal : goal.returns-in-Some-name_refusal
returns-in-Some-name_refusal g c = record {
  effect = λ s note. bad_name (reading c.args.tables.now (owners c.args.kit.now) c.args.apps.now s) c.args.app c.args.asked.now note c.in-Some.name c.in-Some.ensures.name
      c.in-Some-name_refusal.answer c.in_default-plan_refusal.ensures.refusal c.in-Some-name_refusal.ensures;
  harmless = search rules;
}

pub returns-in-Some-place_refusal : goal.returns-in-Some-place_refusal
returns-in-Some-place_refusal g c = record {
  effect = λ s note. no_place (reading c.args.tables.now (owners c.args.kit.now) c.args.apps.now s) c.args.app c.args.asked.now note c.in-Some.name c.in-Some.ensures.name
      c.in-Some-place_refusal.answer c.in_default-plan_refusal.ensures.refusal c.in_default-name_refusal.ensures c.in-Some-place_refusal.ensures;
  harmless = search rules;
}

pub returns : goal.returns
returns g c =
    let at : State → State = reading c.args.tables.now (owners c.args.kit.now) c.args.apps.now in record {
      is = search rules;
      may = search rules;
      effect = λ s note. passes (at s) c.args.app c.args.asked.now note c.in-Some.name c.in-Some.ensures.name
          c.in_default-plan_refusal.ensures.refusal c.in_default-name_refusal.ensures c.in_default-place_refusal.ensures
          ∙ (λ i. new_effect (at s) (next_row c.args.tables.now) (new_table c.in-Some.name c.args.app c.args.asked.now.size (sym (c.from_bits_retain.ensures tt) i) c.args.asked.now.validator (next_handle c.args.tables.now)) note);
    }
