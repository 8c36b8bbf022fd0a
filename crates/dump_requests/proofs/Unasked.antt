-- Requests that ask no validation function.
use Rattle.std.proofs.Common.{◌≡◌, List, [], ◌∷◌, Option, None, subst, sym, refl}
use Rattle.tbl_model.specs.Effects.{Effect}
use Rattle.tbl_model.specs.Telemetry.{Question}
use Rattle.tbl_outside.specs.declared.validator.Validator.{Ghosts as ValidatorGhosts}
use Rattle.tbl_outside.specs.declared.validator.KitEntry.{KitEntry}
use Rattle.validation.specs.Asked.{WasAsked}
use Rattle.validation.proofs.Asking.{asked_nothing}
use Rattle.request_effects.specs.Effects.{Effect as Done, IsEffect}
use Rattle.desk.specs.Desk.{Rest, state_at}
use Rattle.desk.specs.Requests.{Does}
use Rattle.desk.specs.declared.desk.Desk.{Desk}

module _ {C : Type 0} (v : ValidatorGhosts C) where
  -- it asks nobody, and the kit is as it was
  pub does_unasked : (rest : Rest) (old new : Desk C) (done : Done) (e : Effect) → new.kit ≡ old.kit → done.verdicts ≡ None ∷ None ∷ [] → IsEffect done [] (state_at rest new) e → Does v rest old new done e
  does_unasked rest old new done e same none is = record {
    effect = record { status = is.status; detail = is.detail; bytes = is.bytes; table = is.table; events = is.events; shown = is.shown; questions = refl; calls = is.calls; notice = is.notice; next = is.next };
    asked = subst (λ (kit : List (Option (KitEntry C))). WasAsked v.verdict v.asked old.kit kit e.questions done.verdicts) (sym same)
        (subst (λ (qs : List Question). WasAsked v.verdict v.asked old.kit old.kit qs done.verdicts) (sym is.questions)
        (subst (WasAsked v.verdict v.asked old.kit old.kit []) (sym none) (asked_nothing v.verdict v.asked old.kit)));
  }
