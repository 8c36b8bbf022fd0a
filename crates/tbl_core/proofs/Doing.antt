-- A request was done, by what is reported of its effect.
use Rattle.std.proofs.Common.{◌≡◌, ℕ, [], ◌∷◌, length, Option, Some, None, ap, refl, arith}
use Rattle.tbl_model.specs.State.{State}
use Rattle.tbl_model.specs.Effects as model
use Rattle.tbl_model.specs.Given.{Given, nothing_given}
use Rattle.tbl_kinds.specs.declared.entry.Answer.{Answer}
use Rattle.request_effects.specs.Effects.{Effect, IsWithin, IsQuiet, given_of, quiet_effect}
use Rattle.tbl_core.specs.Service.{PartsView, IsStateOf, Leaves, IsJudged, Does}
use Rattle.tbl_core.specs.Verdicts.{Judged}
use Rattle.tbl_outside.specs.declared.validator.Validator.{Ghosts as ValidatorGhosts}

module _ {B C : Type 0} (v : ValidatorGhosts C) (most : ℕ) (old new : PartsView B C) (means : State → Given → Option model.Effect) (done : Effect)
    (effect : (s : State) → IsStateOf s.store old s → Leaves s.store done new (means s (given_of done)))
    (judged : (s : State) → IsStateOf s.store old s → IsJudged v old.kit new.kit done.verdicts (means s (given_of done)))
    (store : new.store ≡ old.store) where
  -- nothing came from the outside
  pub plainly : IsWithin most done → given_of done ≡ nothing_given → Does v most old new means done
  plainly within given = record {
    effect = effect;
    judged = judged;
    store = store;
    note = ap (λ (given : Given). given.note) given;
    two = ap (λ (given : Given). length given.verdicts) given;
    within = within;
  }

  -- and only the answer is reported
  pub quietly : IsQuiet done → Does v most old new means done
  quietly quiet = plainly (record {
    events = rw quiet.events (omega arith);
    notice = rw quiet.notice tt;
    bytes = quiet.bytes;
  }) quiet.given

-- it is answered so, leaves this state, and no bytes are its reply
module _ {B C : Type 0} (v : ValidatorGhosts C) (old new : PartsView B C) (means : State → Given → Option model.Effect) (answer : Answer) (after : State → State)
    (is : (s : State) → IsStateOf s.store old s → means s nothing_given ≡ Some (model.answered_left s answer (after s)))
    (stands : (s : State) → IsStateOf s.store old s → IsStateOf s.store new (after s))
    (kit : Judged v old.kit new.kit [] (None ∷ None ∷ [])) (store : new.store ≡ old.store) where
  pub answered : Does v 0 old new means (quiet_effect answer [])
  answered = record {
    effect = λ s stood. rw (is s stood) (record { status = refl; detail = refl; bytes = refl; table = refl; events = refl; shown = refl; questions = refl; calls = refl; notice = refl; next = refl }, stands s stood);
    judged = λ s stood. rw (is s stood) kit;
    store = store;
    note = refl;
    two = refl;
    within = record { events = omega arith; notice = tt; bytes = omega arith };
  }
