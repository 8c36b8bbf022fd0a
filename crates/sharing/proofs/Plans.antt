-- What a registration comes to: it is refused, or its table takes the least free row and handle.
use Rattle.std.proofs.Common.{◌≡◌, ◌∙◌, ℕ, List, Option, Some, None, refl, sym, ap, subst, Bool, true, false, not, ◌||◌}
use Rattle.std.specs.Option.{option_map, option_or}
use Rattle.std.proofs.lemmas.Option.{same_Some}
use Rattle.tbl_kinds.specs.declared.entry.Answer.{Answer}
use Rattle.tbl_kinds.specs.declared.note.BankNote.{BankNote}
use Rattle.tbl_kinds.specs.declared.status.TheConstants.Status.{ERR_BAD_APP}
use Rattle.tbl_model.specs.State.{State}
use Rattle.tbl_model.specs.TableSteps.{new_table}
use Rattle.tbl_model.specs.Effects.{Effect, answered}
use Rattle.tbl_model.specs.Whole.{is_done}
use Rattle.tbl_model.specs.BankCounts.{tells_trouble}
use Rattle.tbl_model.specs.Subjects.{by_app}
use Rattle.tbl_model.specs.Applications.{full_name}
use Rattle.tbl_model.specs.Refusals.{by_answer, plan_refusal}
use Rattle.tbl_model.specs.Registration.{name_refusal, place_refusal, new_effect, register_effect}
use Rattle.tbl_model.proofs.RefusalAnswers.{Refuses, plan_refused}
use Rattle.sharing.specs.Apps.{app_name}
use Rattle.sharing.specs.Registering.{next_row, next_handle, registering}
use Rattle.sharing.specs.declared.registering.Registration.{Registration}

runs : (s : State) (found : Option (List ℕ)) (short full : List ℕ) (effect : List ℕ → Effect) → Some full ≡ option_map (λ name. full_name name short) found
    → (by_full : List ℕ → Effect) → ((name : List ℕ) → effect name ≡ by_full (full_name name short)) → by_app s found effect ≡ by_full full
runs s None short full effect is by_full step = absurd (cc is)
runs s (Some name) short full effect is by_full step = step name ∙ ap by_full (sym (same_Some _ _ is))

ends : (s : State) (found : Option (List ℕ)) (short : List ℕ) (effect : List ℕ → Effect) → None ≡ option_map (λ name. full_name name short) found → by_app s found effect ≡ answered s ERR_BAD_APP 0
ends s None short effect none = refl
ends s (Some name) short effect none = absurd (cc none)

module _ (s : State) (app : ℕ) (asked : Registration) (note : BankNote) where
  pub not_running : None ≡ option_map (λ name. full_name name asked.name) (app_name s.apps app) → registering s app asked note ≡ answered s ERR_BAD_APP 0
  unfolding register_effect
  not_running none = ends s (app_name s.apps app) asked.name _ none

  module _ (full : List ℕ) (running : Some full ≡ option_map (λ name. full_name name asked.name) (app_name s.apps app)) where
    -- its answer, or its table
    abbrev by_refusals : Option Answer → Option Answer → Option Answer → Effect
    by_refusals plan name place = by_answer s (option_or plan (option_or name place)) (new_effect s (next_row s.tables) (new_table full app asked.size asked.flags asked.validator (next_handle s.tables)) note)

    registers : registering s app asked note ≡ by_refusals (plan_refusal s.kit app asked.name asked.size asked.flags asked.validator) (name_refusal s.tables app asked.size full) (place_refusal s.tables)
    unfolding register_effect
    registers = runs s (app_name s.apps app) asked.name full _ running
        (λ full. by_answer s (option_or (plan_refusal s.kit app asked.name asked.size asked.flags asked.validator) (option_or (name_refusal s.tables app asked.size full) (place_refusal s.tables)))
        (new_effect s (next_row s.tables) (new_table full app asked.size asked.flags asked.validator (next_handle s.tables)) note)) (λ name. refl)

    module _ (answer : Answer) where
      pub bad_plan : Some answer ≡ plan_refusal s.kit app asked.name asked.size asked.flags asked.validator → registering s app asked note ≡ answered s answer.status answer.detail
      bad_plan is = registers ∙ ap (λ (r : Option Answer). by_refusals r (name_refusal s.tables app asked.size full) (place_refusal s.tables)) (sym is)

      module _ (plan : None ≡ plan_refusal s.kit app asked.name asked.size asked.flags asked.validator) where
        pub bad_name : Some answer ≡ name_refusal s.tables app asked.size full → registering s app asked note ≡ answered s answer.status answer.detail
        bad_name is = registers ∙ (λ i. by_refusals (sym plan i) (sym is i) (place_refusal s.tables))

        pub no_place : None ≡ name_refusal s.tables app asked.size full → Some answer ≡ place_refusal s.tables → registering s app asked note ≡ answered s answer.status answer.detail
        no_place new is = registers ∙ (λ i. by_refusals (sym plan i) (sym new i) (sym is i))

    pub passes : None ≡ plan_refusal s.kit app asked.name asked.size asked.flags asked.validator → None ≡ name_refusal s.tables app asked.size full → None ≡ place_refusal s.tables
        → registering s app asked note ≡ new_effect s (next_row s.tables) (new_table full app asked.size asked.flags asked.validator (next_handle s.tables)) note
    passes plan new place = registers ∙ (λ i. by_refusals (sym plan i) (sym new i) (sym place i))

-- a plan that can't be asked for is no trouble with the bank
pub harmless : (kit : List (Option ℕ)) (app : ℕ) (asked : Registration) (answer : Answer) → Some answer ≡ plan_refusal kit app asked.name asked.size asked.flags asked.validator → tells_trouble answer.status ≡ false
harmless kit app asked answer is = neither (is_done answer.status) (tells_trouble answer.status) refuses
  where
    refuses : Refuses (Some answer)
    refuses = subst Refuses (sym is) (plan_refused kit app asked.name asked.size asked.flags asked.validator)

    neither : (done trouble : Bool) → not (done || trouble) ≡ true → trouble ≡ false
    neither true trouble is = absurd (cc is)
    neither false true is = absurd (cc is)
    neither false false is = refl
