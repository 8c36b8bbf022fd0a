-- What an application does that runs, whatever its name.
use Rattle.std.proofs.Common.{◌≡◌, ◌∙◌, ℕ, List, Bool, true, false, not, Option, Some, None, IsNone, is_some, ◌↔◌, refl, sym, ap}
use Rattle.std.specs.Option.{option_map}
use Rattle.tbl_kinds.specs.Telemetry.{registry_record}
use Rattle.tbl_kinds.specs.declared.status.TheConstants.Status.{SUCCESS, ERR_INVALID_HANDLE, ERR_NO_ACCESS}
use Rattle.tbl_model.specs.State.{State, Table, Handle, Tables}
use Rattle.tbl_model.specs.Tables.{table_at}
use Rattle.tbl_model.specs.TableSteps.{find, handle_at}
use Rattle.tbl_model.specs.Registry.{registry_row}
use Rattle.tbl_model.specs.Effects.{Effect, answered}
use Rattle.tbl_model.specs.Subjects.{by_app, if_running}
use Rattle.tbl_model.specs.Sharing.{is_handle_of, share_found, share_effect, info_of, info_effect, give_up, unregister_by, unregister_effect, without_handles_of, ended_app, exit_effect}
use Rattle.sharing.specs.Apps.{app_name}

-- it runs if its name is found
pub has_name : {X : Type 0} (found : Option X) (name : Option (List ℕ)) → (IsNone found ↔ (name ≡ None)) → (b : Bool) → is_some found ≡ not b → b ≡ false → name ≡ None → ⊥
has_name None name same b is no_name none = cc (is, no_name)
has_name (Some x) name same b is no_name none = absurd (cc (same.1 none))

module _ (s : State) (apps : List (Option (List ℕ))) (app : ℕ) (same : s.apps ≡ apps) (running : app_name apps app ≡ None → ⊥) where
  pub runs : (effect : List ℕ → Effect) (other : Effect) → ((name : List ℕ) → effect name ≡ other) → if_running s app effect ≡ other
  runs effect other step = by (app_name s.apps app) (λ none. running (ap (λ (a : List (Option (List ℕ))). app_name a app) (sym same) ∙ none))
    where
      by : (found : Option (List ℕ)) → (found ≡ None → ⊥) → by_app s found effect ≡ other
      by None some = absurd (some refl)
      by (Some name) some = step name

  module _ (tables : Tables) (name : List ℕ) (found : Option ℕ) (kept : s.tables ≡ tables) (is : found ≡ find name tables) where
    pub shares : share_effect s app name ≡ share_found s app found
    unfolding share_effect
    shares = runs _ _ (λ app_name. rw (kept, is) refl)

    pub tells : info_effect s app name ≡ info_of s found
    unfolding info_effect
    tells = runs _ _ (λ app_name. rw (kept, is) refl)

  pub ends : exit_effect s app ≡ record (answered s SUCCESS 0) { next = ended_app app (without_handles_of app s) }
  unfolding exit_effect
  ends = runs _ _ (λ app_name. refl)

  pub gives_back : (tables : Tables) (number : ℕ) → s.tables ≡ tables → unregister_effect s app number ≡ unregister_by s app number (handle_at tables number)
  unfolding unregister_effect
  gives_back tables number kept = runs _ _ (λ app_name. ap (λ (t : Tables). unregister_by s app number (handle_at t number)) kept)

-- no handle is given under the number
pub not_given : (s : State) (app number : ℕ) (place : Option Handle) → None ≡ option_map (λ (h : Handle). h.app) place → unregister_by s app number place ≡ answered s ERR_INVALID_HANDLE 0
not_given s app number None is = refl
not_given s app number (Some h) is = absurd (cc is)

-- it is another application's
pub of_another : (s : State) (app number holder : ℕ) (place : Option Handle) → Some holder ≡ option_map (λ (h : Handle). h.app) place → is_handle_of app place ≡ false → unregister_by s app number place ≡ answered s ERR_NO_ACCESS 0
of_another s app number holder None is other = absurd (cc is)
of_another s app number holder (Some h) is other = rw other refl

-- it is this application's
pub of_this : (s : State) (app number : ℕ) (place : Option Handle) → is_handle_of app place ≡ true → unregister_by s app number place ≡ record (answered s SUCCESS 0) { next = give_up number s }
of_this s app number None is = absurd (cc is)
of_this s app number (Some h) is = rw is refl

-- the record of the table that is there
pub record_of : (s : State) (tables : Tables) (row : ℕ) (t : Table) → s.tables ≡ tables → table_at tables row ≡ Some t → info_of s (Some row) ≡ record (answered s SUCCESS 0) { bytes = registry_record (registry_row t) }
record_of s tables row t kept there = rw (kept, there) refl
