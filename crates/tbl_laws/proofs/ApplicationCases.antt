-- Applications, their registrations and what they share, by cases.
use Rattle.std.proofs.Common.{◌≡◌, ℕ, eqb, List, [], ◌∷◌, length, Bool, true, false, not, ◌||◌, cond, Option, Some, None, is_some, refl, inl, inr}
use Rattle.std.specs.Prelude.{◌-◌, slice_set, bit_and, nat_le, IfSome, replicate}
use Rattle.std.proofs.lemmas.Bool.{eqb-true, not-false, cond_both}
use Rattle.std.proofs.lemmas.List.{length-replicate}
use Rattle.tbl_kinds.specs.Blocks.{Store}
use Rattle.tbl_kinds.specs.StoreSteps.{open_of, stored_at, has_room}
use Rattle.tbl_kinds.specs.StoreCalls.{StoreCall, restore}
use Rattle.tbl_kinds.specs.Notes.{restored_image}
use Rattle.tbl_kinds.specs.Free.{least_free}
use Rattle.tbl_kinds.specs.Names.{is_name}
use Rattle.tbl_kinds.specs.Telemetry.{registry_record}
use Rattle.tbl_model.specs.State.{State, Table, Handle}
use Rattle.tbl_model.specs.Tables.{table_at, is_dump_only, is_critical, critical_count}
use Rattle.tbl_model.specs.TableSteps.{handle_at, find, set_notice, new_table, with_first, first_image}
use Rattle.tbl_model.specs.Registry.{registry_row}
use Rattle.tbl_model.specs.Effects.{Effect, answered}
use Rattle.tbl_model.specs.Subjects.{name_of}
use Rattle.tbl_model.specs.Applications.{has_dot, full_name, start_effect}
use Rattle.tbl_model.specs.CriticalTables.{critical_limit, registered, not_kept, recovered, instead, kept_effect}
use Rattle.tbl_model.specs.Registration.{registration_refusal, new_effect, table_requested, placed_effect, register_effect}
use Rattle.tbl_model.specs.Refusals.{plan_refusal}
use Rattle.tbl_model.specs.Sharing.{share_by, share_found, share_effect, give_up, unregister_by, unregister_effect, without_handles_of, ended_app, exit_effect, is_notice, notify_effect, info_of, info_effect}
use Rattle.tbl_model.specs.BankCounts.{tells_trouble}
use Rattle.tbl_model.specs.Boots.{stopped}
use Rattle.tbl_model.specs.StoreUse.{left_by, with_calls, by_outcome, then_call}
use Rattle.tbl_model.specs.AppBlocks.{any_of, renewal, has_size}
use Rattle.tbl_kinds.specs.declared.block.BlockKind.TheVariants.{Table as of_table}
use Rattle.tbl_kinds.specs.declared.note.BankNote.{BankNote}
use Rattle.tbl_kinds.specs.declared.note.Outcome.{Outcome}
use Rattle.tbl_kinds.specs.declared.note.Outcome.TheVariants.{Untouched, Done, Failed, Stopped}
use Rattle.tbl_kinds.specs.declared.status.Status.{Status}
use Rattle.tbl_kinds.specs.declared.status.TheConstants.Status.{SUCCESS, INFO_RECOVERED_TBL, WARN_NOT_CRITICAL, ERR_INVALID_HANDLE, ERR_NO_ACCESS, ERR_INVALID_NAME, ERR_HANDLES_FULL, ERR_APP_RUNNING, ERR_NOTICE_ID}
use Rattle.tbl_model.proofs.RefusalLaws.{registration_taken}
use Rattle.tbl_model.proofs.RefusalAnswers.{registration_refused}
use Rattle.tbl_laws.proofs.Cases.{Begins, CallsStore, HasRefusals, by_found, by_its_table, by_ladder, by_name, no, unless, unless_then, with_blocks}

module _ (s : State) (P : Effect → Type 0) (refusal : HasRefusals s P) where
  pub by_start : (app : ℕ) (name : List ℕ) → P (record (answered s SUCCESS 0) { next = record s { apps = slice_set s.apps (app - 1) (Some name) } }) → P (start_effect s app name)
  by_start app name done = unless s P refusal (is_some (name_of s app)) ERR_APP_RUNNING 0 _ refl (unless s P refusal (not (is_name name) || has_dot name) ERR_INVALID_NAME 0 _ refl done)

  module _ (app : ℕ) (short : List ℕ) (size flags : ℕ) (validator : Option ℕ) (note : BankNote)
      (done : (name : List ℕ) (row handle : ℕ) → plan_refusal s.kit app short size flags validator ≡ None → find name s.tables ≡ None → least_free s.tables.rows ≡ Some row → least_free s.tables.handles ≡ Some handle → P (new_effect s row (new_table name app size flags validator handle) note)) where
    -- a new table is registered
    pub by_new : P (register_effect s app short size flags validator note)
    unfolding register_effect
    by_new = by_name s P refusal (name_of s app) _ (λ app_name. by_full_name (full_name app_name short)) where
      by_full_name : (name : List ℕ) → P (placed_effect s (registration_refusal s app name short size flags validator) (table_requested s app name size flags validator) note)
      by_full_name name = by_ladder s P refusal (registration_refusal s app name short size flags validator) _ (registration_refused s app name short size flags validator) (λ none.
          let taken = registration_taken s app name short size flags validator none in
          rw (taken.row.1, taken.handle.1) (done name taken.row.0 taken.handle.0 taken.plan taken.new taken.row.1 taken.handle.1))

  -- with whatever options, first image and status, and with whatever calls
  module _ (app : ℕ) (short : List ℕ) (size flags : ℕ) (validator : Option ℕ) (note : BankNote) (calls_store : CallsStore s note P)
      (done : (name : List ℕ) (row handle options : ℕ) (first : Option (List ℕ)) (status : Status) (calls : List StoreCall) (store : Store) → plan_refusal s.kit app short size flags validator ≡ None → least_free s.tables.rows ≡ Some row → least_free s.tables.handles ≡ Some handle
      → Begins s.store note size calls first → tells_trouble status ≡ false → P (with_blocks calls store (registered s row (with_first first (new_table name app size options validator handle)) status))) where
    module _ (name : List ℕ) (row handle : ℕ) (plan : plan_refusal s.kit app short size flags validator ≡ None) (free_row : least_free s.tables.rows ≡ Some row) (free_handle : least_free s.tables.handles ≡ Some handle) where
      t : Table
      t = new_table name app size flags validator handle

      not_critical : (calls : List StoreCall) (store : Store) → P (with_blocks calls store (not_kept s row t))
      unfolding t
      not_critical calls store = done name row handle (bit_and flags 0xFFF7) None WARN_NOT_CRITICAL calls store plan free_row free_handle (inl tt) refl

      called : (calls : List StoreCall) (first : Option (List ℕ)) (status : Status) → Begins s.store note size calls first → tells_trouble status ≡ false → P (then_call calls note (instead (not_kept s row t)) (registered s row (with_first first t) status))
      unfolding t
      called calls first status begins quiet = by note.outcome refl where
        all : P (with_calls calls note (registered s row (with_first first t) status))
        all = done name row handle flags first status calls (left_by calls note s.store) plan free_row free_handle begins quiet

        by : (outcome : Outcome) → note.outcome ≡ outcome → P (by_outcome outcome (with_calls calls note (registered s row (with_first first t) status)) (instead (not_kept s row t) (with_calls calls note (registered s row (with_first first t) status)))
            (stopped note (with_calls calls note (registered s row (with_first first t) status))))
        by Untouched is = all
        by Done is = all
        by Failed is = not_critical calls (left_by calls note s.store)
        by Stopped is = calls_store.restarts (left_by calls note s.store) _ is refl refl refl

      recovers : (slot : ℕ) (image : Option (List ℕ)) → has_size size (stored_at s.store slot) ≡ true → image ≡ restored_image note → P (then_call (restore slot image ∷ []) note (instead (not_kept s row t)) (recovered s row t image))
      recovers slot None sized gave = called (restore slot None ∷ []) None SUCCESS (inl tt) refl
      recovers slot (Some image) sized gave = called (restore slot (Some image) ∷ []) (Some image) INFO_RECOVERED_TBL (inr (slot, refl, sized, gave)) refl

      makes : (old : Option ℕ) → P (cond (not (has_room size (any_of of_table name s.store) s.store)) (not_kept s row t) (then_call (renewal of_table name size old) note (instead (not_kept s row t)) (registered s row t SUCCESS)))
      unfolding t
      makes old = cond_both (not (has_room size (any_of of_table name s.store) s.store)) _ _ P (λ _. not_critical [] s.store) (λ _. called (renewal of_table name size old) None SUCCESS (inl tt) refl)

      keeps : (old : Option ℕ) → P (kept_effect s row t note old)
      unfolding t
      keeps None = makes None
      keeps (Some slot) = cond_both (has_size size (stored_at s.store slot)) _ _ P (λ sized. recovers slot (restored_image note) sized refl) (λ _. makes (Some slot))

      zeros : (b : Bool) → IfSome (cond b (Some (replicate {A = ℕ} size 0)) None) (λ image. length image ≡ size)
      zeros true = length-replicate size 0
      zeros false = tt

      new : P (new_effect s row t note)
      unfolding t
      new = cond_both (is_critical t) _ _ P
          (λ _. cond_both (nat_le critical_limit (critical_count s.tables)) _ _ P (λ _. not_critical [] s.store) (λ _. keeps (open_of of_table name s.store)))
          (λ _. done name row handle flags (first_image t) SUCCESS [] s.store plan free_row free_handle (inl (zeros (is_dump_only t))) refl)

    pub by_register : P (register_effect s app short size flags validator note)
    unfolding t
    by_register = by_new app short size flags validator note (λ name row handle plan found free_row free_handle. new name row handle plan free_row free_handle)

  -- a further handle on the table in this row
  pub by_share : (app : ℕ) (name : List ℕ) → ((row handle : ℕ) → least_free s.tables.handles ≡ Some handle → P (share_by s app row (Some handle))) → P (share_effect s app name)
  unfolding share_effect
  by_share app name done = by_name s P refusal (name_of s app) _ (λ app_name. found (find name s.tables)) where
    free : (row : ℕ) (handle : Option ℕ) → least_free s.tables.handles ≡ handle → P (share_by s app row handle)
    free row None is = no s P refusal ERR_HANDLES_FULL 0 refl
    free row (Some handle) is = done row handle is

    found : (row : Option ℕ) → P (share_found s app row)
    found None = no s P refusal ERR_INVALID_NAME 0 refl
    found (Some row) = free row (least_free s.tables.handles) refl

  pub by_unregister : (app m : ℕ) → ((h : Handle) → handle_at s.tables m ≡ Some h → h.app ≡ app → P (record (answered s SUCCESS 0) { next = give_up m s })) → P (unregister_effect s app m)
  unfolding unregister_effect
  by_unregister app m done = by_name s P refusal (name_of s app) _ (λ app_name. given (handle_at s.tables m) refl) where
    given : (h : Option Handle) → handle_at s.tables m ≡ h → P (unregister_by s app m h)
    given None there = no s P refusal ERR_INVALID_HANDLE 0 refl
    given (Some h) there = unless_then s P refusal (not (eqb h.app app)) ERR_NO_ACCESS 0 _ refl (λ own. done h there (eqb-true h.app app (not-false (eqb h.app app) own)))

  pub by_exit : (app : ℕ) → P (record (answered s SUCCESS 0) { next = ended_app app (without_handles_of app s) }) → P (exit_effect s app)
  unfolding exit_effect
  by_exit app done = by_name s P refusal (name_of s app) _ (λ app_name. done)

  pub by_notify : (app m msg code parameter : ℕ)
      → ((row : ℕ) (t : Table) → table_at s.tables row ≡ Some t → is_notice msg code ≡ true → P (record (answered s SUCCESS 0) { next = record s { tables = set_notice row (record { msg = msg; code = code; parameter = parameter }) s.tables } }))
      → P (notify_effect s app m msg code parameter)
  unfolding notify_effect
  by_notify app m msg code parameter done = by_its_table s P refusal app m true _ (λ row t there. unless_then s P refusal (not (is_notice msg code)) ERR_NOTICE_ID 0 _ refl (λ is. done row t there (not-false (is_notice msg code) is)))

  pub by_info : (app : ℕ) (name : List ℕ) → ((t : Table) → P (record (answered s SUCCESS 0) { bytes = registry_record (registry_row t) })) → P (info_effect s app name)
  unfolding info_effect
  by_info app name done = by_name s P refusal (name_of s app) _ (λ app_name. found (find name s.tables)) where
    found : (row : Option ℕ) → P (info_of s row)
    found None = no s P refusal ERR_INVALID_NAME 0 refl
    found (Some row) = by_found s P refusal ERR_INVALID_NAME (table_at s.tables row) _ refl (λ t there. done t)
