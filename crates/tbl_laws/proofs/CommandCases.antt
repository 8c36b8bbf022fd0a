-- Uplinked files and commands, by cases.
use Rattle.std.proofs.Common.{◌≡◌, ℕ, eqb, List, [], ◌∷◌, length, Bool, true, false, not, Option, Some, None, is_some, Result, Ok, Err, refl, subst}
use Rattle.std.proofs.lemmas.Bool.{cond_both}
use Rattle.tbl_kinds.specs.StoreCalls.{delete}
use Rattle.tbl_kinds.specs.Drawer.{is_full_for, with_file}
use Rattle.tbl_kinds.specs.GroundCommands.{GroundCommand, housekeeping, noop, reset_counters, load, dump, validate, activate, dump_registry, send_registry, delete_cds, abort, command_in}
use Rattle.tbl_kinds.specs.TableFiles.{TableFile}
use Rattle.tbl_model.specs.State.{State, Table}
use Rattle.tbl_model.specs.Tables.{table_at, is_dump_only}
use Rattle.tbl_model.specs.TableSteps.{find, last_image, load_image}
use Rattle.tbl_model.specs.Effects.{Effect, answered}
use Rattle.tbl_model.specs.Subjects.{by_row, if_table}
use Rattle.tbl_model.specs.Refusals.{load_refusal, validation_refusal, activation_refusal}
use Rattle.tbl_model.specs.GroundLoads.{loaded_effect, load_file_effect, load_effect}
use Rattle.tbl_model.specs.Validations.{selected, validated_effect, pending_effect, validate_by, validate_effect}
use Rattle.tbl_model.specs.Activations.{ask_effect, activate_command_effect, aborted_effect, abort_effect}
use Rattle.tbl_model.specs.Dumps.{written_effect, dump_refusal, ask_dump_effect, dump_file, image_dump_effect, dump_by, dump_effect, registry_file, dump_registry_effect, housekeeping_effect}
use Rattle.tbl_model.specs.Sharing.{send_registry_effect}
use Rattle.tbl_model.specs.Uplinks.{file_effect}
use Rattle.tbl_model.specs.StoreUse.{then_call}
use Rattle.tbl_model.specs.AppBlocks.{faulted, any_of, delete_table_block, delete_cds_effect}
use Rattle.tbl_model.specs.Commands.{effect_by, command_effect}
use Rattle.tbl_model.specs.declared.telemetry.Named.{Named}
use Rattle.tbl_model.specs.declared.telemetry.Shown.TheVariants.{Registry}
use Rattle.tbl_kinds.specs.declared.block.BlockKind.TheVariants.{Table as of_table}
use Rattle.tbl_kinds.specs.declared.entry.Answer.{Answer}
use Rattle.tbl_kinds.specs.declared.note.BankNote.{BankNote}
use Rattle.tbl_kinds.specs.declared.status.TheConstants.Status.{SUCCESS, ERR_NEVER_LOADED, ERR_BAD_NAME, ERR_FILE_TOO_LARGE, ERR_DRAWER_FULL, ERR_NO_SUCH_TABLE, ERR_BAD_SELECT, ERR_NO_LOAD, ERR_CDS_NOT_FOUND, ERR_TABLE_ACTIVE}
use Rattle.tbl_laws.proofs.CommandAnswers.{CommandRefuses, command_refuses}
use Rattle.tbl_model.proofs.RefusalAnswers.{Refuses, load_refused, validation_refused, activation_refused, dump_refused}
use Rattle.tbl_laws.proofs.Cases.{HasRefusals, by_file_of, by_found, by_ladder, by_load_ladder, no, unless}

module _ (s : State) (P : Effect → Type 0) (refusal : HasRefusals s P) where
  pub by_file : (name contents : List ℕ) → P (record (answered s SUCCESS 0) { next = record s { drawer = with_file s.drawer name contents } }) → P (file_effect s name contents)
  by_file name contents done = unless s P refusal _ ERR_BAD_NAME 0 _ refl (unless s P refusal _ ERR_FILE_TOO_LARGE 0 _ refl (unless s P refusal _ ERR_DRAWER_FULL 0 _ refl done))

  pub by_written : (row : Option ℕ) (file bytes : List ℕ) → (is_full_for s.drawer file ≡ false → P (written_effect s row file bytes)) → P (written_effect s row file bytes)
  by_written row file bytes done = cond_both (is_full_for s.drawer file) _ _ (λ e. P e → P e) (λ _ p. p) (λ _ p. p) (full (is_full_for s.drawer file) refl) where
    full : (b : Bool) → is_full_for s.drawer file ≡ b → P (written_effect s row file bytes)
    full true is = rw is (no s P refusal ERR_DRAWER_FULL 0 refl)
    full false is = done is

  -- ---- the tables that commands name

  module _ (about : (e : Effect) (table : Option Named) → P e → P (record e { table = table })) where
    by_named : (name : List ℕ) (effect : ℕ → Table → Effect) → ((row : ℕ) (t : Table) → table_at s.tables row ≡ Some t → P (effect row t)) → P (if_table s name effect)
    by_named name effect done = found (find name s.tables) where
      found : (row : Option ℕ) → P (by_row s name row effect)
      found None = no s P refusal ERR_NO_SUCH_TABLE 0 refl
      found (Some row) = about _ _ (by_found s P refusal ERR_NO_SUCH_TABLE (table_at s.tables row) (effect row) refl (done row))

    pub by_load : (name : List ℕ) → ((file : TableFile) (row : ℕ) (t : Table) → table_at s.tables row ≡ Some t → load_refusal s.tables row t file.offset (length file.image) ≡ None → P (loaded_effect s name file row)) → P (load_effect s name)
    unfolding load_effect load_file_effect
    by_load name done = by_file_of s P refusal name _ (λ file. by_named file.name _ (λ row t there.
        by_load_ladder s P refusal (load_refusal s.tables row t file.offset (length file.image)) _ (load_refused s.tables row t file.offset (length file.image)) (done file row t there)))

    pub by_validate : (select : ℕ) (name : List ℕ)
        → ((row : ℕ) (t : Table) (active : Bool) → table_at s.tables row ≡ Some t → validation_refusal s.pending row t active ≡ None → is_some t.validator ≡ true → P (pending_effect s active row t))
        → ((row : ℕ) (t : Table) (active : Bool) → table_at s.tables row ≡ Some t → validation_refusal s.pending row t active ≡ None → is_some t.validator ≡ false → P (validated_effect s active row t))
        → P (validate_effect s select name)
    unfolding validate_effect
    by_validate select name pends at_once = by_named name _ (λ row t there. chosen row t there (selected t select)) where
      chosen : (row : ℕ) (t : Table) → table_at s.tables row ≡ Some t → (active : Option Bool) → P (validate_by s row t active)
      chosen row t there None = no s P refusal ERR_BAD_SELECT 0 refl
      chosen row t there (Some active) = by_ladder s P refusal (validation_refusal s.pending row t active) _ (validation_refused s.pending row t active) (λ none.
          cond_both (is_some t.validator) _ _ P (pends row t active there none) (at_once row t active there none))

    pub by_activate : (name : List ℕ) → ((row : ℕ) (t : Table) → table_at s.tables row ≡ Some t → activation_refusal s.pending row t ≡ None → P (ask_effect s row t)) → P (activate_command_effect s name)
    unfolding activate_command_effect
    by_activate name done = by_named name _ (λ row t there. by_ladder s P refusal (activation_refusal s.pending row t) _ (activation_refused s.pending row t) (done row t there))

    pub by_abort : (name : List ℕ) → ((row : ℕ) (t : Table) → table_at s.tables row ≡ Some t → is_some t.load ≡ true → P (aborted_effect s row)) → P (abort_effect s name)
    unfolding abort_effect
    by_abort name done = by_named name _ (λ row t there. cond_both (is_some t.load) _ _ P (done row t there) (λ _. no s P refusal ERR_NO_LOAD 0 refl))

    pub by_send_registry : (name : List ℕ) → ((row : ℕ) → P (record (answered s SUCCESS 0) { shown = Registry row })) → P (send_registry_effect s name)
    unfolding send_registry_effect
    by_send_registry name done = by_named name _ (λ row t there. done row)

    -- the block of a table that isn't registered
    pub by_delete_cds : (note : BankNote) (name : List ℕ) → ((slot : ℕ) → any_of of_table name s.store ≡ Some slot → find name s.tables ≡ None → P (then_call (delete slot ∷ []) note faulted (answered s SUCCESS 0))) → P (delete_cds_effect s name note)
    unfolding delete_cds_effect
    by_delete_cds note name done = about _ _ (by (any_of of_table name s.store) (find name s.tables) refl refl) where
      by : (slot row : Option ℕ) → any_of of_table name s.store ≡ slot → find name s.tables ≡ row → P (delete_table_block s note slot row)
      by None row block table = no s P refusal ERR_CDS_NOT_FOUND 0 refl
      by (Some slot) (Some row) block table = no s P refusal ERR_TABLE_ACTIVE 0 refl
      by (Some slot) None block table = done slot block table

    module _ (written : (row : Option ℕ) (file bytes : List ℕ) → is_full_for s.drawer file ≡ false → P (written_effect s row file bytes)) where
      pub by_dump : (select : ℕ) (name file : List ℕ)
          → ((row : ℕ) (t : Table) → table_at s.tables row ≡ Some t → is_dump_only t ≡ true → dump_refusal s.tables t ≡ None → P (ask_dump_effect s file row t)) → P (dump_effect s select name file)
      unfolding dump_effect
      by_dump select name file asks = by_named name _ (λ row t there. chosen row t there (selected t select)) where
        image : (row : ℕ) (t : Table) (active : Bool) → P (image_dump_effect s file row t active)
        image row t true = unless s P refusal (eqb t.count 0) ERR_NEVER_LOADED 0 _ refl (by_written (Some row) file (dump_file s t.name (last_image t)) (written (Some row) file (dump_file s t.name (last_image t))))
        image row t false = unless s P refusal (not (is_some t.load)) ERR_NO_LOAD 0 _ refl (by_written (Some row) file (dump_file s t.name (load_image t)) (written (Some row) file (dump_file s t.name (load_image t))))

        chosen : (row : ℕ) (t : Table) → table_at s.tables row ≡ Some t → (active : Option Bool) → P (dump_by s file row t active)
        chosen row t there None = no s P refusal ERR_BAD_SELECT 0 refl
        chosen row t there (Some active) = cond_both (is_dump_only t) _ _ P
            (λ only. ladder (dump_refusal s.tables t) refl row t there only) (λ _. image row t active) where
              ladder : (r : Option Answer) → dump_refusal s.tables t ≡ r → (row : ℕ) (u : Table) → table_at s.tables row ≡ Some t → is_dump_only t ≡ true → P (ask_dump_effect s file row t)
              ladder None is row u there only = asks row t there only is
              ladder (Some answer) is row u there only = rw is (refusal _ refl refl refl (subst Refuses is (dump_refused s.tables t)))

      pub by_dump_registry : (file : List ℕ) → P (dump_registry_effect s file)
      unfolding dump_registry_effect
      by_dump_registry file = by_written None file (registry_file s) (written None file (registry_file s))

-- ---- commands

-- what each command does if nothing refuses it
pub record Commands (s : State) (note : BankNote) (P : Effect → Type 0) : Type 0 where
  pub about : (e : Effect) (table : Option Named) → P e → P (record e { table = table })
  pub accepted : P (answered s SUCCESS 0)
  pub housekeeping : P (housekeeping_effect s)
  pub loaded : (name : List ℕ) (file : TableFile) (row : ℕ) (t : Table) → table_at s.tables row ≡ Some t → load_refusal s.tables row t file.offset (length file.image) ≡ None → P (loaded_effect s name file row)
  pub pends : (row : ℕ) (t : Table) (active : Bool) → table_at s.tables row ≡ Some t → validation_refusal s.pending row t active ≡ None → is_some t.validator ≡ true → P (pending_effect s active row t)
  pub at_once : (row : ℕ) (t : Table) (active : Bool) → table_at s.tables row ≡ Some t → validation_refusal s.pending row t active ≡ None → is_some t.validator ≡ false → P (validated_effect s active row t)
  pub asks : (row : ℕ) (t : Table) → table_at s.tables row ≡ Some t → activation_refusal s.pending row t ≡ None → P (ask_effect s row t)
  pub aborted : (row : ℕ) (t : Table) → table_at s.tables row ≡ Some t → is_some t.load ≡ true → P (aborted_effect s row)
  pub shown : (row : ℕ) → P (record (answered s SUCCESS 0) { shown = Registry row })
  pub deletes : (name : List ℕ) (slot : ℕ) → any_of of_table name s.store ≡ Some slot → find name s.tables ≡ None → P (then_call (delete slot ∷ []) note faulted (answered s SUCCESS 0))
  pub written : (row : Option ℕ) (file bytes : List ℕ) → is_full_for s.drawer file ≡ false → P (written_effect s row file bytes)
  pub dump_requested : (file : List ℕ) (row : ℕ) (t : Table) → table_at s.tables row ≡ Some t → is_dump_only t ≡ true → dump_refusal s.tables t ≡ None → P (ask_dump_effect s file row t)

module _ (s : State) (note : BankNote) (P : Effect → Type 0) (refusal : HasRefusals s P) (done : Commands s note P) where
  by_read_command : (command : Result GroundCommand Answer) → CommandRefuses command → P (effect_by s command note)
  by_read_command (Err answer) refuses = refusal _ refl refl refl refuses
  by_read_command (Ok housekeeping) refuses = done.housekeeping
  by_read_command (Ok noop) refuses = done.accepted
  by_read_command (Ok reset_counters) refuses = done.accepted
  by_read_command (Ok (load file)) refuses = by_load s P refusal done.about file (done.loaded file)
  by_read_command (Ok (dump select table file)) refuses = by_dump s P refusal done.about done.written select table file (done.dump_requested file)
  by_read_command (Ok (validate select table)) refuses = by_validate s P refusal done.about select table done.pends done.at_once
  by_read_command (Ok (activate table)) refuses = by_activate s P refusal done.about table done.asks
  by_read_command (Ok (dump_registry file)) refuses = by_dump_registry s P refusal done.about done.written file
  by_read_command (Ok (send_registry table)) refuses = by_send_registry s P refusal done.about table done.shown
  by_read_command (Ok (delete_cds table)) refuses = by_delete_cds s P refusal done.about note table (done.deletes table)
  by_read_command (Ok (abort table)) refuses = by_abort s P refusal done.about table done.aborted

  pub by_command : (bytes : List ℕ) → P (command_effect s bytes note)
  by_command bytes = by_read_command (command_in bytes) (command_refuses bytes)
