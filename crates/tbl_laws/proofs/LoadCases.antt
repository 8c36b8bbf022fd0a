-- Loads, validations, updates and edits by the owner of a table, by cases.
use Rattle.std.proofs.Common.{◌≡◌, ℕ, List, length, Bool, true, false, not, Option, Some, None, refl, ℤ}
use Rattle.std.proofs.lemmas.Bool.{not-false, cond_both}
use Rattle.tbl_kinds.specs.Numbers.{patched}
use Rattle.tbl_kinds.specs.TableFiles.{TableFile}
use Rattle.tbl_model.specs.State.{State, Table}
use Rattle.tbl_model.specs.Tables.{table_at}
use Rattle.tbl_model.specs.TableSteps.{base, put, fill_dump}
use Rattle.tbl_model.specs.Effects.{Effect, answered}
use Rattle.tbl_model.specs.Given.{Given, verdict_at}
use Rattle.tbl_model.specs.Telemetry.{is_good, verdict_bits}
use Rattle.tbl_model.specs.Refusals.{image_refusal, closed_refusal, file_refusal, update_refusal}
use Rattle.tbl_model.specs.AppLoads.{activate_effect, with_verdict, by_function, load_image_effect, from_file, file_image, app_file_effect}
use Rattle.tbl_model.specs.Validations.{first_pending, do_validation, app_validate_effect}
use Rattle.tbl_model.specs.Activations.{updated_effect, update_effect}
use Rattle.tbl_model.specs.Management.{manage_answer, all_done, managed_effect, manage_effect, pending_status, get_status_effect, is_requested}
use Rattle.tbl_model.specs.Dumps.{dump_to_buffer_effect, edit_refusal, edit_effect}
use Rattle.tbl_kinds.specs.declared.note.BankNote.{BankNote}
use Rattle.tbl_kinds.specs.declared.status.TheConstants.Status.{SUCCESS, INFO_NO_VALIDATION_PENDING, INFO_NO_DUMP_PENDING, ERR_VALIDATION_FAILED}
use Rattle.tbl_model.proofs.RefusalAnswers.{image_refused, closed_refused, file_refused, update_refused, edit_refused}
use Rattle.tbl_laws.proofs.Cases.{Copies, HasRefusals, by_copy, by_file_of, by_its_table, by_ladder, by_load_ladder, no, unless_then}

module _ (s : State) (P : Effect → Type 0) (refusal : HasRefusals s P) where
  -- a function that there is gives its verdict first, and a bad one is a refusal with an event
  pub by_verdict : (row : ℕ) (image : List ℕ) (validator : Option ℕ) (given : Given) (effect : Effect)
      → ((number : ℕ) (verdict : ℤ) → validator ≡ Some number → verdict ≡ verdict_at 0 given → is_good verdict ≡ false → P (with_verdict row image number verdict (answered s ERR_VALIDATION_FAILED (verdict_bits verdict))))
      → ((number : ℕ) (verdict : ℤ) → validator ≡ Some number → verdict ≡ verdict_at 0 given → is_good verdict ≡ true → P (with_verdict row image number verdict effect)) → (validator ≡ None → P effect) → P (by_function s row image validator given effect)
  by_verdict row image None given effect bad good none = none refl
  by_verdict row image (Some number) given effect bad good none =
      cond_both (is_good (verdict_at 0 given)) (with_verdict row image number (verdict_at 0 given) effect) (with_verdict row image number (verdict_at 0 given) (answered s ERR_VALIDATION_FAILED (verdict_bits (verdict_at 0 given)))) P
      (good number (verdict_at 0 given) refl refl) (bad number (verdict_at 0 given) refl refl)

  module _ (given : Given) (bad : (row : ℕ) (t : Table) (image : List ℕ) (number : ℕ) (verdict : ℤ) → table_at s.tables row ≡ Some t → t.validator ≡ Some number → verdict ≡ verdict_at 0 given → is_good verdict ≡ false → P (with_verdict row image number verdict (answered s ERR_VALIDATION_FAILED (verdict_bits verdict)))) (copies : Copies given.note P) where
    pub by_load_image : (app m : ℕ) (image : List ℕ)
        → ((row : ℕ) (t : Table) → table_at s.tables row ≡ Some t → image_refusal s.tables row t (length image) ≡ None → t.validator ≡ None → P (activate_effect s row t image))
        → ((row : ℕ) (t : Table) (number : ℕ) (verdict : ℤ) → table_at s.tables row ≡ Some t → image_refusal s.tables row t (length image) ≡ None → t.validator ≡ Some number → verdict ≡ verdict_at 0 given → is_good verdict ≡ true → P (with_verdict row image number verdict (activate_effect s row t image)))
        → P (load_image_effect s app m image given)
    unfolding load_image_effect
    by_load_image app m image plain good = by_its_table s P refusal app m true _ (λ row t there. by_copy given.note P copies row _ (
        by_load_ladder s P refusal (image_refusal s.tables row t (length image)) _ (image_refused s.tables row t (length image)) (λ none.
        by_verdict row image t.validator given (activate_effect s row t image) (λ number verdict is one no. bad row t image number verdict there is one no) (λ number verdict is one yes. good row t number verdict there none is one yes) (plain row t there none))))

    pub by_load_file : (app m : ℕ) (name : List ℕ)
        → ((row : ℕ) (t : Table) (file : TableFile) → table_at s.tables row ≡ Some t → closed_refusal t ≡ None → file_refusal s.tables row t file ≡ None → t.validator ≡ None → P (from_file row name (activate_effect s row t (file_image t file))))
        → ((row : ℕ) (t : Table) (file : TableFile) (number : ℕ) (verdict : ℤ) → table_at s.tables row ≡ Some t → closed_refusal t ≡ None → file_refusal s.tables row t file ≡ None → t.validator ≡ Some number → verdict ≡ verdict_at 0 given → is_good verdict ≡ true
        → P (with_verdict row (file_image t file) number verdict (from_file row name (activate_effect s row t (file_image t file)))))
        → P (app_file_effect s app m name given)
    unfolding app_file_effect
    by_load_file app m name plain good = by_its_table s P refusal app m true _ (λ row t there. by_copy given.note P copies row _ (
        by_ladder s P refusal (closed_refusal t) _ (closed_refused t) (λ open_to.
        by_file_of s P refusal name _ (λ file.
        by_load_ladder s P refusal (file_refusal s.tables row t file) _ (file_refused s.tables row t file) (λ none.
        by_verdict row (file_image t file) t.validator given (from_file row name (activate_effect s row t (file_image t file)))
        (λ number verdict is one no. bad row t (file_image t file) number verdict there is one no) (λ number verdict is one yes. good row t file number verdict there open_to none is one yes) (plain row t file there open_to none))))))

  -- ---- validation, activation, dumps: the owner's part

  pub by_app_validate : (app m : ℕ) (given : Given)
      → ((row : ℕ) (t : Table) (active : Bool) → table_at s.tables row ≡ Some t → first_pending s.pending row ≡ Some active → P (do_validation s given row t (Some active))) → P (app_validate_effect s app m given)
  unfolding app_validate_effect
  by_app_validate app m given done = by_its_table s P refusal app m true _ (λ row t there. pends row t there (first_pending s.pending row) refl) where
    pends : (row : ℕ) (t : Table) → table_at s.tables row ≡ Some t → (first : Option Bool) → first_pending s.pending row ≡ first → P (do_validation s given row t first)
    pends row t there None is = no s P refusal INFO_NO_VALIDATION_PENDING 0 refl
    pends row t there (Some active) is = done row t active there is

  pub by_update : (app m : ℕ) (note : BankNote) → Copies note P → ((row : ℕ) (t : Table) → table_at s.tables row ≡ Some t → update_refusal s.tables row t ≡ None → P (updated_effect s row t)) → P (update_effect s app m note)
  unfolding update_effect
  by_update app m note copies done = by_its_table s P refusal app m true _ (λ row t there. by_copy note P copies row _ (by_ladder s P refusal (update_refusal s.tables row t) _ (update_refused s.tables row t) (done row t there)))

  pub by_manage : (app m : ℕ) (given : Given) → Copies given.note P → ((row : ℕ) (t : Table) → table_at s.tables row ≡ Some t → P (managed_effect s (manage_answer s.tables row t) (all_done s given row))) → P (manage_effect s app m given)
  unfolding manage_effect
  by_manage app m given copies done = by_its_table s P refusal app m true _ (λ row t there. by_copy given.note P copies row _ (done row t there))

  pub by_get_status : (app m : ℕ) → ((row : ℕ) (t : Table) → P (answered s (pending_status s.pending row t) 0)) → P (get_status_effect s app m)
  unfolding get_status_effect
  by_get_status app m done = by_its_table s P refusal app m false _ (λ row t there. done row t)

  pub by_dump_to_buffer : (app m : ℕ) → ((row : ℕ) (t : Table) → table_at s.tables row ≡ Some t → is_requested t.dump ≡ true → P (record (answered s SUCCESS 0) { next = record s { tables = fill_dump row s.tables } })) → P (dump_to_buffer_effect s app m)
  unfolding dump_to_buffer_effect
  by_dump_to_buffer app m done = by_its_table s P refusal app m true _ (λ row t there. unless_then s P refusal (not (is_requested t.dump)) INFO_NO_DUMP_PENDING 0 _ refl (λ is. done row t there (not-false (is_requested t.dump) is)))

  pub by_edit : (app m offset : ℕ) (bytes : List ℕ)
      → ((row : ℕ) (t : Table) → table_at s.tables row ≡ Some t → edit_refusal s.tables row t offset (length bytes) ≡ None → P (record (answered s SUCCESS 0) { next = record s { tables = put row (patched (base t) offset bytes) s.tables } }))
      → P (edit_effect s app m offset bytes)
  unfolding edit_effect
  by_edit app m offset bytes done = by_its_table s P refusal app m true _ (λ row t there. by_ladder s P refusal (edit_refusal s.tables row t offset (length bytes)) _ (edit_refused s.tables row t offset (length bytes)) (done row t there))
