-- Whatever the owner's four calls do to a table, its row has one of the same options.
use Rattle.std.proofs.Common.{◌≡◌, ℕ, List, [], length, true, Option, Some, None, refl, sym, ap, ◌∙◌}
use Rattle.std.specs.Prelude.{IfSome}
use Rattle.std.proofs.lemmas.Option.{same_Some}
use Rattle.tbl_kinds.specs.TableFiles.{TableFile}
use Rattle.tbl_model.specs.State.{State, Table, Tables}
use Rattle.tbl_model.specs.Tables.{table_at}
use Rattle.tbl_model.specs.Effects.{Effect}
use Rattle.tbl_model.specs.Given.{Given}
use Rattle.tbl_model.specs.Refusals.{by_answer, closed_refusal, image_refusal, file_refusal, update_refusal}
use Rattle.tbl_model.specs.Subjects.{if_file}
use Rattle.tbl_model.specs.AppLoads.{by_function, activate_effect, from_file, file_image, load_image_of, load_file_of}
use Rattle.tbl_model.specs.Activations.{updated_effect}
use Rattle.tbl_model.specs.Management.{manage_answer, all_done, managed_effect}
use Rattle.tbl_model.proofs.RefusalAnswers.{is_refusal, image_refused, closed_refused, file_refused, update_refused}
use Rattle.tbl_laws.proofs.Cases.{by_ladder, by_load_ladder, by_file_of}
use Rattle.tbl_laws.proofs.LoadCases.{by_verdict}
use Rattle.tbl_laws.proofs.Descents.{Descends, stays_descends, image_descends, file_descends, update_descends, managed_descends}

-- ---- each table that an effect leaves descends from the one before

abbrev pub Leaves : State → Effect → Type 0
Leaves s e = Descends s.tables e.next.tables

module _ (s : State) (row : ℕ) (t : Table) where
  refused : (e : Effect) → e.next ≡ s → e.events ≡ [] → e.calls ≡ [] → is_refusal e.status ≡ true → Leaves s e
  refused e is no_events no_calls refuses = rw is (stays_descends s.tables)

  pub update_leaves : Leaves s (by_answer s (update_refusal s.tables row t) (updated_effect s row t))
  update_leaves = by_ladder s (Leaves s) refused (update_refusal s.tables row t) (updated_effect s row t) (update_refused s.tables row t) (λ none. update_descends s.tables row s.seconds s.sub)

  -- with the verdict of a function, or without one
  judged_leaves : (image : List ℕ) (given : Given) (e : Effect) → Leaves s e → Leaves s (by_function s row image t.validator given e)
  judged_leaves image given e leaves = by_verdict s (Leaves s) refused row image t.validator given e (λ number verdict is one bad. stays_descends s.tables) (λ number verdict is one good. leaves) (λ none. leaves)

  pub load_image_leaves : (image : List ℕ) (given : Given) → Leaves s (load_image_of s image given row t)
  load_image_leaves image given = by_load_ladder s (Leaves s) refused (image_refusal s.tables row t (length image)) _ (image_refused s.tables row t (length image)) (λ none.
      judged_leaves image given (activate_effect s row t image) (image_descends s.tables row image s.seconds s.sub))

  pub load_file_leaves : (name : List ℕ) (given : Given) (file : TableFile) → Leaves s (load_file_of s name given row t file)
  load_file_leaves name given file = by_load_ladder s (Leaves s) refused (file_refusal s.tables row t file) _ (file_refused s.tables row t file) (λ none.
      judged_leaves (file_image t file) given (from_file row name (activate_effect s row t (file_image t file))) (file_descends s.tables row (file_image t file) s.seconds s.sub name))

  pub app_file_leaves : (name : List ℕ) (given : Given) → Leaves s (by_answer s (closed_refusal t) (if_file s name (load_file_of s name given row t)))
  app_file_leaves name given = by_ladder s (Leaves s) refused (closed_refusal t) _ (closed_refused t) (λ open_to. by_file_of s (Leaves s) refused name (load_file_of s name given row t) (load_file_leaves name given))

  pub manage_leaves : (given : Given) → Leaves s (managed_effect s (manage_answer s.tables row t) (all_done s given row))
  manage_leaves given = managed_descends row given s

  -- ---- so do its options

  module _ (there : table_at s.tables row ≡ Some t) where
    options_stay : (new : Tables) → Descends s.tables new → IfSome (table_at new row) (λ (u : Table). u.options ≡ t.options)
    options_stay new descends = here (table_at new row) refl where
      here : (found : Option Table) → table_at new row ≡ found → IfSome found (λ (u : Table). u.options ≡ t.options)
      here None at = tt
      here (Some u) at =
          let stands = descends.each row u at in
          ap (λ (p : List ℕ × ℕ × ℕ). p.2) stands.same ∙ ap (λ (v : Table). v.options) (same_Some stands.table t (sym stands.there ∙ there))

    pub update_options : IfSome (table_at (by_answer s (update_refusal s.tables row t) (updated_effect s row t)).next.tables row) (λ (u : Table). u.options ≡ t.options)
    update_options = options_stay _ update_leaves

    pub load_image_options : (image : List ℕ) (given : Given) → IfSome (table_at (load_image_of s image given row t).next.tables row) (λ (u : Table). u.options ≡ t.options)
    load_image_options image given = options_stay _ (load_image_leaves image given)

    pub app_file_options : (name : List ℕ) (given : Given) → IfSome (table_at (by_answer s (closed_refusal t) (if_file s name (load_file_of s name given row t))).next.tables row) (λ (u : Table). u.options ≡ t.options)
    app_file_options name given = options_stay _ (app_file_leaves name given)

    pub manage_options : (given : Given) → IfSome (table_at (managed_effect s (manage_answer s.tables row t) (all_done s given row)).next.tables row) (λ (u : Table). u.options ≡ t.options)
    manage_options given = options_stay _ (manage_leaves given)
