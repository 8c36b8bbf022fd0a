-- Each request is honest about marks and about images that go active.
use Rattle.std.proofs.Common.{◌≡◌, ℕ, List, [], ◌∷◌, length, Bool, true, false, Option, Some, None, is_some, refl, ap, sym, subst, inl, inr, arith, length-append, ℤ, pos}
use Rattle.std.specs.List.{fold}
use Rattle.std.specs.Option.{option_map_or}
use Rattle.std.proofs.lemmas.Bool.{cond_both}
use Rattle.std.proofs.lemmas.List.{get_or-set_same, get_or-set_other}
use Rattle.std.proofs.lemmas.Option.{same_Some}
use Rattle.tbl_kinds.specs.Drawer.{is_full_for}
use Rattle.tbl_kinds.specs.Numbers.{patched}
use Rattle.tbl_model.specs.State.{State, Load, Table, Tables, Dump, quiet, requested, filled, no_tables}
use Rattle.tbl_model.specs.Tables.{table_at, rows_where}
use Rattle.tbl_model.specs.TableSteps.{base, unchecked, last_image, put, set_time, set_file, patch, filled_with, end_dump, new_table, with_first, added}
use Rattle.tbl_model.specs.Effects.{Effect, answered}
use Rattle.tbl_model.specs.Telemetry.{verdict_bits}
use Rattle.tbl_model.specs.Given.{Given, verdict_at}
use Rattle.tbl_model.specs.Validations.{validated_effect}
use Rattle.tbl_model.specs.AppLoads.{activate_effect, with_verdict, file_image}
use Rattle.tbl_model.specs.Copies.{copy_failed}
use Rattle.tbl_model.specs.Dumps.{Ended, end_by, then_end, dumps_ended, housekeeping_effect, is_filled}
use Rattle.tbl_model.specs.Dispatch.{effect_of}
use Rattle.tbl_model.specs.declared.telemetry.TelemetryEvent.{TelemetryEvent}
use Rattle.tbl_model.specs.declared.telemetry.TelemetryEvent.TheVariants.{Judged, Activated, CopyFailed, Dumped, NotDumped}
use Rattle.tbl_model.proofs.RefusalLaws.{update_taken}
use Rattle.tbl_model.proofs.RefusalAnswers.{is_refusal}
use Rattle.tbl_kinds.specs.declared.status.TheConstants.Status.{ERR_VALIDATION_FAILED}
use Rattle.tbl_kinds.specs.declared.note.BankNote.{BankNote}
use Rattle.tbl_kinds.specs.declared.request.Actor.{Actor}
use Rattle.tbl_kinds.specs.declared.request.Actor.TheVariants.{Ground, App}
use Rattle.tbl_kinds.specs.declared.request.Request.{Request}
use Rattle.tbl_kinds.specs.declared.request.Request.TheVariants as ask
use Rattle.tbl_model.specs.Fit.{AreFit}
use Rattle.tbl_laws.proofs.Ordinary.{free_place}
use Rattle.tbl_laws.proofs.Pins.{nothing_there}
use Rattle.tbl_laws.proofs.Honest.{NoneActive, none_active_nil, none_active_one, none_active_more, slice_get_more, index_none, passes_more, is_activated, Inherits, inherits_same, then_inherits, inherits_none, IsHonest, honest_plain, inherits_changed, inherits_file, inherits_given_up, inherits_imaged, inherits_put, inherits_released, inherits_unseen, inherits_without}
use Rattle.tbl_laws.proofs.Cases.{OfEffect, CallsStore, Copies}
use Rattle.tbl_laws.proofs.AddressCases.{by_get, by_read, by_release}
use Rattle.tbl_laws.proofs.ApplicationCases.{by_register, by_start, by_share, by_unregister, by_info, by_notify, by_exit}
use Rattle.tbl_laws.proofs.LoadCases.{by_load_image, by_load_file, by_app_validate, by_update, by_manage, by_get_status, by_dump_to_buffer, by_edit}
use Rattle.tbl_laws.proofs.BlockCases.{by_delete, by_cds_register, by_cds_copy, by_cds_restore, by_cds_delete}
use Rattle.tbl_laws.proofs.CommandCases.{Commands, by_command, by_file}
use Rattle.tbl_laws.proofs.HonestImages.{judged_active, loaded_active, plain_active, validated_mark}
use Rattle.tbl_laws.proofs.HonestManage.{managed_end}

-- ---- housekeeping

-- the dumps that came to their end report only files
record OnlyFiles (s : State) (e : Ended) : Type 0 where
  none : NoneActive e.events
  inherits : Inherits s.tables e.state.tables

only_files : (s : State) (rows : List ℕ) (e : Ended) → OnlyFiles s e → OnlyFiles s (fold then_end e rows)
only_files s [] e only = only
only_files s (row ∷ rows) e only = only_files s rows (then_end e row) (one (table_at e.state.tables row)) where
  over : Inherits s.tables (end_dump row e.state.tables)
  over = then_inherits s.tables e.state.tables (end_dump row e.state.tables) only.inherits (inherits_unseen e.state.tables row (λ u. record u { dump = quiet }) (λ u. refl) (λ u. refl))

  of : (name : List ℕ) (d : Dump) → OnlyFiles s (end_by e row name d)
  of name quiet = only
  of name (requested file) = only
  of name (filled file image) = cond_both (is_full_for e.state.drawer file) _ _ (OnlyFiles s)
      (λ _. record { none = none_active_more e.events (NotDumped row) only.none refl; inherits = over })
      (λ _. record { none = none_active_more e.events _ only.none refl; inherits = over })

  one : (found : Option Table) → OnlyFiles s (option_map_or (λ (t : Table). end_by e row t.name t.dump) found e)
  one None = only
  one (Some t) = of t.name t.dump

-- ---- all requests

module _ (s : State) (n : ℕ) (fit : AreFit n s) where
  -- an effect without events, which makes no mark
  plain : (e : Effect) → e.events ≡ [] → Inherits s.tables e.next.tables → IsHonest s e
  plain e no_events inherits = honest_plain s e (none_active_nil e.events no_events) inherits

  same_tables : (e : Effect) → e.events ≡ [] → e.next.tables ≡ s.tables → IsHonest s e
  same_tables e no_events same = plain e no_events (inherits_same s.tables e.next.tables (ap (λ (t : Tables). t.rows) same))

  same_rows_of : (e : Effect) → e.events ≡ [] → e.next.tables.rows ≡ s.tables.rows → IsHonest s e
  same_rows_of e no_events same = plain e no_events (inherits_same s.tables e.next.tables same)

  -- without tables there is no mark
  anew : (e : Effect) → e.events ≡ [] → e.next.tables ≡ no_tables → IsHonest s e
  anew e no_events none = plain e no_events (λ row u l there load checked. absurd (nothing_there 128 row u (rw none at there)))

  refused : (e : Effect) → e.next ≡ s → e.events ≡ [] → e.calls ≡ [] → is_refusal e.status ≡ true → IsHonest s e
  refused e same no_events no_calls refuses = same_tables e no_events (ap (λ (x : State). x.tables) same)

  -- a request that calls the store and does nothing else
  calls_store : (note : BankNote) → CallsStore s note (IsHonest s)
  calls_store note = record {
    answers = λ store e is no_events no_trouble. same_tables e no_events (ap (λ (t : State). t.tables) is);
    fails = λ store e failed is no_events status. same_tables e no_events (ap (λ (t : State). t.tables) is);
    restarts = λ store e stopped is no_events status. anew e no_events (ap (λ (t : State). t.tables) is);
  }

  -- that a copy failed is reported after all else
  failed : (row slot : ℕ) (e : Effect) → IsHonest s e → IsHonest s (copy_failed row slot e)
  failed row slot e p = record {
    active = λ place k count name image t tells there function. elim (slice_get_more e.events (CopyFailed row slot) (Activated k count name) place tells.event_is) [
      | inl old ↦ elim (p.active place k count name image t (record { event_is = old; image_is = index_none e.images place image tells.image_is }) there function) [
        | inl passes ↦ inl (passes_more e.events (CopyFailed row slot ∷ []) e.images (None ∷ []) k image place place (omega arith) passes)
        | inr load ↦ inr load
      ]
      | inr end ↦ absurd (cc (ap is_activated end.1))
    ];
    marks = λ k u l at load checked function. elim (p.marks k u l at load checked function) [
      | inl passes ↦ inl (passes_more e.events (CopyFailed row slot ∷ []) e.images (None ∷ []) k l.image (length e.events) _ (omega (arith, length-append e.events (CopyFailed row slot ∷ []))) passes)
      | inr before ↦ inr before
    ];
  }

  -- and a stop leaves no table
  copies : (note : BankNote) → Copies note (IsHonest s)
  copies note = record {
    left = λ slot image e p. record { active = p.active; marks = p.marks };
    fails = λ row slot e fails p. failed row slot e p;
    stops = λ e stop p. record { active = p.active; marks = λ k u l at load checked function. absurd (nothing_there 128 k u at) };
  }

  commands : (note : BankNote) → Commands s note (IsHonest s)
  unfolding housekeeping_effect dumps_ended
  commands note = record {
    about = λ e table p. record { active = p.active; marks = p.marks };
    accepted = same_tables _ refl refl;
    housekeeping = let files = only_files s (rows_where is_filled 0 s.tables.rows) (record { state = s; bytes = []; events = [] }) (record { none = none_active_nil [] refl; inherits = inherits_same s.tables s.tables refl }) in honest_plain s _ files.none files.inherits;
    loaded = λ name file row t there none. plain _ refl (then_inherits s.tables (patch row file.offset file.image s.tables) (set_file row name (patch row file.offset file.image s.tables))
        (inherits_changed s.tables row (λ u. record u { load = unchecked (patched (base u) file.offset file.image) }) (λ u. refl) (λ u l is checked. absurd (cc (ap (λ (x : Load). x.checked) (same_Some _ l is), checked))))
        (inherits_file (patch row file.offset file.image s.tables) row name));
    pends = λ row t active there none function. same_tables _ refl refl;
    at_once = λ row t active there none no_function. without_function row t active there no_function;
    asks = λ row t there none. plain _ refl (inherits_unseen s.tables row (λ u. record u { activation = true }) (λ u. refl) (λ u. refl));
    aborted = λ row t there open_load. plain _ refl (inherits_changed s.tables row (λ u. record u { load = None; activation = false }) (λ u. refl) (λ u l is checked. absurd (cc is)));
    shown = λ row. same_tables _ refl refl;
    deletes = λ name slot block none. by_delete s (IsHonest s) refused note (calls_store note) slot;
    written = λ row file bytes free. rw free (honest_plain s _ (none_active_one (Dumped row file (length bytes)) refl) (inherits_same s.tables s.tables refl));
    dump_requested = λ file row t there only none. rw none (plain _ refl (inherits_unseen s.tables row (λ u. record u { dump = requested file }) (λ u. refl) (λ u. refl)));
  } where
    without_function : (row : ℕ) (t : Table) (active : Bool) → table_at s.tables row ≡ Some t → is_some t.validator ≡ false → IsHonest s (validated_effect s active row t)
    without_function row t active there no_function = validated_mark s row t active (pos 0) (validated_effect s active row t) there refl refl refl

  loaded_image : (row : ℕ) (t : Table) (image : List ℕ) → table_at s.tables row ≡ Some t → t.validator ≡ None → IsHonest s (activate_effect s row t image)
  loaded_image row t image there no_function = plain_active s row t image (activate_effect s row t image) there no_function refl refl (inherits_imaged s.tables row image s.seconds s.sub)

  inherits_from : (row : ℕ) (image name : List ℕ) → Inherits s.tables (set_file row name (set_time row s.seconds s.sub (put row image s.tables)))
  inherits_from row image name = then_inherits s.tables (set_time row s.seconds s.sub (put row image s.tables)) (set_file row name (set_time row s.seconds s.sub (put row image s.tables))) (inherits_imaged s.tables row image s.seconds s.sub) (inherits_file (set_time row s.seconds s.sub (put row image s.tables)) row name)

  judged_badly : (row : ℕ) (image : List ℕ) (number : ℕ) (verdict : ℤ) (e : Effect) → e.events ≡ [] → e.next.tables ≡ s.tables → IsHonest s (with_verdict row image number verdict e)
  judged_badly row image number verdict e no_events same = honest_plain s _ (subst (λ (ds : List TelemetryEvent). NoneActive (Judged row verdict ∷ ds)) (sym no_events) (none_active_one (Judged row verdict) refl)) (inherits_same s.tables e.next.tables (ap (λ (t : Tables). t.rows) same))

  pub honest : (actor : Actor) (request : Request) (given : Given) → OfEffect (IsHonest s) (effect_of s actor request given)
  honest Ground (ask.Command bytes) given = by_command s given.note (IsHonest s) refused (commands given.note) bytes.list
  honest Ground (ask.File file) given = by_file s (IsHonest s) refused file.name file.bytes (same_tables _ refl refl)
  honest Ground (ask.Time seconds sub) given = same_tables _ refl refl
  honest Ground (ask.Reset kind) given = anew _ refl refl
  honest Ground _ given = tt
  honest (App app) (ask.Start name) given = by_start s (IsHonest s) refused app name (same_tables _ refl refl)
  honest (App app) (ask.Register short size flags validator) given = by_register s (IsHonest s) refused app short size flags validator given.note (calls_store given.note) (λ name row handle options first status calls store plan free_row free_handle begins quiet.
      let u : Table = with_first first (new_table name app size options validator handle) in
      plain _ refl (inherits_none s.tables (added row u s.tables) row (Some u) (record { here = get_or-set_same s.tables.rows row (Some u) None (free_place s.tables.rows row free_row).0; others = λ k other. get_or-set_other s.tables.rows row k (Some u) None other }) (λ v is. ap (λ (x : Table). x.load) (sym (same_Some u v is)))))
  honest (App app) (ask.Share name) given = by_share s (IsHonest s) refused app name (λ row handle free. same_rows_of _ refl refl)
  honest (App app) (ask.Unregister m) given = by_unregister s (IsHonest s) refused app m (λ h place own. plain _ refl (inherits_given_up m s))
  honest (App app) (ask.LoadImage handle image) given = by_load_image s (IsHonest s) refused given (λ row t bytes number verdict there is one bad. judged_badly row bytes number verdict (answered s ERR_VALIDATION_FAILED (verdict_bits verdict)) refl refl) (copies given.note) app handle image.list
      (λ row t there none no_function. loaded_image row t image.list there no_function) (λ row t number verdict there none is one good. judged_active s row t image.list verdict _ good refl refl (inherits_imaged s.tables row image.list s.seconds s.sub))
  honest (App app) (ask.LoadFile handle name) given = by_load_file s (IsHonest s) refused given (λ row t bytes number verdict there is one bad. judged_badly row bytes number verdict (answered s ERR_VALIDATION_FAILED (verdict_bits verdict)) refl refl) (copies given.note) app handle name
      (λ row t file there open_to none no_function. plain_active s row t (file_image t file) _ there no_function refl refl (inherits_from row (file_image t file) name))
      (λ row t file number verdict there open_to none is one good. judged_active s row t (file_image t file) verdict _ good refl refl (inherits_from row (file_image t file) name))
  honest (App app) (ask.Update handle) given = by_update s (IsHonest s) refused app handle given.note (copies given.note) (λ row t there none. loaded_active s n fit row t there (update_taken s.tables row t none).0)
  honest (App app) (ask.Validate handle) given = by_app_validate s (IsHonest s) refused app handle given (λ row t active there first. validated_mark s row t active (verdict_at 0 given) _ there refl refl refl)
  honest (App app) (ask.Manage handle) given = by_manage s (IsHonest s) refused app handle given (copies given.note) (λ row t there. let end = managed_end n row given s fit in record { active = end.active; marks = λ k u l at load checked function. end.marks k u l at load checked })
  honest (App app) (ask.DumpToBuffer handle) given = by_dump_to_buffer s (IsHonest s) refused app handle (λ row t there is. plain _ refl (inherits_unseen s.tables row (λ u. record u { dump = filled_with (last_image u) u.dump }) (λ u. refl) (λ u. refl)))
  honest (App app) (ask.Edit handle offset bytes) given = by_edit s (IsHonest s) refused app handle offset bytes.list (λ row t there none. plain _ refl (inherits_put s.tables row (patched (base t) offset bytes.list)))
  honest (App app) (ask.Get handle) given = by_get s (IsHonest s) refused app handle (λ a leads some. same_rows_of _ refl refl)
  honest (App app) (ask.Read handle offset len) given = by_read s (IsHonest s) refused app handle offset len (λ a leads pinned inside. same_tables _ refl refl)
  honest (App app) (ask.Release handle) given = by_release s (IsHonest s) refused app handle (λ a leads pinned. rw pinned (plain _ refl (inherits_released s.tables handle a.handle a.row a.table leads.there)))
  honest (App app) (ask.GetStatus handle) given = by_get_status s (IsHonest s) refused app handle (λ row t. same_tables _ refl refl)
  honest (App app) (ask.GetInfo name) given = by_info s (IsHonest s) refused app name (λ t. same_tables _ refl refl)
  honest (App app) (ask.Notify handle msg code parameter) given = by_notify s (IsHonest s) refused app handle msg code parameter (λ row t there is. plain _ refl (inherits_unseen s.tables row (λ u. record u { notice = Some (record { msg = msg; code = code; parameter = parameter }) }) (λ u. refl) (λ u. refl)))
  honest (App app) ask.Exit given = by_exit s (IsHonest s) refused app (plain _ refl (inherits_without app s))
  honest (App app) (ask.CdsRegister name size) given = by_cds_register s (IsHonest s) refused given.note (calls_store given.note) app name size
  honest (App app) (ask.CdsCopy slot image) given = by_cds_copy s (IsHonest s) refused given.note (calls_store given.note) app slot image.list
  honest (App app) (ask.CdsRestore slot) given = by_cds_restore s (IsHonest s) refused given.note (calls_store given.note) app slot
  honest (App app) (ask.CdsDelete slot) given = by_cds_delete s (IsHonest s) refused given.note (calls_store given.note) app slot
  honest (App app) _ given = tt
