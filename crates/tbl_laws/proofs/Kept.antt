-- Each verdict that an entry reports of a table with a function is one that the function was asked for, about the very image; and an answer
-- that reports the bank's trouble has its cause in the note.
use Rattle.std.proofs.Common.{◌≡◌, ◌+◌, ℕ, nat_lt, zero, suc, List, [], ◌∷◌, ◌++◌, length, Bool, true, false, not, eqb, Option, Some, None, is_some, ℤ, pos, refl, sym, ap, subst, ◌∙◌, inl, inr, length-append, arith}
use Rattle.std.specs.Prelude.{slice_get, slice_index_or}
use Rattle.std.specs.Option.{option_map, option_map_or}
use Rattle.std.specs.List.{fold}
use Rattle.tbl_kinds.specs.Drawer.{is_full_for}
use Rattle.std.proofs.lemmas.Option.{same_Some}
use Rattle.std.proofs.lemmas.Bool.{cases_eq, eqb-true, cond_both, or_parts, not-true}
use Rattle.std.proofs.lemmas.List.{append-nil}
use Rattle.tbl_model.specs.State.{State, Table, Tables, Load, Dump, quiet, requested, filled}
use Rattle.tbl_model.specs.Tables.{table_at, rows_where}
use Rattle.tbl_model.specs.TableSteps.{set_checked, load_image}
use Rattle.tbl_model.specs.Pending.{is_pending}
use Rattle.tbl_model.specs.Telemetry.{Question, is_good, verdict_bits, activated, finished}
use Rattle.tbl_model.specs.Given.{Given, verdict_at}
use Rattle.tbl_model.specs.Effects.{Effect, answered}
use Rattle.tbl_model.specs.Dispatch.{effect_of}
use Rattle.tbl_model.specs.Refusals.{update_refusal}
use Rattle.tbl_model.specs.Validations.{judged_image, questions, marked, validated_effect}
use Rattle.tbl_model.specs.AppLoads.{activate_effect, with_verdict, from_file, file_image}
use Rattle.tbl_model.specs.Management.{Done, nothing_done, is_requested, with_validation, then_validate, with_update, then_update, with_fill, then_fill, all_done}
use Rattle.tbl_model.specs.Dumps.{Ended, end_by, then_end, is_filled, dumps_ended, housekeeping_effect}
use Rattle.tbl_model.specs.Vouched.{verdict_for}
use Rattle.tbl_model.specs.BankCounts.{tells_trouble, HasCause}
use Rattle.tbl_model.specs.Whole.{is_done}
use Rattle.tbl_model.specs.declared.telemetry.TelemetryEvent.{TelemetryEvent}
use Rattle.tbl_model.specs.declared.telemetry.TelemetryEvent.TheVariants.{Judged, CopyFailed, Dumped, NotDumped}
use Rattle.tbl_kinds.specs.declared.status.TheConstants.Status.{ERR_VALIDATION_FAILED}
use Rattle.tbl_kinds.specs.declared.request.Actor.{Actor}
use Rattle.tbl_kinds.specs.declared.request.Actor.TheVariants.{Ground, App}
use Rattle.tbl_kinds.specs.declared.request.Request.{Request}
use Rattle.tbl_kinds.specs.declared.request.Request.TheVariants as ask
use Rattle.tbl_model.proofs.RefusalAnswers.{is_refusal}
use Rattle.tbl_laws.proofs.Changes.{with_found, either}
use Rattle.tbl_laws.proofs.Rows.{OneRow, changed_row}
use Rattle.tbl_laws.proofs.Honest.{slice_get_more, get_before, index_none, last_tells}
use Rattle.tbl_laws.proofs.Cases.{OfEffect, CallsStore, Copies, part}
use Rattle.tbl_laws.proofs.CauseLemmas.{harmless, reset_caused, updated, judged, managed, pends, stop_caused, fault_caused}
use Rattle.tbl_laws.proofs.AddressCases.{by_get, by_read, by_release}
use Rattle.tbl_laws.proofs.ApplicationCases.{by_register, by_start, by_share, by_unregister, by_info, by_notify, by_exit}
use Rattle.tbl_laws.proofs.LoadCases.{by_load_image, by_load_file, by_app_validate, by_update, by_manage, by_dump_to_buffer, by_edit, by_get_status}
use Rattle.tbl_laws.proofs.BlockCases.{by_delete, by_cds_register, by_cds_copy, by_cds_restore, by_cds_delete}
use Rattle.tbl_laws.proofs.CommandCases.{Commands, by_command, by_file}
use Rattle.tbl_laws.proofs.KeptEvents.{AreAsked, IsKept, IsSilent, WasAsked, active_silent, finished_told, judged_told, none_told, nothing_silent, one_told, told_of}

-- its verdicts were asked for, and if it reports the bank's trouble, that has its cause in the note
pub record Tells (s : State) (given : Given) (e : Effect) : Type 0 where
  pub caused : HasCause e.status given.note
  pub kept : IsKept s given e

-- ---- Manage

-- a table keeps its function
abbrev Keeps : Tables → Tables → Type 0
Keeps old new = (row : ℕ) (t u : Table) → table_at old row ≡ Some t → table_at new row ≡ Some u → u.validator ≡ t.validator

record SoFar (s : State) (given : Given) (d : Done) : Type 0 where
  asked : AreAsked s given d.events d.images d.questions
  long : length d.events ≡ length d.images
  keeps : Keeps s.tables d.state.tables

keeps_then : (first mid new : Tables) (row : ℕ) (x y : Table) → Keeps first mid → table_at mid row ≡ Some x → OneRow mid new row (Some y) → y.validator ≡ x.validator → Keeps first new
keeps_then first mid new row x y keeps at one same k t u there now = elim (cases_eq k row) [
  | inl here ↦
      let is : y ≡ u = same_Some y u (sym one.here ∙ ap (λ (j : ℕ). table_at new j) (sym here) ∙ now) in
      ap (λ (z : Table). z.validator) (sym is) ∙ same ∙ keeps k t x there (ap (λ (j : ℕ). table_at mid j) here ∙ at)
  | inr other ↦ keeps k t u there (sym (one.others k other) ∙ now)
]

keeps_marked : (first mid : Tables) (row : ℕ) (active : Bool) (verdict : ℤ) (x : Table) → Keeps first mid → table_at mid row ≡ Some x → Keeps first (marked row active verdict mid)
keeps_marked first mid row true verdict x keeps at = keeps
keeps_marked first mid row false verdict x keeps at =
    let change : Table → Table = λ v. record v { load = option_map (λ (l : Load). record l { checked = is_good verdict }) v.load } in
    keeps_then first mid (set_checked row (is_good verdict) mid) row x (change x) keeps at (changed_row mid row change x at) refl

-- the image of an event that was there before one more
index_old : {X Y : Type 0} (xs : List X) (ys : List (Option Y)) (x : X) (y z : Y) (place : ℕ) → length xs ≡ length ys → slice_get xs place ≡ Some x → slice_index_or (ys ++ Some y ∷ []) place None ≡ Some z → slice_index_or ys place None ≡ Some z
index_old [] ys x y z zero same got is = absurd (cc got)
index_old [] ys x y z (suc place) same got is = absurd (cc got)
index_old (a ∷ xs) [] x y z place same got is = absurd (omega (arith, same))
index_old (a ∷ xs) (b ∷ ys) x y z zero same got is = is
index_old (a ∷ xs) (b ∷ ys) x y z (suc place) same got is = index_old xs ys x y z place (omega (arith, same)) got is

get_last : {X : Type 0} (xs : List X) (x : X) → slice_get (xs ++ x ∷ []) (length xs) ≡ Some x
get_last [] x = refl
get_last (z ∷ zs) x = get_last zs x

module _ (s : State) (given : Given) where
  -- one event more
  asked_more : (events : List TelemetryEvent) (images : List (Option (List ℕ))) (questions more : List Question) (new : TelemetryEvent) (about : List ℕ) → length events ≡ length images → AreAsked s given events images questions
      → ((row number : ℕ) (v : ℤ) (t : Table) → verdict_for row new ≡ Some v → table_at s.tables row ≡ Some t → t.validator ≡ Some number → WasAsked (questions ++ more) given number about v)
      → AreAsked s given (events ++ new ∷ []) (images ++ Some about ∷ []) (questions ++ more)
  asked_more events images questions more new about long before last place row number event image v t tells is there function = elim (slice_get_more events new event place tells.event_is) [
    | inl old ↦
        let was = before place row number event image v t (record { event_is = old; image_is = index_old events images event about image place long old tells.image_is }) is there function in
        record { place = was.place; question = get_before questions more was.place _ was.question; answer = was.answer }
    | inr end ↦
        let ends = last_tells events images new about long in
        let same : about ≡ image = same_Some about image (sym ends.image_is ∙ ap (λ (j : ℕ). slice_index_or (images ++ Some about ∷ []) j None) (sym end.0) ∙ tells.image_is) in
        subst (λ (x : List ℕ). WasAsked (questions ++ more) given number x v) same (last row number v t (ap (verdict_for row) end.1 ∙ is) there function)
  ]

  module _ (n row : ℕ) where
    validates : (active : Bool) (d : Done) → SoFar s given d → SoFar s given (then_validate row active given d)
    validates active d so_far = with_found n row given (SoFar s given) d _ (table_at d.state.tables row) refl so_far (λ u at.
        either n row given (SoFar s given) (not (is_pending row active d.state.pending)) d (with_validation row active (verdict_at (length d.questions) given) d u) so_far (λ _.
        let verdict = verdict_at (length d.questions) given in
        let image = judged_image u active in
        let new = finished row active u image verdict in record {
          asked = asked_more d.events d.images d.questions (questions u image) new image so_far.long so_far.asked (λ k number v t is there function.
              let told = told_of (eqb row k) verdict v is in
              let here : row ≡ k = eqb-true row k told.0 in
              let has : u.validator ≡ Some number = so_far.keeps k t u there (ap (λ (j : ℕ). table_at d.state.tables j) (sym here) ∙ at) ∙ function in
              record { place = length d.questions; question = rw has (get_last d.questions (record { number = number; image = image })); answer = sym told.1 });
          long = omega (arith, so_far.long, length-append d.events (new ∷ []), length-append d.images (Some image ∷ []));
          keeps = keeps_marked s.tables d.state.tables row active verdict u so_far.keeps at;
        }))

    abbrev Told : Done → Type 0
    Told d = AreAsked s given d.events d.images d.questions

    updates : (d : Done) → SoFar s given d → Told (then_update row d)
    updates d so_far = with_found n row given Told d _ (table_at d.state.tables row) refl so_far.asked (λ u at.
        either n row given Told (is_some (update_refusal d.state.tables row u)) d (with_update row d u) so_far.asked (λ _.
        subst (AreAsked s given (d.events ++ activated row u ∷ []) (d.images ++ Some (load_image u) ∷ [])) (append-nil d.questions)
        (asked_more d.events d.images d.questions [] (activated row u) (load_image u) so_far.long so_far.asked (λ k number v t is there function. absurd (cc is)))))

    fills : (d : Done) → Told d → Told (then_fill row d)
    fills d told = with_found n row given Told d _ (table_at d.state.tables row) refl told (λ u at. either n row given Told (not (is_requested u.dump)) d (with_fill row d) told (λ _. told))

    manages : Told (all_done s given row)
    manages =
        let one = then_validate row true given (nothing_done s) in
        let two = then_validate row false given one in
        fills (then_update row two) (updates two (validates false one (validates true (nothing_done s) (record {
          asked = none_told s given [] [] [] refl;
          long = refl;
          keeps = λ k t u there now. ap (λ (x : Table). x.validator) (same_Some u t (sym now ∙ there));
        }))))

  -- ---- all requests

  nothing_told : AreAsked s given [] [] []
  nothing_told = none_told s given [] [] [] refl

  -- with no event there is no verdict
  plain : (e : Effect) → e.events ≡ [] → tells_trouble e.status ≡ false → Tells s given e
  plain e no_events no_trouble = record { caused = harmless e.status given.note no_trouble; kept = none_told s given e.events e.images e.questions no_events }

  -- with these verdicts, and with no trouble
  told_so : (e : Effect) → tells_trouble e.status ≡ false → IsKept s given e → Tells s given e
  told_so e no_trouble kept = record { caused = harmless e.status given.note no_trouble; kept = kept }

  refused : (e : Effect) → e.next ≡ s → e.events ≡ [] → e.calls ≡ [] → is_refusal e.status ≡ true → Tells s given e
  refused e same no_events no_calls refuses = plain e no_events (or_parts (is_done e.status) (tells_trouble e.status) (not-true _ refuses)).1

  no_questions : (t : Table) (image : List ℕ) → is_some t.validator ≡ false → questions t image ≡ []
  no_questions t image none = by t.validator none where
    by : (function : Option ℕ) → is_some function ≡ false → questions (record t { validator = function }) image ≡ []
    by None is = refl
    by (Some number) is = absurd (cc is)

  -- events of files alone
  abbrev AreSilent : List TelemetryEvent → Type 0
  AreSilent events = (place : ℕ) (d : TelemetryEvent) → slice_get events place ≡ Some d → IsSilent d

  silent_more : (events : List TelemetryEvent) (new : TelemetryEvent) → AreSilent events → IsSilent new → AreSilent (events ++ new ∷ [])
  silent_more events new before last place d is = elim (slice_get_more events new d place is) [
    | inl there ↦ before place d there
    | inr end ↦ subst IsSilent end.1 last
  ]

  ends_silent : (rows : List ℕ) (e : Ended) → AreSilent e.events → AreSilent (fold then_end e rows).events
  ends_silent [] e silent = silent
  ends_silent (row ∷ rows) e silent = ends_silent rows (then_end e row) (one (table_at e.state.tables row)) where
    of : (name : List ℕ) (d : Dump) → AreSilent (end_by e row name d).events
    of name quiet = silent
    of name (requested file) = silent
    of name (filled file image) = cond_both (is_full_for e.state.drawer file) _ _ (λ (after : Ended). AreSilent after.events)
        (λ _. silent_more e.events (NotDumped row) silent (λ r. refl))
        (λ _. silent_more e.events _ silent (λ r. refl))

    one : (found : Option Table) → AreSilent (option_map_or (λ (t : Table). end_by e row t.name t.dump) found e).events
    one None = silent
    one (Some t) = of t.name t.dump

  at_once : (row : ℕ) (t : Table) (active : Bool) → table_at s.tables row ≡ Some t → is_some t.validator ≡ false → IsKept s given (validated_effect s active row t)
  at_once row t active there none =
      subst (AreAsked s given (finished row active t (judged_image t active) (pos 0) ∷ []) (Some (judged_image t active) ∷ [])) (no_questions t (judged_image t active) none)
      (finished_told s given row t active (judged_image t active) (pos 0) there (λ some. absurd (cc (some, none))))

  calls_store : CallsStore s given.note (Tells s given)
  calls_store = record {
    answers = λ store e is no_events no_trouble. plain e no_events no_trouble;
    fails = λ store e failed is no_events status. record { caused = rw status (fault_caused given.note failed); kept = none_told s given e.events e.images e.questions no_events };
    restarts = λ store e stopped is no_events status. record { caused = rw status (stop_caused given.note stopped); kept = none_told s given e.events e.images e.questions no_events };
  }

  -- that a copy failed is no verdict, and leaves the answer
  copies : Copies given.note (Tells s given)
  copies = record {
    left = λ slot image e p. record { caused = p.caused; kept = p.kept };
    fails = λ row slot e failed p. record {
      caused = p.caused;
      kept = λ place k number event image v t tells is there function. elim (slice_get_more e.events (CopyFailed row slot) event place tells.event_is) [
        | inl old ↦ p.kept place k number event image v t (record { event_is = old; image_is = index_none e.images place image tells.image_is }) is there function
        | inr end ↦ absurd (cc (ap (verdict_for k) end.1, is))
      ];
    };
    stops = λ e stop p. record { caused = stop_caused given.note stop; kept = p.kept };
  }

  commands : Commands s given.note (Tells s given)
  unfolding housekeeping_effect dumps_ended
  commands = record {
    about = λ e table p. record { caused = p.caused; kept = p.kept };
    accepted = plain _ refl refl;
    housekeeping = told_so _ refl (λ place row number event image v t tells is there function. absurd (cc (ends_silent (rows_where is_filled 0 s.tables.rows) (record { state = s; bytes = []; events = [] }) nothing_silent place event tells.event_is row, is)));
    loaded = λ name file row t there none. plain _ refl refl;
    pends = λ row t active there none function. plain _ refl refl;
    at_once = λ row t active there none no_function. told_so _ refl (at_once row t active there no_function);
    asks = λ row t there none. plain _ refl refl;
    aborted = λ row t there open_load. plain _ refl refl;
    shown = λ row. plain _ refl refl;
    deletes = λ name slot block none. by_delete s (Tells s given) refused given.note calls_store slot;
    written = λ row file bytes free. rw free (told_so _ refl (one_told s given (Dumped row file (length bytes)) (None ∷ []) [] (λ r. refl)));
    dump_requested = λ file row t there only none. rw none (plain _ refl refl);
  }

  judged_well : (row : ℕ) (t : Table) (image : List ℕ) (number : ℕ) (verdict : ℤ) (e : Effect) → table_at s.tables row ≡ Some t → t.validator ≡ Some number → verdict ≡ verdict_at 0 given → e.events ≡ activated row t ∷ [] → IsKept s given (with_verdict row image number verdict e)
  judged_well row t image number verdict e there is one events =
      subst (λ (ds : List TelemetryEvent). AreAsked s given (Judged row verdict ∷ ds) (Some image ∷ e.images) (record { number = number; image = image } ∷ [])) (sym events)
      (judged_told s given row t number image verdict (activated row t ∷ []) e.images there is one (active_silent row (t.count + 1) t.name))

  judged_badly : (row : ℕ) (t : Table) (image : List ℕ) (number : ℕ) (verdict : ℤ) (e : Effect) → table_at s.tables row ≡ Some t → t.validator ≡ Some number → verdict ≡ verdict_at 0 given → e.events ≡ [] → IsKept s given (with_verdict row image number verdict e)
  judged_badly row t image number verdict e there is one events =
      subst (λ (ds : List TelemetryEvent). AreAsked s given (Judged row verdict ∷ ds) (Some image ∷ e.images) (record { number = number; image = image } ∷ [])) (sym events)
      (judged_told s given row t number image verdict [] e.images there is one nothing_silent)

  pub told : (actor : Actor) (request : Request) → OfEffect (Tells s given) (effect_of s actor request given)
  told Ground (ask.Command bytes) = by_command s given.note (Tells s given) refused commands bytes.list
  told Ground (ask.File file) = by_file s (Tells s given) refused file.name file.bytes (plain _ refl refl)
  told Ground (ask.Time seconds sub) = plain _ refl refl
  told Ground (ask.Reset kind) = record { caused = reset_caused given.note; kept = nothing_told }
  told Ground _ = tt
  told (App app) (ask.Start name) = by_start s (Tells s given) refused app name (plain _ refl refl)
  told (App app) (ask.Register short size flags validator) = by_register s (Tells s given) refused app short size flags validator given.note calls_store (λ name row handle options first status calls store plan free_row free_handle begins quiet. plain _ refl quiet)
  told (App app) (ask.Share name) = by_share s (Tells s given) refused app name (λ row handle free. plain _ refl refl)
  told (App app) (ask.Unregister handle) = by_unregister s (Tells s given) refused app handle (λ h place own. plain _ refl refl)
  told (App app) (ask.LoadImage handle image) = by_load_image s (Tells s given) refused given (λ row t bytes number verdict there is one bad. told_so _ refl (judged_badly row t bytes number verdict (answered s ERR_VALIDATION_FAILED (verdict_bits verdict)) there is one refl)) copies app handle image.list
      (λ row t there none no_function. told_so _ refl (one_told s given (activated row t) (Some image.list ∷ []) [] (λ r. refl))) (λ row t number verdict there none is one good. told_so _ refl (judged_well row t image.list number verdict (activate_effect s row t image.list) there is one refl))
  told (App app) (ask.LoadFile handle name) = by_load_file s (Tells s given) refused given (λ row t bytes number verdict there is one bad. told_so _ refl (judged_badly row t bytes number verdict (answered s ERR_VALIDATION_FAILED (verdict_bits verdict)) there is one refl)) copies app handle name
      (λ row t file there open_to none no_function. told_so _ refl (one_told s given (activated row t) (Some (file_image t file) ∷ []) [] (λ r. refl))) (λ row t file number verdict there open_to none is one good. told_so _ refl (judged_well row t (file_image t file) number verdict (from_file row name (activate_effect s row t (file_image t file))) there is one refl))
  told (App app) (ask.Update handle) = by_update s (Tells s given) refused app handle given.note copies (λ row t there none. told_so _ refl (one_told s given (activated row t) (Some (load_image t) ∷ []) [] (λ r. refl)))
  told (App app) (ask.Validate handle) = by_app_validate s (Tells s given) refused app handle given (λ row t active there first. told_so _ (judged (is_good (verdict_at 0 given))) (finished_told s given row t active (judged_image t active) (verdict_at 0 given) there (λ some. refl)))
  told (App app) (ask.Manage handle) = by_manage s (Tells s given) refused app handle given copies (λ row t there. told_so _ (managed s.tables row t) (manages 0 row))
  told (App app) (ask.DumpToBuffer handle) = by_dump_to_buffer s (Tells s given) refused app handle (λ row t there is. plain _ refl refl)
  told (App app) (ask.Edit handle offset bytes) = by_edit s (Tells s given) refused app handle offset bytes.list (λ row t there none. plain _ refl refl)
  told (App app) (ask.Get handle) = by_get s (Tells s given) refused app handle (λ a leads some. plain _ refl (updated (nat_lt a.handle.told a.table.count)))
  told (App app) (ask.Read handle offset len) = by_read s (Tells s given) refused app handle offset len (λ a leads pinned inside. plain _ refl refl)
  told (App app) (ask.Release handle) = by_release s (Tells s given) refused app handle (λ a leads pinned. rw pinned (plain _ refl (updated (nat_lt a.handle.told a.table.count))))
  told (App app) (ask.GetStatus handle) = by_get_status s (Tells s given) refused app handle (λ row t. plain _ refl (pends s.pending row t))
  told (App app) (ask.GetInfo name) = by_info s (Tells s given) refused app name (λ t. plain _ refl refl)
  told (App app) (ask.Notify handle msg code parameter) = by_notify s (Tells s given) refused app handle msg code parameter (λ row t there is. plain _ refl refl)
  told (App app) ask.Exit = by_exit s (Tells s given) refused app (plain _ refl refl)
  told (App app) (ask.CdsRegister name size) = by_cds_register s (Tells s given) refused given.note calls_store app name size
  told (App app) (ask.CdsCopy slot image) = by_cds_copy s (Tells s given) refused given.note calls_store app slot image.list
  told (App app) (ask.CdsRestore slot) = by_cds_restore s (Tells s given) refused given.note calls_store app slot
  told (App app) (ask.CdsDelete slot) = by_cds_delete s (Tells s given) refused given.note calls_store app slot
  told (App app) _ = tt

  pub kept : (actor : Actor) (request : Request) → OfEffect (IsKept s given) (effect_of s actor request given)
  kept actor request = part (λ e tells. tells.kept) (effect_of s actor request given) (told actor request)
