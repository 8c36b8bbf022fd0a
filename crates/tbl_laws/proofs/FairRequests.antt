-- Each request is fair to pins.
use Rattle.tbl_kinds.specs.Numbers.{patched}
use Rattle.std.proofs.Common.{◌≡◌, ◌≢◌, ℕ, zero, suc, eqb, nat_lt, List, [], ◌∷◌, length, Bool, true, false, ◌&&◌, Option, Some, None, refl, ap, sym, ◌∙◌, subst, inl, inr, arith, ℤ, pos}
use Rattle.std.specs.Prelude.{take, IfSome}
use Rattle.std.specs.List.{fold, range_with_len}
use Rattle.std.specs.Option.{ForSome, option_map}
use Rattle.std.proofs.lemmas.Bool.{eq-eqb, eqb-true, ne_eqb}
use Rattle.tbl_kinds.specs.Buffers.{Buffer}
use Rattle.tbl_kinds.specs.Blocks.{Stored}
use Rattle.tbl_kinds.specs.StoreSteps.{stored_at, MayGive}
use Rattle.tbl_kinds.specs.StoreCalls.{StoreCall, restore}
use Rattle.tbl_kinds.specs.TableFiles.{TableFile}
use Rattle.tbl_model.specs.State.{State, Table, Handle, requested}
use Rattle.tbl_model.specs.Tables.{table_at, rows_where}
use Rattle.tbl_model.specs.TableSteps.{handle_at, last_image, put, set_time, set_file, filled_with, base, new_table, new_handle}
use Rattle.tbl_model.specs.Effects.{Effect, answered}
use Rattle.tbl_model.specs.Given.{Given, verdict_at}
use Rattle.tbl_model.specs.Telemetry.{is_good}
use Rattle.tbl_model.specs.Refusals.{image_refusal, file_refusal}
use Rattle.tbl_model.specs.Validations.{marked}
use Rattle.tbl_model.specs.AppLoads.{file_image}
use Rattle.tbl_model.specs.Dumps.{dumps_ended, housekeeping_effect, is_filled}
use Rattle.tbl_model.specs.Sharing.{give_up, give_up_if, without_handles_of, ended_app}
use Rattle.tbl_model.specs.AppBlocks.{has_size}
use Rattle.tbl_model.specs.Registration.{register_effect}
use Rattle.tbl_model.specs.StoreNotes.{MayGoOn, Tells, IsNoteOf}
use Rattle.tbl_model.specs.Dispatch.{effect_of}
use Rattle.tbl_model.specs.Counts.{is_reset}
use Rattle.tbl_model.specs.Whole.{asks_address, asks_end, asks_removal, is_exit}
use Rattle.tbl_kinds.specs.declared.note.BankNote.{BankNote}
use Rattle.tbl_kinds.specs.declared.request.Actor.{Actor}
use Rattle.tbl_kinds.specs.declared.request.Actor.TheVariants.{Ground, App}
use Rattle.tbl_kinds.specs.declared.request.Request.{Request}
use Rattle.tbl_kinds.specs.declared.request.Request.TheVariants as ask
use Rattle.tbl_kinds.specs.declared.status.TheConstants.Status.{SUCCESS, INFO_STOPPED}
use Rattle.tbl_model.proofs.RefusalLaws.{image_taken, file_taken, load_taken, update_taken, edit_taken}
use Rattle.tbl_model.proofs.RefusalAnswers.{is_refusal}
use Rattle.tbl_model.specs.Fit.{AreFit}
use Rattle.tbl_laws.proofs.Rows.{within}
use Rattle.tbl_laws.proofs.Fits.{was}
use Rattle.tbl_laws.proofs.GivingUp.{fewer_handles, given_up, left, no_handle, owned_by_others}
use Rattle.tbl_laws.proofs.Ordinary.{free_place}
use Rattle.tbl_laws.proofs.Pins.{AreLoaded, Keeps, stays_keeps, unpinned_set, release_keeps, add_keeps, put_keeps, unseen_keeps, then_keeps, stays_goes_on}
use Rattle.tbl_laws.proofs.PinsLoaded.{file_keeps, close_keeps, mark_keeps, patched_sized}
use Rattle.tbl_laws.proofs.PinsKept.{update_keeps, give_up_keeps, leave_keeps, put_alone_keeps}
use Rattle.tbl_laws.proofs.Fair.{IsPlain, Fair, fair_keeps, fair_plain, fair_refused, fair_anew, no_stop, pin_fair, back_fair, granted, ends_keep, judged_goes_on, manage_goes_on, manage_keeps, open_checked, status_goes_on}
use Rattle.tbl_laws.proofs.Cases.{OfEffect, CallsStore, Copies, Begins}
use Rattle.tbl_laws.proofs.AddressCases.{by_get, by_read, by_release}
use Rattle.tbl_laws.proofs.ApplicationCases.{by_register, by_start, by_share, by_unregister, by_info, by_notify, by_exit}
use Rattle.tbl_laws.proofs.LoadCases.{by_load_image, by_load_file, by_app_validate, by_update, by_manage, by_get_status, by_dump_to_buffer, by_edit}
use Rattle.tbl_laws.proofs.BlockCases.{by_delete, by_cds_register, by_cds_copy, by_cds_restore, by_cds_delete}
use Rattle.tbl_laws.proofs.CommandCases.{Commands, by_command, by_file}

module _ (s : State) (n : ℕ) (fit : AreFit n s) where
  -- ---- the ground

  -- a request that calls the store and does nothing else
  calls_store : (actor : Actor) (request : Request) (note : BankNote) → IsPlain request → CallsStore s note (Fair s actor request)
  calls_store actor request note plain = record {
    answers = λ store e is no_events no_trouble. fair_plain s actor request plain e (rw is (stays_keeps s.tables)) (no_stop e.status no_trouble);
    fails = λ store e failed is no_events status. fair_plain s actor request plain e (rw is (stays_keeps s.tables)) (rw status refl);
    restarts = λ store e stopped is no_events status. fair_anew s actor request e (ap (λ (t : State). t.tables) is);
  }

  commands : (bytes : Buffer) (note : BankNote) → Commands s note (Fair s Ground (ask.Command bytes))
  unfolding housekeeping_effect dumps_ended
  commands bytes note =
      let request : Request = ask.Command bytes in
      let plain : IsPlain request = record { no_address = λ k. refl; no_end = λ k. refl; no_removal = λ k. refl; no_exit = refl; no_reset = refl } in
      let keeps = fair_plain s Ground request plain in record {
        about = λ e table p. record { pins = p.pins; loaded = p.loaded };
        accepted = keeps _ (stays_keeps s.tables) refl;
        housekeeping = keeps _ (ends_keep (rows_where is_filled 0 s.tables.rows) (record { state = s; bytes = []; events = [] })) refl;
        loaded = λ name file row t there none. keeps _ (file_keeps s.tables row file.offset file.image name t there (load_taken s.tables row t file.offset (length file.image) none).within) refl;
        pends = λ row t active there none function. keeps _ (stays_keeps s.tables) refl;
        at_once = λ row t active there none no_function. keeps _ (marks_at_once row active) refl;
        asks = λ row t there none. keeps _ (unseen_keeps s.tables row (λ u. record u { activation = true }) (λ u. refl) (λ u. refl)) refl;
        aborted = λ row t there open_load. keeps _ (close_keeps s.tables row) refl;
        shown = λ row. keeps _ (stays_keeps s.tables) refl;
        deletes = λ name slot block none. by_delete s (Fair s Ground request) (fair_refused s Ground request plain.no_reset) note (calls_store Ground request note plain) slot;
        written = λ row file bytes free. rw free (keeps _ (stays_keeps s.tables) refl);
        dump_requested = λ file row t there only none. rw none (keeps _ (unseen_keeps s.tables row (λ u. record u { dump = requested file }) (λ u. refl) (λ u. refl)) refl);
      }
    where
      marks_at_once : (row : ℕ) (active : Bool) → Keeps s.tables (marked row active (pos 0) s.tables)
      marks_at_once row true = stays_keeps s.tables
      marks_at_once row false = mark_keeps s.tables row (is_good (pos 0))

  -- ---- handles and tables that go

  unregistered : (app m : ℕ) (h : Handle) → handle_at s.tables m ≡ Some h → Fair s (App app) (ask.Unregister m) (record (answered s SUCCESS 0) { next = give_up m s })
  unregistered app m h place =
      let gone = (fewer_handles s m).gone in
      back_fair s app m (ask.Unregister m) (λ k. refl) (λ k. refl) refl refl _ (give_up_keeps m s) refl
      (λ k g p at pin same. cc (gone, ap (λ (j : ℕ). handle_at (give_up m s).tables j) (sym same) ∙ at))
      (λ k g p row t at pin of there on.
      let reg = (was n (give_up m s) (given_up n m s fit) row on.table on.there).registered in
      ne_eqb m t.handle (λ same.
      let number : on.table.handle ≡ m = ap (λ (x : ℕ × ℕ × ℕ). x.2) on.gives.same ∙ sym same in
      cc (gone, sym (ap (λ (j : ℕ). handle_at (give_up m s).tables j) number) ∙ reg.place)))

  ended : (app : ℕ) → Fair s (App app) ask.Exit (record (answered s SUCCESS 0) { next = ended_app app (without_handles_of app s) })
  unfolding without_handles_of
  ended app =
      let after = left app n s fit in
      let none = no_handle app n s fit in
      fair_keeps s (App app) ask.Exit _ (leave_keeps app (range_with_len 0 (length s.tables.handles)) s) (λ k h p row t at pin of there on.
      let low = within (fold (give_up_if app) s (range_with_len 0 (length s.tables.handles))).tables.handles k h at in
      let others : eqb h.app app ≡ false = rw at at (none k (omega (arith, low, after.long))) in
      let reg = (was n _ (after.fit n fit) row on.table on.there).registered in
      let owner : on.table.owner ≢ app = owned_by_others app n s fit _ row on.table.handle on.table.owner after.long none reg in record {
        no_get = both (eqb app h.app) _;
        no_return = rw (eqb_sym app h.app others) refl;
        no_removal = rw (ne_eqb app t.owner (λ same. owner (ap (λ (x : ℕ × ℕ × ℕ). x.1) on.gives.same ∙ sym same))) refl;
        goes_on = refl;
      })
    where
      both : (a b : Bool) → (a && false && b) ≡ false
      both true b = refl
      both false b = refl

      eqb_sym : (a b : ℕ) → eqb b a ≡ false → eqb a b ≡ false
      eqb_sym a b is = ne_eqb a b (λ same. cc (is, eq-eqb b a (sym same)))

  marks : (row : ℕ) (active : Bool) (verdict : ℤ) → Keeps s.tables (marked row active verdict s.tables)
  marks row true verdict = stays_keeps s.tables
  marks row false verdict = mark_keeps s.tables row (is_good verdict)

  -- ---- all requests

  -- of an application's call that ends nothing
  module _ (app : ℕ) (request : Request) (plain : IsPlain request) where
    keeps : (effect : Effect) → Keeps s.tables effect.next.tables → eqb effect.status.0 INFO_STOPPED.0 ≡ false → Fair s (App app) request effect
    keeps effect kept_all goes_on = fair_plain s (App app) request plain effect kept_all goes_on

    refuses : (effect : Effect) → effect.next ≡ s → effect.events ≡ [] → effect.calls ≡ [] → is_refusal effect.status ≡ true → Fair s (App app) request effect
    refuses = fair_refused s (App app) request plain.no_reset

    quiet_fair : (effect : Effect) → effect.next.tables ≡ s.tables → eqb effect.status.0 INFO_STOPPED.0 ≡ false → Fair s (App app) request effect
    quiet_fair effect same goes_on = keeps effect (rw same (stays_keeps s.tables)) goes_on

  -- an image that its owner loads
  loaded_image : (row : ℕ) (t : Table) (image : List ℕ) → table_at s.tables row ≡ Some t → image_refusal s.tables row t (length image) ≡ None → Keeps s.tables (set_time row s.seconds s.sub (put row image s.tables))
  loaded_image row t image there none = let takes = image_taken s.tables row t (length image) none in put_keeps s.tables row t image s.seconds s.sub there takes.unlocked takes.size

  loaded_from : (name : List ℕ) (row : ℕ) (t : Table) (file : TableFile) → table_at s.tables row ≡ Some t → AreLoaded s.tables.rows → file_refusal s.tables row t file ≡ None
      → Keeps s.tables (set_file row name (set_time row s.seconds s.sub (put row (file_image t file) s.tables)))
  loaded_from name row t file there loaded none =
      let taken = file_taken s.tables row t file none in
      then_keeps s.tables (set_time row s.seconds s.sub (put row (file_image t file) s.tables)) _
      (put_keeps s.tables row t (file_image t file) s.seconds s.sub there taken.1 (patched_sized t file.offset file.image (loaded row t there) taken.0))
      (unseen_keeps _ row (λ u. record u { file = name }) (λ u. refl) (λ u. refl))

  plain_of : (request : Request) → ((k : ℕ) → asks_address k request ≡ false) → ((k : ℕ) → asks_end k request ≡ false) → ((k : ℕ) → asks_removal k request ≡ false) → is_exit request ≡ false → is_reset request ≡ false → IsPlain request
  plain_of request address end removal exit reset = record { no_address = address; no_end = end; no_removal = removal; no_exit = exit; no_reset = reset }

  -- an image that a restore gave has its block's size
  sized : (note : BankNote) (request : Request) (size : ℕ) (calls : List StoreCall) (first : Option (List ℕ)) → Begins s.store note size calls first → IsNoteOf request calls s.store note → IfSome first (λ image. length image ≡ size)
  sized note request size calls first (inl is) noted = is
  sized note request size calls first (inr (slot, are, has, gave)) noted = by note.done (rw are at noted.gave) (rw are at noted.tells) where
    of : (b : Option Stored) → has_size size b ≡ true → ForSome b (λ b. MayGive b first × IfSome first (λ image. length image ≡ b.block.size)) → IfSome first (λ image. length image ≡ size)
    of None is may = absurd (cc is)
    of (Some b) is may = subst (λ (n : ℕ). IfSome first (λ image. length image ≡ n)) (eqb-true b.block.size size is) (may b refl).1

    by : (done : ℕ) → MayGoOn (take done (restore slot first ∷ [])) s.store → Tells (take done (restore slot first ∷ [])) note → IfSome first (λ image. length image ≡ size)
    by zero may tells = rw (gave ∙ ap (option_map (λ (b : Buffer). b.list)) tells.0) tt
    by (suc done) may tells = of (stored_at s.store slot) has may.0

  -- of each request, with a note that it may leave
  abbrev Goes : Actor → Request → BankNote → Effect → Type 0
  Goes actor request note e = IsNoteOf request e.calls s.store note → Fair s actor request e

  goes_copies : (actor : Actor) (request : Request) (note : BankNote) → Copies note (Fair s actor request)
  goes_copies actor request note = record {
    left = λ slot image e p. record { pins = p.pins; loaded = p.loaded };
    fails = λ row slot e failed p. record { pins = p.pins; loaded = p.loaded };
    stops = λ e stop p. fair_anew s actor request _ refl;
  }

  registered_fair : (app : ℕ) (short : List ℕ) (size flags : ℕ) (validator : Option ℕ) (request : Request) (note : BankNote) → IsPlain request → Goes (App app) request note (register_effect s app short size flags validator note)
  registered_fair app short size flags validator request note plain =
      let store_called = calls_store (App app) request note plain in
      by_register s (Goes (App app) request note) (λ e same no_events no_calls is noted. refuses app request plain e same no_events no_calls is) app short size flags validator note (record {
        answers = λ store e is no_events quiet noted. store_called.answers store e is no_events quiet;
        fails = λ store e failed is no_events status noted. store_called.fails store e failed is no_events status;
        restarts = λ store e stopped is no_events status noted. store_called.restarts store e stopped is no_events status;
      }) (λ name row handle options first status calls store plan free_row free_handle begins quiet noted.
      keeps app request plain _ (add_keeps s.tables row (new_table name app size options validator handle) first (free_place s.tables.rows row free_row).1 refl (sized note request size calls first begins noted)) (no_stop status quiet))

  pub request_fair : AreLoaded s.tables.rows → (actor : Actor) (request : Request) (given : Given) → OfEffect (Goes actor request given.note) (effect_of s actor request given)
  request_fair loaded Ground (ask.Command bytes) given = λ noted. by_command s given.note (Fair s Ground (ask.Command bytes)) (fair_refused s Ground (ask.Command bytes) refl) (commands bytes given.note) bytes.list
  request_fair loaded Ground (ask.File file) given = λ noted.
      let request : Request = ask.File file in
      by_file s (Fair s Ground request) (fair_refused s Ground request refl) file.name file.bytes (fair_plain s Ground request (plain_of request (λ k. refl) (λ k. refl) (λ k. refl) refl refl) _ (stays_keeps s.tables) refl)
  request_fair loaded Ground (ask.Time seconds sub) given = λ noted.
      let request : Request = ask.Time seconds sub in
      fair_plain s Ground request (plain_of request (λ k. refl) (λ k. refl) (λ k. refl) refl refl) _ (stays_keeps s.tables) refl
  request_fair loaded Ground (ask.Reset kind) given = λ noted. fair_anew s Ground (ask.Reset kind) _ refl
  request_fair loaded Ground _ given = tt
  request_fair loaded (App app) (ask.Start name) given = λ noted.
      let request : Request = ask.Start name in
      let plain = plain_of request (λ k. refl) (λ k. refl) (λ k. refl) refl refl in
      by_start s (Fair s (App app) request) (refuses app request plain) app name (quiet_fair app request plain _ refl refl)
  request_fair loaded (App app) (ask.Register short size flags validator) given =
      let request : Request = ask.Register short size flags validator in
      registered_fair app short size flags validator request given.note (plain_of request (λ k. refl) (λ k. refl) (λ k. refl) refl refl)
  request_fair loaded (App app) (ask.Share name) given = λ noted.
      let request : Request = ask.Share name in
      let plain = plain_of request (λ k. refl) (λ k. refl) (λ k. refl) refl refl in
      by_share s (Fair s (App app) request) (refuses app request plain) app name (λ row handle free. keeps app request plain _ (record {
        remains = λ k h p at pin. record { was = (unpinned_set s.tables.handles handle (new_handle app row) k h p refl at pin).1; goes_on = λ j t of there near. stays_goes_on s.tables.rows j p t there near };
        loaded = λ all. all;
      }) refl)
  request_fair loaded (App app) (ask.Unregister m) given = λ noted. by_unregister s (Fair s (App app) (ask.Unregister m)) (fair_refused s (App app) (ask.Unregister m) refl) app m (λ h place own. unregistered app m h place)
  request_fair loaded (App app) (ask.LoadImage handle image) given = λ noted.
      let request : Request = ask.LoadImage handle image in
      let plain = plain_of request (λ k. refl) (λ k. refl) (λ k. refl) refl refl in
      by_load_image s (Fair s (App app) request) (refuses app request plain) given (λ row t bytes number verdict there is one bad. quiet_fair app request plain _ refl refl) (goes_copies (App app) request given.note) app handle image.list
      (λ row t there none no_function. keeps app request plain _ (loaded_image row t image.list there none) refl) (λ row t number verdict there none is one good. keeps app request plain _ (loaded_image row t image.list there none) refl)
  request_fair loaded (App app) (ask.LoadFile handle name) given = λ noted.
      let request : Request = ask.LoadFile handle name in
      let plain = plain_of request (λ k. refl) (λ k. refl) (λ k. refl) refl refl in
      by_load_file s (Fair s (App app) request) (refuses app request plain) given (λ row t bytes number verdict there is one bad. quiet_fair app request plain _ refl refl) (goes_copies (App app) request given.note) app handle name
      (λ row t file there open_to none no_function. keeps app request plain _ (loaded_from name row t file there loaded none) refl) (λ row t file number verdict there open_to none is one good. keeps app request plain _ (loaded_from name row t file there loaded none) refl)
  request_fair loaded (App app) (ask.Update handle) given = λ noted.
      let request : Request = ask.Update handle in
      let plain = plain_of request (λ k. refl) (λ k. refl) (λ k. refl) refl refl in
      by_update s (Fair s (App app) request) (refuses app request plain) app handle given.note (goes_copies (App app) request given.note) (λ row t there none.
      let taken = update_taken s.tables row t none in
      keeps app request plain _ (update_keeps s.tables row t s.seconds s.sub there taken.1 (open_checked t ((was n s fit row t there).checked taken.0))) refl)
  request_fair loaded (App app) (ask.Validate handle) given = λ noted.
      let request : Request = ask.Validate handle in
      let plain = plain_of request (λ k. refl) (λ k. refl) (λ k. refl) refl refl in
      by_app_validate s (Fair s (App app) request) (refuses app request plain) app handle given (λ row t active there first. keeps app request plain _ (marks row active (verdict_at 0 given)) (judged_goes_on (is_good (verdict_at 0 given))))
  request_fair loaded (App app) (ask.Manage handle) given = λ noted.
      let request : Request = ask.Manage handle in
      let plain = plain_of request (λ k. refl) (λ k. refl) (λ k. refl) refl refl in
      by_manage s (Fair s (App app) request) (refuses app request plain) app handle given (goes_copies (App app) request given.note) (λ row t there. keeps app request plain _ (manage_keeps n row given s fit) (manage_goes_on s.tables row t))
  request_fair loaded (App app) (ask.DumpToBuffer handle) given = λ noted.
      let request : Request = ask.DumpToBuffer handle in
      let plain = plain_of request (λ k. refl) (λ k. refl) (λ k. refl) refl refl in
      by_dump_to_buffer s (Fair s (App app) request) (refuses app request plain) app handle (λ row t there is. keeps app request plain _ (unseen_keeps s.tables row (λ u. record u { dump = filled_with (last_image u) u.dump }) (λ u. refl) (λ u. refl)) refl)
  request_fair loaded (App app) (ask.Edit handle offset bytes) given = λ noted.
      let request : Request = ask.Edit handle offset bytes in
      let plain = plain_of request (λ k. refl) (λ k. refl) (λ k. refl) refl refl in
      by_edit s (Fair s (App app) request) (refuses app request plain) app handle offset bytes.list (λ row t there none.
      let taken = edit_taken s.tables row t offset (length bytes.list) none in
      keeps app request plain _ (put_alone_keeps s.tables row t (patched (base t) offset bytes.list) there taken.2 (patched_sized t offset bytes.list (loaded row t there) taken.1)) refl)
  request_fair loaded (App app) (ask.Get handle) given = λ noted. by_get s (Fair s (App app) (ask.Get handle)) (fair_refused s (App app) (ask.Get handle) refl) app handle (pin_fair s app handle)
  request_fair loaded (App app) (ask.Read handle offset len) given = λ noted.
      let request : Request = ask.Read handle offset len in
      let plain = plain_of request (λ k. refl) (λ k. refl) (λ k. refl) refl refl in
      by_read s (Fair s (App app) request) (refuses app request plain) app handle offset len (λ a leads pinned inside. quiet_fair app request plain _ refl refl)
  request_fair loaded (App app) (ask.Release handle) given = λ noted.
      by_release s (Fair s (App app) (ask.Release handle)) (fair_refused s (App app) (ask.Release handle) refl) app handle (λ a leads pinned. rw pinned
      (back_fair s app handle (ask.Release handle) (λ k. refl) (λ k. refl) refl refl _ (release_keeps s.tables handle a.handle a.row a.table leads.there) (granted (nat_lt a.handle.told a.table.count)).1
      (λ k g p at pin. (unpinned_set s.tables.handles handle (record a.handle { pin = None }) k g p refl at pin).0) (λ k g p row t at pin of there on. refl)))
  request_fair loaded (App app) (ask.GetStatus handle) given = λ noted.
      let request : Request = ask.GetStatus handle in
      let plain = plain_of request (λ k. refl) (λ k. refl) (λ k. refl) refl refl in
      by_get_status s (Fair s (App app) request) (refuses app request plain) app handle (λ row t. quiet_fair app request plain _ refl (status_goes_on s.pending row t))
  request_fair loaded (App app) (ask.GetInfo name) given = λ noted.
      let request : Request = ask.GetInfo name in
      let plain = plain_of request (λ k. refl) (λ k. refl) (λ k. refl) refl refl in
      by_info s (Fair s (App app) request) (refuses app request plain) app name (λ t. quiet_fair app request plain _ refl refl)
  request_fair loaded (App app) (ask.Notify handle msg code parameter) given = λ noted.
      let request : Request = ask.Notify handle msg code parameter in
      let plain = plain_of request (λ k. refl) (λ k. refl) (λ k. refl) refl refl in
      by_notify s (Fair s (App app) request) (refuses app request plain) app handle msg code parameter (λ row t there is. keeps app request plain _ (unseen_keeps s.tables row (λ u. record u { notice = Some (record { msg = msg; code = code; parameter = parameter }) }) (λ u. refl) (λ u. refl)) refl)
  request_fair loaded (App app) ask.Exit given = λ noted. by_exit s (Fair s (App app) ask.Exit) (fair_refused s (App app) ask.Exit refl) app (ended app)
  request_fair loaded (App app) (ask.CdsRegister name size) given = λ noted.
      let request : Request = ask.CdsRegister name size in
      let plain = plain_of request (λ k. refl) (λ k. refl) (λ k. refl) refl refl in
      by_cds_register s (Fair s (App app) request) (refuses app request plain) given.note (calls_store (App app) request given.note plain) app name size
  request_fair loaded (App app) (ask.CdsCopy slot image) given = λ noted.
      let request : Request = ask.CdsCopy slot image in
      let plain = plain_of request (λ k. refl) (λ k. refl) (λ k. refl) refl refl in
      by_cds_copy s (Fair s (App app) request) (refuses app request plain) given.note (calls_store (App app) request given.note plain) app slot image.list
  request_fair loaded (App app) (ask.CdsRestore slot) given = λ noted.
      let request : Request = ask.CdsRestore slot in
      let plain = plain_of request (λ k. refl) (λ k. refl) (λ k. refl) refl refl in
      by_cds_restore s (Fair s (App app) request) (refuses app request plain) given.note (calls_store (App app) request given.note plain) app slot
  request_fair loaded (App app) (ask.CdsDelete slot) given = λ noted.
      let request : Request = ask.CdsDelete slot in
      let plain = plain_of request (λ k. refl) (λ k. refl) (λ k. refl) refl refl in
      by_cds_delete s (Fair s (App app) request) (refuses app request plain) given.note (calls_store (App app) request given.note plain) app slot
  request_fair loaded (App app) _ given = tt
