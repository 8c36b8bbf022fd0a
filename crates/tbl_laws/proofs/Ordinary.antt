-- What each request leaves: the service goes on unless a boot failed, and what holds of its tables and of pending validations still does.
use Rattle.std.proofs.lemmas.Bool.Decides.{nat_tests}
use Rattle.std.proofs.Common.{◌≡◌, ℕ, suc, ◌<◌, List, [], ◌∷◌, length, Bool, true, false, Option, Some, None, is_none, refl, sym, ap, ◌∙◌, subst, arith, cond, replicate, ◌≤◌, is_some, pos}
use Rattle.std.specs.Prelude.{slice_index_or, slice_set, slice_get, option_and_then, IfSome}
use Rattle.std.specs.List.{fold}
use Rattle.std.specs.Option.{option_map_or}
use Rattle.std.proofs.lemmas.Bool.{eqb-true, cond_both}
use Rattle.tbl_kinds.specs.Blocks.{Store}
use Rattle.tbl_kinds.specs.Drawer.{is_full_for}
use Rattle.std.proofs.lemmas.List.{get_or-set_same, get_or-set_other}
use Rattle.std.proofs.lemmas.List.Quantifiers.{position-Some}
use Rattle.std.proofs.lemmas.Option.{same_Some, get_or_from_slice_get}
use Rattle.tbl_kinds.specs.Free.{least_free}
use Rattle.tbl_model.specs.State.{State, Table, Handle, Tables, Dump, quiet, requested, filled, no_tables}
use Rattle.tbl_model.specs.Tables.{table_at, rows_where}
use Rattle.tbl_model.specs.TableSteps.{is_that, end_dump, handle_at, Access, drop_before, with_table, with_handle, filled_with, last_image, new_table, new_handle, with_first, added}
use Rattle.tbl_model.specs.Effects.{Effect}
use Rattle.tbl_model.specs.Given.{Given, verdict_at}
use Rattle.tbl_model.specs.Pending.{is_pending}
use Rattle.tbl_model.specs.Refusals.{may_use}
use Rattle.tbl_model.specs.Validations.{first_pending}
use Rattle.tbl_model.specs.Dumps.{Ended, end_by, then_end, is_filled, dumps_ended, housekeeping_effect}
use Rattle.tbl_model.specs.Boots.{boot}
use Rattle.tbl_model.specs.Dispatch.{effect_of}
use Rattle.tbl_model.proofs.RefusalLaws.{load_taken, validation_taken, update_taken, plan_taken}
use Rattle.tbl_model.proofs.RefusalAnswers.{is_refusal}
use Rattle.tbl_model.specs.Sharing.{is_notice}
use Rattle.tbl_model.specs.Fit.{FitAt, AreFit}
use Rattle.tbl_laws.proofs.Rows.{nothing_at, set_row}
use Rattle.tbl_laws.proofs.Fits.{load_there, fit_on, fit_same, was, unseen, mark}
use Rattle.tbl_laws.proofs.Changes.{grown, told, imaged, imaged_from, loads, pends, asks, aborts, updates, managed, goes_on, put_alone, noticed}
use Rattle.tbl_laws.proofs.GivingUp.{kept_with, given_up, fewer_handles, exited, still_live}
use Rattle.tbl_laws.proofs.Cases.{OfEffect, Leads, CallsStore, Copies}
use Rattle.tbl_laws.proofs.AddressCases.{by_get, by_read, by_release}
use Rattle.tbl_laws.proofs.ApplicationCases.{by_register, by_start, by_share, by_unregister, by_info, by_notify, by_exit}
use Rattle.tbl_laws.proofs.LoadCases.{by_load_image, by_load_file, by_app_validate, by_update, by_manage, by_get_status, by_dump_to_buffer, by_edit}
use Rattle.tbl_laws.proofs.BlockCases.{by_delete, by_cds_register, by_cds_copy, by_cds_restore, by_cds_delete}
use Rattle.tbl_laws.proofs.CommandCases.{Commands, by_command, by_file}
use Rattle.tbl_kinds.specs.declared.note.BankNote.{BankNote}
use Rattle.tbl_kinds.specs.declared.request.Actor.{Actor}
use Rattle.tbl_kinds.specs.declared.request.Actor.TheVariants.{Ground, App}
use Rattle.tbl_kinds.specs.declared.request.ResetKind.TheVariants.{Processor}
use Rattle.tbl_kinds.specs.declared.request.Request.{Request}
use Rattle.tbl_kinds.specs.declared.request.Request.TheVariants as ask

pub record IsOrdinary (n : ℕ) (note : BankNote) (e : Effect) : Type 0 where
  pub fit : AreFit (suc n) e.next
  pub live : note.ended ≡ false → e.next.ended ≡ false

-- without tables all holds
pub fit_at_first : (n : ℕ) (s : State) → s.tables ≡ no_tables → s.pending ≡ [] → AreFit n s
fit_at_first n s tables pending = record { each = λ row. rw (tables, pending) (none row 128); few_pending = rw pending (omega arith) } where
  none : (row count : ℕ) → FitAt n s.kit [] (replicate 256 None) row (slice_index_or (replicate {A = Option Table} count None) row None)
  none row count = rw (nothing_at {X = Table} count row) (λ active. refl)

-- nothing is in a free place
pub free_place : {X : Type 0} (places : List (Option X)) (n : ℕ) → least_free places ≡ Some n → (n < length places) × (slice_index_or places n None ≡ None)
free_place places n free =
    let found = position-Some is_none places n None free in
    (found.0, none (slice_index_or places n None) found.1)
  where
    none : {X : Type 0} (o : Option X) → is_none o ≡ true → o ≡ None
    none None is = refl
    none (Some x) is = absurd (cc is)

-- the function that an application may use is its own
usable : (kit : List (Option ℕ)) (app : ℕ) (validator : Option ℕ) → may_use kit app validator ≡ true → IfSome validator (λ number. slice_index_or kit number None ≡ Some app)
usable kit app None may = tt
usable kit app (Some number) may = by (slice_get kit number) refl may where
  by : (found : Option (Option ℕ)) → slice_get kit number ≡ found → is_that app (option_and_then (λ x. x) found) ≡ true → slice_index_or kit number None ≡ Some app
  by None at is = absurd (cc is)
  by (Some None) at is = absurd (cc is)
  by (Some (Some owner)) at is = get_or_from_slice_get kit number (Some owner) None at ∙ ap (λ (k : ℕ). Some k) (eqb-true owner app is)

-- the function code of a notice that may be set has seven bits
seven_bits : (msg code : ℕ) → is_notice msg code ≡ true → code < 128
seven_bits msg code is = grind (arith, nat_tests)

-- what is done first is pending
pub pending_first : (pending : List (ℕ × Bool)) (row : ℕ) (active : Bool) → first_pending pending row ≡ Some active → is_pending row active pending ≡ true
pending_first pending row active first = by (is_pending row true pending) (is_pending row false pending) refl refl first where
  by : (last load : Bool) → is_pending row true pending ≡ last → is_pending row false pending ≡ load → cond last (Some true) (cond load (Some false) None) ≡ Some active → is_pending row active pending ≡ true
  by true load is_last is_load found = rw (sym (same_Some true active found)) is_last
  by false true is_last is_load found = rw (sym (same_Some false active found)) is_load
  by false false is_last is_load found = absurd (cc found)

-- other blocks, and nothing else
other_blocks : (n : ℕ) (s : State) (store : Store) → AreFit n s → AreFit n (record s { store = store })
other_blocks n s store fits = record { each = fits.each; few_pending = fits.few_pending }

-- a new table in a free row, with whatever options and first image
module _ (s : State) (n : ℕ) (fit : AreFit n s) (name : List ℕ) (row handle app size options : ℕ) (validator : Option ℕ) (first : Option (List ℕ)) (free_row : least_free s.tables.rows ≡ Some row) (free_handle : least_free s.tables.handles ≡ Some handle)
    (may : may_use s.kit app validator ≡ true) where
  pub new_row : AreFit (suc n) (record s { tables = added row (with_first first (new_table name app size options validator handle)) s.tables })
  new_row =
      let place = free_place s.tables.rows row free_row in
      let number = free_place s.tables.handles handle free_handle in
      let u : Table = with_first first (new_table name app size options validator handle) in
      fit_on n (suc n) s _ row (Some u) (omega arith) fit (record {
        rows = record { here = get_or-set_same s.tables.rows row (Some u) None place.0; others = λ k other. get_or-set_other s.tables.rows row k (Some u) None other };
        pending = λ k active other. refl;
        handles = λ k t other there reg. kept_with s.tables.handles handle (new_handle app row) k t.handle t.owner (λ g at. absurd (cc (at, number.1))) reg;
        kit = refl;
        few_pending = fit.few_pending;
      }) (record {
        few = first_alone first;
        registered = record { handle = new_handle app row; place = get_or-set_same s.tables.handles handle (Some (new_handle app row)) None number.0; app = refl; leads = refl };
        function = usable s.kit app validator may;
        notice = tt;
        checked = λ requested_now. cc requested_now;
        pends = λ active pending. absurd (cc (pending, (subst (FitAt n s.kit s.pending s.tables.handles row) place.1 (fit.each row)) active));
      })
    where
      first_alone : (first : Option (List ℕ)) → cond (is_some first) 1 0 ≤ suc n
      first_alone None = omega arith
      first_alone (Some image) = omega arith

module _ (s : State) (n : ℕ) (lives : s.ended ≡ false) (fit : AreFit n s) (given : Given) where
  live : given.note.ended ≡ false → s.ended ≡ false
  live _ = lives

  ordinary_of : (next : State) → AreFit (suc n) next → next.ended ≡ s.ended → (e : Effect) → e.next ≡ next → IsOrdinary n given.note e
  ordinary_of next fits goes e is = rw is (record { fit = fits; live = λ _. goes ∙ lives })

  -- an effect that leaves the state
  same : (e : Effect) → e.next ≡ s → IsOrdinary n given.note e
  same e is = rw is (record { fit = grown n s fit; live = live })

  refused : (e : Effect) → e.next ≡ s → e.events ≡ [] → e.calls ≡ [] → is_refusal e.status ≡ true → IsOrdinary n given.note e
  refused e is no_events no_calls refuses = same e is

  -- what changes neither tables nor what is pending, nor the kit
  elsewhere : (next : State) → next.tables ≡ s.tables → next.pending ≡ s.pending → next.kit ≡ s.kit → AreFit (suc n) next
  elsewhere next tables pending kit = fit_same n (suc n) s next (omega arith) fit (ap (λ (t : Tables). t.rows) tables) pending kit (λ k t there reg. rw tables reg)

  -- a handle is put in the place of one of the same application and row, or in a free one
  with_this_handle : (m : ℕ) (h : Handle) → ((g : Handle) → handle_at s.tables m ≡ Some g → (h.app ≡ g.app) × (h.row ≡ g.row)) → AreFit n (record s { tables = with_handle m h s.tables })
  with_this_handle m h alike = fit_same n n s (record s { tables = with_handle m h s.tables }) (omega arith) fit refl refl refl (λ k t there reg. kept_with s.tables.handles m h k t.handle t.owner alike reg)

  same_handle_of : (m : ℕ) (h g : Handle) → handle_at s.tables m ≡ Some h → handle_at s.tables m ≡ Some g → (h.app ≡ g.app) × (h.row ≡ g.row)
  same_handle_of m h g one other = let same = same_Some h g (sym one ∙ other) in (ap (λ (x : Handle). x.app) same, ap (λ (x : Handle). x.row) same)

  -- the pin ends, and the image before the last may go
  released : (app m : ℕ) (a : Access) → Leads s.tables app m a → AreFit (suc n) (record s { tables = with_table a.row (drop_before (slice_set s.tables.handles m (Some (record a.handle { pin = None }))) a.row a.table) (with_handle m (record a.handle { pin = None }) s.tables) })
  released app m a leads =
      let freed : State = record s { tables = with_handle m (record a.handle { pin = None }) s.tables } in
      let fits : AreFit n freed = with_this_handle m (record a.handle { pin = None }) (λ g at. same_handle_of m a.handle g leads.place at) in
      let few = (was n freed fits a.row a.table leads.there).few in
      unseen n freed fits a.row a.table leads.there (suc n) _ (drop_before (slice_set s.tables.handles m (Some (record a.handle { pin = None }))) a.row a.table) (omega arith)
      (record { changes = set_row freed.tables a.row a.table _ leads.there; handles = refl; handle = refl; owner = refl; validator = refl; notice = (was n freed fits a.row a.table leads.there).notice }) (omega arith) (omega (arith, few)) refl refl

  -- ---- housekeeping

  -- what one filled dump's end leaves
  EndsWell : Ended → Type 0
  EndsWell e = AreFit n e.state × (e.state.ended ≡ s.ended)

  over : (row : ℕ) (t : Table) (e : Ended) → table_at e.state.tables row ≡ Some t → AreFit n e.state → AreFit n (record e.state { tables = end_dump row e.state.tables })
  over row t e there fits = told n e.state fits row t there n (λ u. record u { dump = quiet }) (omega arith) refl refl refl refl refl refl refl

  end_dump_of : (row : ℕ) (t : Table) (e : Ended) (dump : Dump) → table_at e.state.tables row ≡ Some t → EndsWell e → EndsWell (end_by e row t.name dump)
  unfolding EndsWell
  end_dump_of row t e quiet there well = well
  end_dump_of row t e (requested file) there well = well
  end_dump_of row t e (filled file image) there well =
      let fits = over row t e there well.0 in
      cond_both (is_full_for e.state.drawer file) _ _ (λ (d : Ended). AreFit n d.state × (d.state.ended ≡ s.ended)) (λ _. (fits, well.1))
      (λ _. (fit_same n n (record e.state { tables = end_dump row e.state.tables }) _ (omega arith) fits refl refl refl (λ k u at reg. reg), well.1))

  end_one : (row : ℕ) (e : Ended) → EndsWell e → EndsWell (then_end e row)
  end_one row e well = by (table_at e.state.tables row) refl where
    by : (found : Option Table) → table_at e.state.tables row ≡ found → EndsWell (option_map_or (λ (t : Table). end_by e row t.name t.dump) found e)
    by None there = well
    by (Some t) there = end_dump_of row t e t.dump there well

  ends : (rows : List ℕ) (e : Ended) → EndsWell e → EndsWell (fold then_end e rows)
  ends [] e well = well
  ends (row ∷ rows) e well = ends rows (then_end e row) (end_one row e well)

  housekept : IsOrdinary n given.note (housekeeping_effect s)
  unfolding EndsWell housekeeping_effect dumps_ended
  housekept = let all = ends (rows_where is_filled 0 s.tables.rows) (record { state = s; bytes = []; events = [] }) (fit, refl) in record { fit = grown n _ all.0; live = λ _. all.1 ∙ lives }

  -- ---- commands

  -- other blocks, or no tables at all
  calls_store : CallsStore s given.note (IsOrdinary n given.note)
  calls_store = record {
    answers = λ store e is no_events no_trouble. ordinary_of (record s { store = store }) (elsewhere _ refl refl refl) refl e is;
    fails = λ store e failed is no_events status. ordinary_of (record s { store = store }) (elsewhere _ refl refl refl) refl e is;
    restarts = λ store e stopped is no_events status. rw is (record { fit = fit_at_first (suc n) (boot Processor given.note (record s { store = store })) refl refl; live = λ goes. goes });
  }

  copies : Copies given.note (IsOrdinary n given.note)
  copies = record {
    left = λ slot image e p. record { fit = other_blocks (suc n) e.next _ p.fit; live = p.live };
    fails = λ row slot e failed p. record { fit = p.fit; live = p.live };
    stops = λ e stop p. record { fit = fit_at_first (suc n) (boot Processor given.note e.next) refl refl; live = λ goes. goes };
  }

  commands : Commands s given.note (IsOrdinary n given.note)
  commands = record {
    about = λ e table p. record { fit = p.fit; live = p.live };
    accepted = same _ refl;
    housekeeping = housekept;
    loaded = λ name file row t there none. record { fit = loads n s fit row t there file.offset file.image name (load_taken s.tables row t file.offset (length file.image) none).no_activation; live = live };
    pends = λ row t active there none function. record { fit = pends n s fit row t there active none function; live = live };
    at_once = λ row t active there none no_function. record { fit = grown n _ (mark n s fit row t there active (pos 0) (validation_taken s.pending row t active none).no_activation); live = live };
    asks = λ row t there none. record { fit = asks n s fit row t there none; live = live };
    aborted = λ row t there open_load. record { fit = grown n _ (aborts n s fit row t there); live = live };
    shown = λ row. same _ refl;
    deletes = λ name slot block none. by_delete s (IsOrdinary n given.note) refused given.note calls_store slot;
    written = λ row file bytes free. rw free (record { fit = elsewhere _ refl refl refl; live = live });
    dump_requested = λ file row t there only none. rw none (record { fit = told n s fit row t there (suc n) (λ u. record u { dump = requested file }) (omega arith) refl refl refl refl refl refl refl; live = live });
  }

  -- ---- all requests

  of_request : (actor : Actor) (request : Request) → OfEffect (IsOrdinary n given.note) (effect_of s actor request given)
  of_request Ground (ask.Command bytes) = by_command s given.note (IsOrdinary n given.note) refused commands bytes.list
  of_request Ground (ask.File file) = by_file s (IsOrdinary n given.note) refused file.name file.bytes (record { fit = elsewhere _ refl refl refl; live = live })
  of_request Ground (ask.Time seconds sub) = record { fit = elsewhere _ refl refl refl; live = live }
  of_request Ground (ask.Reset kind) = record { fit = fit_at_first (suc n) (boot kind given.note s) refl refl; live = λ goes. goes }
  of_request Ground request = tt
  of_request (App app) (ask.Start name) = by_start s (IsOrdinary n given.note) refused app name (record { fit = elsewhere _ refl refl refl; live = live })
  of_request (App app) (ask.Register name size flags validator) = by_register s (IsOrdinary n given.note) refused app name size flags validator given.note calls_store (λ full row handle options first status calls store plan free_row free_handle begins quiet. record {
    fit = other_blocks (suc n) _ store (new_row s n fit full row handle app size options validator first free_row free_handle (plan_taken s.kit app name size flags validator plan).may);
    live = live;
  })
  of_request (App app) (ask.Share name) = by_share s (IsOrdinary n given.note) refused app name (λ row handle free. record {
    fit = grown n _ (with_this_handle handle (new_handle app row) (λ g at. absurd (cc (at, (free_place s.tables.handles handle free).1))));
    live = live;
  })
  of_request (App app) (ask.Unregister handle) = by_unregister s (IsOrdinary n given.note) refused app handle (λ h place own. record { fit = grown n _ (given_up n handle s fit); live = λ _. (fewer_handles s handle).ended ∙ lives })
  of_request (App app) (ask.LoadImage handle image) = by_load_image s (IsOrdinary n given.note) refused given (λ row t bytes number verdict there is one bad. record { fit = grown n s fit; live = live }) copies app handle image.list
      (λ row t there none plain. record { fit = imaged n s fit row t there image.list s.seconds s.sub; live = live }) (λ row t number verdict there none is one good. record { fit = imaged n s fit row t there image.list s.seconds s.sub; live = live })
  of_request (App app) (ask.LoadFile handle name) = by_load_file s (IsOrdinary n given.note) refused given (λ row t bytes number verdict there is one bad. record { fit = grown n s fit; live = live }) copies app handle name
      (λ row t file there open_to none plain. record { fit = imaged_from n s fit row t there _ s.seconds s.sub name; live = live }) (λ row t file number verdict there open_to none is one good. record { fit = imaged_from n s fit row t there _ s.seconds s.sub name; live = live })
  of_request (App app) (ask.Update handle) = by_update s (IsOrdinary n given.note) refused app handle given.note copies (λ row t there none. record { fit = updates n s fit row t there s.seconds s.sub (update_taken s.tables row t none).0; live = live })
  of_request (App app) (ask.Validate handle) = by_app_validate s (IsOrdinary n given.note) refused app handle given (λ row t active there first. record {
    fit = grown n _ (mark n s fit row t there active (verdict_at 0 given) (λ inactive. (load_there t active ((was n s fit row t there).pends active (pending_first s.pending row active first)).1 inactive).1));
    live = live;
  })
  of_request (App app) (ask.Manage handle) = by_manage s (IsOrdinary n given.note) refused app handle given copies (λ row t there. record { fit = managed n row given s fit; live = λ _. goes_on n row given s ∙ lives })
  of_request (App app) (ask.DumpToBuffer handle) = by_dump_to_buffer s (IsOrdinary n given.note) refused app handle (λ row t there is. record {
    fit = told n s fit row t there (suc n) (λ u. record u { dump = filled_with (last_image u) u.dump }) (omega arith) refl refl refl refl refl refl refl;
    live = live;
  })
  of_request (App app) (ask.Edit handle offset bytes) = by_edit s (IsOrdinary n given.note) refused app handle offset bytes.list (λ row t there none. record { fit = put_alone n s fit row t there _; live = live })
  of_request (App app) (ask.Get handle) = by_get s (IsOrdinary n given.note) refused app handle (λ a leads some. record {
    fit = grown n _ (with_this_handle handle (record a.handle { pin = Some a.table.count; told = a.table.count }) (λ g at. same_handle_of handle a.handle g leads.place at));
    live = live;
  })
  of_request (App app) (ask.Read handle offset len) = by_read s (IsOrdinary n given.note) refused app handle offset len (λ a leads pinned inside. same _ refl)
  of_request (App app) (ask.Release handle) = by_release s (IsOrdinary n given.note) refused app handle (λ a leads pinned. rw pinned (record {
    fit = released app handle a leads;
    live = live;
  }))
  of_request (App app) (ask.GetStatus handle) = by_get_status s (IsOrdinary n given.note) refused app handle (λ row t. same _ refl)
  of_request (App app) (ask.GetInfo name) = by_info s (IsOrdinary n given.note) refused app name (λ t. same _ refl)
  of_request (App app) (ask.Notify handle msg code parameter) = by_notify s (IsOrdinary n given.note) refused app handle msg code parameter (λ row t there is. record {
    fit = noticed n s fit row t there (suc n) (record { msg = msg; code = code; parameter = parameter }) (omega arith) (seven_bits msg code is);
    live = live;
  })
  of_request (App app) ask.Exit = by_exit s (IsOrdinary n given.note) refused app (record { fit = grown n _ (exited app n s fit); live = λ _. still_live app n s fit ∙ lives })
  of_request (App app) (ask.CdsRegister name size) = by_cds_register s (IsOrdinary n given.note) refused given.note calls_store app name size
  of_request (App app) (ask.CdsCopy slot image) = by_cds_copy s (IsOrdinary n given.note) refused given.note calls_store app slot image.list
  of_request (App app) (ask.CdsRestore slot) = by_cds_restore s (IsOrdinary n given.note) refused given.note calls_store app slot
  of_request (App app) (ask.CdsDelete slot) = by_cds_delete s (IsOrdinary n given.note) refused given.note calls_store app slot
  of_request (App app) request = tt

pub ordinary : (s : State) (n : ℕ) → s.ended ≡ false → AreFit n s → (actor : Actor) (request : Request) (given : Given) → OfEffect (IsOrdinary n given.note) (effect_of s actor request given)
ordinary s n lives fit actor request given = of_request s n lives fit given actor request
