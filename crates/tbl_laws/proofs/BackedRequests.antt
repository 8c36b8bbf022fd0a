-- Each request leaves critical tables backed by their blocks, if its note is one that it may leave.
use Rattle.std.proofs.Common.{◌≡◌, ◌≢◌, ℕ, ◌<◌, List, [], ◌∷◌, Bool, true, false, not, cond, length, Option, Some, None, is_some, unwrap_or, refl, sym, subst, pos}
use Rattle.std.specs.Prelude.{IsSome, nat_le, option_and_then, slice_set}
use Rattle.std.specs.List.{fold, range_with_len}
use Rattle.std.specs.Option.{option_map_or}
use Rattle.std.proofs.lemmas.Bool.{cond_both, leb-false, not-false}
use Rattle.std.proofs.lemmas.Nat.{and_assoc}
use Rattle.std.specs.Int.Bits.{and_zero_r}
use Rattle.tbl_kinds.specs.Blocks.{Store}
use Rattle.tbl_kinds.specs.Drawer.{is_full_for}
use Rattle.tbl_kinds.specs.Free.{least_free}
use Rattle.tbl_kinds.specs.Notes.{restored_image}
use Rattle.tbl_kinds.specs.StoreSteps.{open_of, stored_at, has_room}
use Rattle.tbl_kinds.specs.StoreCalls.{StoreCall, copy, restore, delete, after}
use Rattle.tbl_model.specs.State.{State, Table, Dump, quiet, requested, filled}
use Rattle.tbl_model.specs.Tables.{table_at, is_critical, critical_count, rows_where}
use Rattle.tbl_model.specs.TableSteps.{find, handle_at, last_image, filled_with, uncritical, drop_before, end_dump, added, new_table, with_first, as_registered}
use Rattle.tbl_model.specs.Effects.{Effect, answered}
use Rattle.tbl_model.specs.Given.{Given, verdict_at}
use Rattle.tbl_model.specs.CriticalTables.{critical_limit, registered, not_kept, recovered, instead, kept_effect}
use Rattle.tbl_model.specs.Registration.{new_effect}
use Rattle.tbl_model.specs.Copies.{block_of}
use Rattle.tbl_model.specs.StoreUse.{left_by, with_calls, by_outcome, then_call}
use Rattle.tbl_model.specs.StoreNotes.{Ends, IsNoteOf}
use Rattle.tbl_model.specs.AppBlocks.{faulted, any_of, renewal, new_slot, has_size}
use Rattle.tbl_model.specs.Boots.{stopped}
use Rattle.tbl_model.specs.Dumps.{Ended, end_by, then_end, is_filled, dumps_ended, housekeeping_effect}
use Rattle.tbl_model.specs.Sharing.{give_up, is_handle_of, give_up_if, without_handles_of, ended_app}
use Rattle.tbl_model.specs.Validations.{marked}
use Rattle.tbl_model.specs.Dispatch.{effect_of}
use Rattle.tbl_model.proofs.RefusalAnswers.{is_refusal}
use Rattle.tbl_kinds.specs.declared.block.BlockKind.TheVariants.{Table as of_table, App as of_app}
use Rattle.tbl_kinds.specs.declared.note.BankNote.{BankNote}
use Rattle.tbl_kinds.specs.declared.note.Outcome.{Outcome}
use Rattle.tbl_kinds.specs.declared.note.Outcome.TheVariants.{Untouched, Done, Failed, Stopped}
use Rattle.tbl_kinds.specs.declared.request.Actor.{Actor}
use Rattle.tbl_kinds.specs.declared.request.Actor.TheVariants.{Ground, App}
use Rattle.tbl_kinds.specs.declared.request.Request.{Request}
use Rattle.tbl_kinds.specs.declared.request.Request.TheVariants as ask
use Rattle.tbl_kinds.specs.declared.request.ResetKind.TheVariants.{Processor}
use Rattle.tbl_kinds.specs.declared.status.Status.{Status}
use Rattle.tbl_kinds.specs.declared.status.TheConstants.Status.{SUCCESS}
use Rattle.tbl_session.specs.Backed.{AreBacked}
use Rattle.tbl_laws.proofs.Descents.{Descends, same_descends, set_descends, changed_descends, put_descends, image_descends, file_descends, update_descends, mark_descends, load_descends, give_up_descends, give_up_store, managed_descends, managed_store}
use Rattle.tbl_laws.proofs.TableBlocks.{HasBlock, has_block, change_keeps}
use Rattle.tbl_laws.proofs.Calls.{SuitAll, app_renewal_suits, table_renewal_suits, app_delete_suits, table_delete_suits, all_done, renewal_has}
use Rattle.tbl_laws.proofs.Backing.{boot_backed, descends_backed, calls_backed, registered_backed}
use Rattle.tbl_laws.proofs.Cases.{OfEffect, Copies}
use Rattle.tbl_laws.proofs.AddressCases.{by_get, by_read, by_release}
use Rattle.tbl_laws.proofs.ApplicationCases.{by_new, by_start, by_share, by_unregister, by_info, by_notify, by_exit}
use Rattle.tbl_laws.proofs.LoadCases.{by_load_image, by_load_file, by_app_validate, by_update, by_manage, by_get_status, by_dump_to_buffer, by_edit}
use Rattle.tbl_laws.proofs.BlockCases.{makes_block, copies_block, restores_block, deletes_block}
use Rattle.tbl_laws.proofs.CommandCases.{Commands, by_command, by_file}

-- ---- dumps that end, and handles that are given up

ends : (rows : List ℕ) (e : Ended) → AreBacked e.state → AreBacked (fold then_end e rows).state
ends [] e backed = backed
ends (row ∷ rows) e backed = ends rows (then_end e row) (one (table_at e.state.tables row)) where
  over : Descends e.state.tables (end_dump row e.state.tables)
  over = changed_descends e.state.tables row (λ u. record u { dump = quiet }) (λ u. refl)

  of : (name : List ℕ) (dump : Dump) → AreBacked (end_by e row name dump).state
  of name quiet = backed
  of name (requested file) = backed
  of name (filled file image) =
      cond_both (is_full_for e.state.drawer file) _ _ (λ (d : Ended). AreBacked d.state) (λ _. descends_backed e.state _ backed over refl) (λ _. descends_backed e.state _ backed over refl)

  one : (found : Option Table) → AreBacked (option_map_or (λ (t : Table). end_by e row t.name t.dump) found e).state
  one None = backed
  one (Some t) = of t.name t.dump

gives_up : (s : State) (m : ℕ) → AreBacked s → AreBacked (give_up m s)
gives_up s m backed = descends_backed s (give_up m s) backed (give_up_descends s m) (give_up_store s m)

gives_up_all : (app : ℕ) (s : State) (numbers : List ℕ) → AreBacked s → AreBacked (fold (give_up_if app) s numbers)
gives_up_all app s [] backed = backed
gives_up_all app s (m ∷ numbers) backed =
    gives_up_all app (give_up_if app s m) numbers (cond_both (is_handle_of app (handle_at s.tables m)) (give_up m s) s AreBacked (λ _. gives_up s m backed) (λ _. backed))

-- ---- a table that is registered

plain_options : (t : Table) → is_critical (uncritical t) ≡ false
plain_options t = rw (and_assoc 8 t.options 0xFFF7, and_zero_r t.options) refl

-- if an open block has its size, the table has a block
open_is_block : (t : Table) (store : Store) → has_size t.size (option_and_then (stored_at store) (open_of of_table t.name store)) ≡ true → IsSome (block_of t store)
open_is_block t store sized = by (open_of of_table t.name store) sized where
  by : (found : Option ℕ) → has_size t.size (option_and_then (stored_at store) found) ≡ true → is_some (cond (has_size t.size (option_and_then (stored_at store) found)) found None) ≡ true
  by None is = absurd (cc is)
  by (Some slot) is = rw is refl

module _ (s : State) (backed : AreBacked s) (note : BankNote) (row : ℕ) (free : least_free s.tables.rows ≡ Some row) (t : Table) (new : find t.name s.tables ≡ None) where
  -- if the calls ended as the note says
  abbrev Noted : Effect → Type 0
  Noted e = Ends note.outcome e.calls s.store note → AreBacked e.next

  -- a table that isn't critical needs no block
  adds : (next : State) (u : Table) → AreBacked next → next.tables ≡ s.tables → is_critical u ≡ false → AreBacked (record next { tables = added row u next.tables })
  adds next u was same plain = registered_backed next row u was (rw same free) (λ critical. absurd (cc (plain, critical)))

  module _ (few : critical_count s.tables < critical_limit) (calls : List StoreCall) (some : calls ≢ []) (suit : SuitAll s.tables calls s.store) (u : Table) (status : Status)
      (has : HasBlock (fold (λ blocks call. after call blocks) s.store calls) u.name u.size) where
    registers_after : Noted (then_call calls note (instead (not_kept s row t)) (registered s row u status))
    registers_after = by note.outcome refl where
      left : State
      left = record s { store = left_by calls note s.store }

      still : AreBacked left
      still = calls_backed s calls note backed suit

      by : (outcome : Outcome) → note.outcome ≡ outcome → Noted (by_outcome outcome (with_calls calls note (registered s row u status)) (instead (not_kept s row t) (with_calls calls note (registered s row u status))) (stopped note (with_calls calls note (registered s row u status))))
      by Untouched is ended = absurd (some (rw is at ended).0)
      by Done is ended = registered_backed left row u still free (λ critical. (few, rw (all_done calls note s.store (rw is at ended).1) has))
      by Failed is ended = adds left (uncritical t) still refl (plain_options t)
      by Stopped is ended = boot_backed Processor note (record left { tables = added row u s.tables }) still.single

  not_kept_noted : Noted (not_kept s row t)
  not_kept_noted ended = adds s (uncritical t) backed refl (plain_options t)

  module _ (few : critical_count s.tables < critical_limit) where
    -- its block is restored
    recovers : has_size t.size (option_and_then (stored_at s.store) (open_of of_table t.name s.store)) ≡ true
        → Noted (then_call (restore (unwrap_or (open_of of_table t.name s.store) 0) (restored_image note) ∷ []) note (instead (not_kept s row t)) (recovered s row t (restored_image note)))
    recovers sized = registers_after few _ (λ none. cc none) (tt, tt) (with_first (restored_image note) t) _
        (change_keeps s.store (unwrap_or (open_of of_table t.name s.store) 0) _ t.name t.size (λ b. refl) (λ b. refl) (has_block t s.store (open_is_block t s.store sized)))

    -- or it is newly made
    makes : has_room t.size (any_of of_table t.name s.store) s.store ≡ true → Noted (then_call (renewal of_table t.name t.size (open_of of_table t.name s.store)) note (instead (not_kept s row t)) (registered s row t SUCCESS))
    makes room = registers_after few (renewal of_table t.name t.size (open_of of_table t.name s.store)) (some (open_of of_table t.name s.store)) (table_renewal_suits s.tables s.store t.name t.size backed.single new) t SUCCESS
        (renewal_has t.name t.size s.store backed.single room)
      where
        some : (old : Option ℕ) → renewal of_table t.name t.size old ≢ []
        some None = λ none. cc none
        some (Some slot) = λ none. cc none

    keeps : Noted (kept_effect s row t note (open_of of_table t.name s.store))
    keeps = cond_both (has_size t.size (option_and_then (stored_at s.store) (open_of of_table t.name s.store))) _ _ Noted recovers (λ _.
        cond_both (not (has_room t.size (any_of of_table t.name s.store) s.store)) _ _ Noted (λ _. not_kept_noted) (λ room. makes (not-false _ room)))

  pub registers : Noted (new_effect s row t note)
  registers = cond_both (is_critical t) _ _ Noted
      (λ _. cond_both (nat_le critical_limit (critical_count s.tables)) _ _ Noted (λ _. not_kept_noted) (λ few. keeps (leb-false critical_limit (critical_count s.tables) few)))
      (λ plain ended. adds s (as_registered t) backed refl plain)

-- ---- all requests

module _ (s : State) (backed : AreBacked s) (given : Given) where
  abbrev Backs : Effect → Type 0
  Backs e = AreBacked e.next

  refused : (e : Effect) → e.next ≡ s → e.events ≡ [] → e.calls ≡ [] → is_refusal e.status ≡ true → Backs e
  refused e is no_events no_calls refuses = rw is backed

  on : (next : State) → Descends s.tables next.tables → next.store ≡ s.store → AreBacked next
  on next descends store = descends_backed s next backed descends store

  same : (next : State) → next.tables.rows ≡ s.tables.rows → next.store ≡ s.store → AreBacked next
  same next rows store = on next (same_descends s.tables next.tables rows) store

  -- calls that suit the tables
  called : (calls : List StoreCall) (e : Effect) → e.next ≡ s → SuitAll s.tables calls s.store → Backs (then_call calls given.note faulted e)
  called calls e is suit = by given.note.outcome where
    left : AreBacked (record e.next { store = left_by calls given.note e.next.store })
    left = subst (λ (x : State). AreBacked (record x { store = left_by calls given.note x.store })) (sym is) (calls_backed s calls given.note backed suit)

    by : (outcome : Outcome) → Backs (by_outcome outcome (with_calls calls given.note e) (faulted (with_calls calls given.note e)) (stopped given.note (with_calls calls given.note e)))
    by Untouched = left
    by Done = left
    by Failed = left
    by Stopped = boot_backed Processor given.note (record e.next { store = left_by calls given.note e.next.store }) left.single

  copies : Copies given.note Backs
  copies = record {
    left = λ slot image e p. calls_backed e.next (copy slot image ∷ []) given.note p (tt, tt);
    fails = λ row slot e failed p. p;
    stops = λ e stop p. boot_backed Processor given.note e.next p.single;
  }

  exited : (app : ℕ) → AreBacked (ended_app app (without_handles_of app s))
  unfolding without_handles_of
  exited app = let left = gives_up_all app s (range_with_len 0 (length s.tables.handles)) backed in record { each = left.each; few = left.few; single = left.single }

  judged_at : (row : ℕ) (active : Bool) → Descends s.tables (marked row active (verdict_at 0 given) s.tables)
  judged_at row active = mark_descends s.tables row active (verdict_at 0 given)

  commands : Commands s given.note Backs
  unfolding housekeeping_effect dumps_ended
  commands = record {
    about = λ e table p. p;
    accepted = backed;
    housekeeping = ends (rows_where is_filled 0 s.tables.rows) (record { state = s; bytes = []; events = [] }) backed;
    loaded = λ name file row t there none. on _ (load_descends s.tables row file.offset file.image name) refl;
    pends = λ row t active there none function. same _ refl refl;
    at_once = λ row t active there none no_function. on _ (mark_descends s.tables row active (pos 0)) refl;
    asks = λ row t there none. on _ (changed_descends s.tables row (λ u. record u { activation = true }) (λ u. refl)) refl;
    aborted = λ row t there open_load. on _ (changed_descends s.tables row (λ u. record u { load = None; activation = false }) (λ u. refl)) refl;
    shown = λ row. backed;
    deletes = λ name slot block none. called (delete slot ∷ []) (answered s SUCCESS 0) refl (table_delete_suits s.tables s.store name slot block none);
    written = λ row file bytes free. rw free (same _ refl refl);
    dump_requested = λ file row t there only none. rw none (on _ (changed_descends s.tables row (λ u. record u { dump = requested file }) (λ u. refl)) refl);
  }

  pub backs : (actor : Actor) (request : Request) → OfEffect (λ e. IsNoteOf request e.calls s.store given.note → AreBacked e.next) (effect_of s actor request given)
  backs Ground (ask.Command bytes) = λ noted. by_command s given.note Backs refused commands bytes.list
  backs Ground (ask.File file) = λ noted. by_file s Backs refused file.name file.bytes (same _ refl refl)
  backs Ground (ask.Time seconds sub) = λ noted. same _ refl refl
  backs Ground (ask.Reset kind) = λ noted. boot_backed kind given.note s backed.single
  backs Ground request = tt
  backs (App app) (ask.Start name) = λ noted. by_start s Backs refused app name (same _ refl refl)
  backs (App app) (ask.Register short size flags validator) = λ noted.
      by_new s (λ e. Ends given.note.outcome e.calls s.store given.note → AreBacked e.next) (λ e is no_events no_calls refuses ended. rw is backed) app short size flags validator given.note
      (λ name row handle plan new free_row free_handle. registers s backed given.note row free_row (new_table name app size flags validator handle) new) noted.ends
  backs (App app) (ask.Share name) = λ noted. by_share s Backs refused app name (λ row handle free. same _ refl refl)
  backs (App app) (ask.Unregister handle) = λ noted. by_unregister s Backs refused app handle (λ h place own. gives_up s handle backed)
  backs (App app) (ask.LoadImage handle image) = λ noted. by_load_image s Backs refused given (λ row t bytes number verdict there is one bad. backed) copies app handle image.list
      (λ row t there none plain. on _ (image_descends s.tables row image.list s.seconds s.sub) refl) (λ row t number verdict there none is one good. on _ (image_descends s.tables row image.list s.seconds s.sub) refl)
  backs (App app) (ask.LoadFile handle name) = λ noted. by_load_file s Backs refused given (λ row t bytes number verdict there is one bad. backed) copies app handle name
      (λ row t file there open_to none plain. on _ (file_descends s.tables row _ s.seconds s.sub name) refl) (λ row t file number verdict there open_to none is one good. on _ (file_descends s.tables row _ s.seconds s.sub name) refl)
  backs (App app) (ask.Update handle) = λ noted. by_update s Backs refused app handle given.note copies (λ row t there none. on _ (update_descends s.tables row s.seconds s.sub) refl)
  backs (App app) (ask.Validate handle) = λ noted. by_app_validate s Backs refused app handle given (λ row t active there first. on _ (judged_at row active) refl)
  backs (App app) (ask.Manage handle) = λ noted. by_manage s Backs refused app handle given copies (λ row t there. on _ (managed_descends row given s) (managed_store row given s))
  backs (App app) (ask.DumpToBuffer handle) = λ noted. by_dump_to_buffer s Backs refused app handle (λ row t there is. on _ (changed_descends s.tables row (λ u. record u { dump = filled_with (last_image u) u.dump }) (λ u. refl)) refl)
  backs (App app) (ask.Edit handle offset bytes) = λ noted. by_edit s Backs refused app handle offset bytes.list (λ row t there none. on _ (put_descends s.tables row _) refl)
  backs (App app) (ask.Get handle) = λ noted. by_get s Backs refused app handle (λ a leads some. same _ refl refl)
  backs (App app) (ask.Read handle offset len) = λ noted. by_read s Backs refused app handle offset len (λ a leads pinned inside. backed)
  backs (App app) (ask.Release handle) = λ noted. by_release s Backs refused app handle (λ a leads pinned. rw pinned (on _ (set_descends s.tables a.row a.table (drop_before (slice_set s.tables.handles handle (Some (record a.handle { pin = None }))) a.row a.table) _ leads.there refl) refl))
  backs (App app) (ask.GetStatus handle) = λ noted. by_get_status s Backs refused app handle (λ row t. backed)
  backs (App app) (ask.GetInfo name) = λ noted. by_info s Backs refused app name (λ t. backed)
  backs (App app) (ask.Notify handle msg code parameter) = λ noted. by_notify s Backs refused app handle msg code parameter (λ row t there is. on _ (changed_descends s.tables row (λ u. record u { notice = Some (record { msg = msg; code = code; parameter = parameter }) }) (λ u. refl)) refl)
  backs (App app) ask.Exit = λ noted. by_exit s Backs refused app (exited app)
  backs (App app) (ask.CdsRegister name size) = λ noted. makes_block s Backs refused app name size given.note (λ full.
      called (renewal of_app full size (open_of of_app full s.store)) (answered s SUCCESS (new_slot of_app full (open_of of_app full s.store) s.store)) refl (app_renewal_suits s.tables s.store full size backed.single))
  backs (App app) (ask.CdsCopy slot image) = λ noted. copies_block s Backs refused app slot image.list given.note (called (copy slot image.list ∷ []) (answered s SUCCESS 0) refl (tt, tt))
  backs (App app) (ask.CdsRestore slot) = λ noted. restores_block s Backs refused app slot given.note (λ e is no_events quiet. called (restore slot (restored_image given.note) ∷ []) e is (tt, tt))
  backs (App app) (ask.CdsDelete slot) = λ noted. deletes_block s Backs refused app slot given.note (λ b there own. called (delete slot ∷ []) (answered s SUCCESS 0) refl (app_delete_suits s.tables s.store slot b there own))
  backs (App app) request = tt

-- each request keeps it, by a note that it may leave
pub stays_backed : (s : State) (actor : Actor) (request : Request) (given : Given) (note : BankNote) (e : Effect) → AreBacked s → effect_of s actor request given ≡ Some e → given.note ≡ note → IsNoteOf request e.calls s.store note → AreBacked e.next
stays_backed s actor request given note e backed is same noted = subst (OfEffect (λ (f : Effect). IsNoteOf request f.calls s.store given.note → AreBacked f.next)) is (backs s backed given actor request) (rw same noted)
