-- The calls by which a request writes to the store suit the tables: none makes a second block of one kind and name, and none deletes the
-- block of a registered table.
use Rattle.std.proofs.Common.{◌≡◌, ℕ, List, [], ◌∷◌, true, not, Option, Some, None, unwrap_or, refl}
use Rattle.std.specs.Prelude.{nat_le, option_and_then}
use Rattle.std.specs.Option.{option_map_or}
use Rattle.std.proofs.lemmas.Bool.{cond_both}
use Rattle.tbl_kinds.specs.Notes.{restored_image}
use Rattle.tbl_kinds.specs.StoreSteps.{open_of, stored_at, has_room}
use Rattle.tbl_kinds.specs.StoreCalls.{StoreCall, copy, restore, delete}
use Rattle.tbl_model.specs.State.{State, Table}
use Rattle.tbl_model.specs.Tables.{is_critical, critical_count}
use Rattle.tbl_model.specs.TableSteps.{find, new_table}
use Rattle.tbl_model.specs.Effects.{Effect, answered}
use Rattle.tbl_model.specs.Given.{Given}
use Rattle.tbl_model.specs.History.{Run, effect_in}
use Rattle.tbl_session.specs.Crashes.{writes, calls_in}
use Rattle.tbl_model.specs.CriticalTables.{critical_limit, registered, not_kept, recovered, instead, kept_effect}
use Rattle.tbl_model.specs.Registration.{new_effect}
use Rattle.tbl_model.specs.StoreUse.{with_calls, by_outcome, then_call}
use Rattle.tbl_model.specs.AppBlocks.{faulted, any_of, renewal, new_slot, has_size}
use Rattle.tbl_model.specs.Boots.{stopped}
use Rattle.tbl_model.specs.Dumps.{dumps_ended, housekeeping_effect}
use Rattle.tbl_model.specs.Dispatch.{effect_of}
use Rattle.tbl_model.proofs.RefusalAnswers.{is_refusal}
use Rattle.tbl_kinds.specs.declared.block.BlockKind.{BlockKind}
use Rattle.tbl_kinds.specs.declared.block.BlockKind.TheVariants.{Table as of_table, App as of_app}
use Rattle.tbl_kinds.specs.declared.entry.Entry.{Entry}
use Rattle.tbl_kinds.specs.declared.note.Outcome.{Outcome}
use Rattle.tbl_kinds.specs.declared.note.Outcome.TheVariants.{Untouched, Done, Failed, Stopped}
use Rattle.tbl_kinds.specs.declared.request.Actor.{Actor}
use Rattle.tbl_kinds.specs.declared.request.Actor.TheVariants.{Ground, App}
use Rattle.tbl_kinds.specs.declared.request.Request.{Request}
use Rattle.tbl_kinds.specs.declared.request.Request.TheVariants as ask
use Rattle.tbl_kinds.specs.declared.status.TheConstants.Status.{SUCCESS}
use Rattle.tbl_session.specs.Backed.{AreSingle}
use Rattle.tbl_laws.proofs.Calls.{SuitAll, app_renewal_suits, table_renewal_suits, app_delete_suits, table_delete_suits}
use Rattle.tbl_laws.proofs.Cases.{OfEffect, Copies}
use Rattle.tbl_laws.proofs.AddressCases.{by_get, by_read, by_release}
use Rattle.tbl_laws.proofs.ApplicationCases.{by_new, by_start, by_share, by_unregister, by_info, by_notify, by_exit}
use Rattle.tbl_laws.proofs.LoadCases.{by_load_image, by_load_file, by_app_validate, by_update, by_manage, by_get_status, by_dump_to_buffer, by_edit}
use Rattle.tbl_laws.proofs.BlockCases.{makes_block, copies_block, restores_block, deletes_block}
use Rattle.tbl_laws.proofs.CommandCases.{Commands, by_command, by_file}

-- a block that is newly made is only written
renewal_writes : (kind : BlockKind) (name : List ℕ) (size : ℕ) (old : Option ℕ) → writes (renewal kind name size old) ≡ renewal kind name size old
renewal_writes kind name size None = refl
renewal_writes kind name size (Some slot) = refl

module _ (s : State) (single : AreSingle s.store) (given : Given) where
  abbrev Suited : Effect → Type 0
  Suited e = SuitAll s.tables (writes e.calls) s.store

  refused : (e : Effect) → e.next ≡ s → e.events ≡ [] → e.calls ≡ [] → is_refusal e.status ≡ true → Suited e
  refused e is no_events no_calls refuses = rw no_calls tt

  copies : Copies given.note Suited
  copies = record { left = λ slot image e p. (tt, tt); fails = λ row slot e failed p. p; stops = λ e stop p. p }

  -- calls that suit the tables, however they end
  called : (calls : List StoreCall) (failed : Effect → Effect) (e : Effect) → ((left : Effect) → (failed left).calls ≡ left.calls) → SuitAll s.tables (writes calls) s.store → Suited (then_call calls given.note failed e)
  called calls failed e same suit = by given.note.outcome where
    by : (outcome : Outcome) → Suited (by_outcome outcome (with_calls calls given.note e) (failed (with_calls calls given.note e)) (stopped given.note (with_calls calls given.note e)))
    by Untouched = suit
    by Done = suit
    by Failed = rw (same (with_calls calls given.note e)) suit
    by Stopped = suit

  -- a table that is registered
  module _ (row : ℕ) (t : Table) (new : find t.name s.tables ≡ None) where
    renews : SuitAll s.tables (writes (renewal of_table t.name t.size (open_of of_table t.name s.store))) s.store
    renews = rw (renewal_writes of_table t.name t.size (open_of of_table t.name s.store)) (table_renewal_suits s.tables s.store t.name t.size single new)

    keeps : Suited (kept_effect s row t given.note (open_of of_table t.name s.store))
    keeps = cond_both (has_size t.size (option_and_then (stored_at s.store) (open_of of_table t.name s.store))) _ _ Suited
        (λ _. called (restore (unwrap_or (open_of of_table t.name s.store) 0) (restored_image given.note) ∷ []) (instead (not_kept s row t)) (recovered s row t (restored_image given.note)) (λ left. refl) tt)
        (λ _. cond_both (not (has_room t.size (any_of of_table t.name s.store) s.store)) _ _ Suited (λ _. tt)
        (λ _. called (renewal of_table t.name t.size (open_of of_table t.name s.store)) (instead (not_kept s row t)) (registered s row t SUCCESS) (λ left. refl) renews))

    registers : Suited (new_effect s row t given.note)
    registers = cond_both (is_critical t) _ _ Suited (λ _. cond_both (nat_le critical_limit (critical_count s.tables)) _ _ Suited (λ _. tt) (λ _. keeps)) (λ _. tt)

  commands : Commands s given.note Suited
  unfolding housekeeping_effect dumps_ended
  commands = record {
    about = λ e table p. p;
    accepted = tt;
    housekeeping = tt;
    loaded = λ name file row t there none. tt;
    pends = λ row t active there none function. tt;
    at_once = λ row t active there none no_function. tt;
    asks = λ row t there none. tt;
    aborted = λ row t there open_load. tt;
    shown = λ row. tt;
    deletes = λ name slot block none. called (delete slot ∷ []) faulted (answered s SUCCESS 0) (λ left. refl) (table_delete_suits s.tables s.store name slot block none);
    written = λ row file bytes free. rw free tt;
    dump_requested = λ file row t there only none. rw none tt;
  }

  pub suits : (actor : Actor) (request : Request) → OfEffect (λ e. SuitAll s.tables (writes e.calls) s.store) (effect_of s actor request given)
  suits Ground (ask.Command bytes) = by_command s given.note Suited refused commands bytes.list
  suits Ground (ask.File file) = by_file s Suited refused file.name file.bytes tt
  suits Ground (ask.Time seconds sub) = tt
  suits Ground (ask.Reset kind) = tt
  suits Ground request = tt
  suits (App app) (ask.Start name) = by_start s Suited refused app name tt
  suits (App app) (ask.Register short size flags validator) = by_new s Suited refused app short size flags validator given.note
      (λ name row handle plan new free_row free_handle. registers row (new_table name app size flags validator handle) new)
  suits (App app) (ask.Share name) = by_share s Suited refused app name (λ row handle free. tt)
  suits (App app) (ask.Unregister handle) = by_unregister s Suited refused app handle (λ h place own. tt)
  suits (App app) (ask.LoadImage handle image) = by_load_image s Suited refused given (λ row t bytes number verdict there is one bad. tt) copies app handle image.list
      (λ row t there none plain. tt) (λ row t number verdict there none is one good. tt)
  suits (App app) (ask.LoadFile handle name) = by_load_file s Suited refused given (λ row t bytes number verdict there is one bad. tt) copies app handle name
      (λ row t file there open_to none plain. tt) (λ row t file number verdict there open_to none is one good. tt)
  suits (App app) (ask.Update handle) = by_update s Suited refused app handle given.note copies (λ row t there none. tt)
  suits (App app) (ask.Validate handle) = by_app_validate s Suited refused app handle given (λ row t active there first. tt)
  suits (App app) (ask.Manage handle) = by_manage s Suited refused app handle given copies (λ row t there. tt)
  suits (App app) (ask.DumpToBuffer handle) = by_dump_to_buffer s Suited refused app handle (λ row t there is. tt)
  suits (App app) (ask.Edit handle offset bytes) = by_edit s Suited refused app handle offset bytes.list (λ row t there none. tt)
  suits (App app) (ask.Get handle) = by_get s Suited refused app handle (λ a leads some. tt)
  suits (App app) (ask.Read handle offset len) = by_read s Suited refused app handle offset len (λ a leads pinned inside. tt)
  suits (App app) (ask.Release handle) = by_release s Suited refused app handle (λ a leads pinned. tt)
  suits (App app) (ask.GetStatus handle) = by_get_status s Suited refused app handle (λ row t. tt)
  suits (App app) (ask.GetInfo name) = by_info s Suited refused app name (λ t. tt)
  suits (App app) (ask.Notify handle msg code parameter) = by_notify s Suited refused app handle msg code parameter (λ row t there is. tt)
  suits (App app) ask.Exit = by_exit s Suited refused app tt
  suits (App app) (ask.CdsRegister name size) = makes_block s Suited refused app name size given.note (λ full.
      called (renewal of_app full size (open_of of_app full s.store)) faulted (answered s SUCCESS (new_slot of_app full (open_of of_app full s.store) s.store)) (λ left. refl)
      (rw (renewal_writes of_app full size (open_of of_app full s.store)) (app_renewal_suits s.tables s.store full size single)))
  suits (App app) (ask.CdsCopy slot image) = copies_block s Suited refused app slot image.list given.note (called (copy slot image.list ∷ []) faulted (answered s SUCCESS 0) (λ left. refl) (tt, tt))
  suits (App app) (ask.CdsRestore slot) = restores_block s Suited refused app slot given.note (λ e is no_events quiet. called (restore slot (restored_image given.note) ∷ []) faulted e (λ left. refl) tt)
  suits (App app) (ask.CdsDelete slot) = deletes_block s Suited refused app slot given.note (λ b there own. called (delete slot ∷ []) faulted (answered s SUCCESS 0) (λ left. refl) (app_delete_suits s.tables s.store slot b there own))
  suits (App app) request = tt

-- so do those of an entry
pub calls_suit : (r : Run) (e : Entry) → AreSingle r.state.store → SuitAll r.state.tables (calls_in r e) r.state.store
calls_suit r e single = by (effect_in r e) (suits r.state single e.given e.actor e.request) where
  by : (found : Option Effect) → OfEffect (λ effect. SuitAll r.state.tables (writes effect.calls) r.state.store) found → SuitAll r.state.tables (option_map_or (λ (effect : Effect). writes effect.calls) found []) r.state.store
  by None suit = tt
  by (Some effect) suit = suit
