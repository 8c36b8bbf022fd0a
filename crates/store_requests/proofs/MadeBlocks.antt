-- The block of a critical table is made: from how the last call ended to what the model says of the registration.
use Rattle.std.proofs.Common.{◌≡◌, ℕ, [], ◌∷◌, true, false, not, Some, None, Result, Ok, Err, refl, sym, ◌∙◌, subst}
use Rattle.std.specs.Prelude.{OnOk, IfErr}
use Rattle.tbl_kinds.specs.Blocks.{Store as Blocks}
use Rattle.tbl_kinds.specs.StoreCalls.{reserve, delete, after, broken, CanBreak}
use Rattle.tbl_kinds.specs.StoreSteps.{open_of, doubtful_of, has_room}
use Rattle.tbl_kinds.specs.Notes.{untouched}
use Rattle.tbl_kinds.specs.declared.block.BlockKind.TheVariants.{Table as of_table}
use Rattle.tbl_kinds.specs.declared.status.TheConstants.Status.{SUCCESS, WARN_NOT_CRITICAL}
use Rattle.tbl_model.specs.State.{State, Table, Tables}
use Rattle.tbl_model.specs.TableSteps.{uncritical}
use Rattle.tbl_model.specs.CriticalTables.{not_kept, kept_effect}
use Rattle.sharing.specs.Registering.{next_row, next_handle}
use Rattle.cds_store.specs.Calls.{HasFlags, IfBank, lacks_room, is_gate, is_old}
use Rattle.cds_store.specs.Slots.{doubtful_slot}
use Rattle.cds_store.specs.StoreBlocks.{StoreParts, StandsFor}
use Rattle.cds_store.proofs.Reservations.{doubtful_same}
use Rattle.cds_store.specs.declared.fault.BankFault.{BankFault}
use Rattle.cds_store.specs.declared.fault.ReserveFault.{ReserveFault}
use Rattle.cds_store.specs.declared.fault.ReserveFault.TheVariants.{NoRoom, Bank}
use Rattle.store_requests.specs.BankCalls.{AsksIn}
use Rattle.store_requests.proofs.BankCalls.{asked_none}
use Rattle.store_requests.specs.Called.{broken_note, done_note, Calls, Leaving}
use Rattle.store_requests.specs.Entering.{EntersBroken, EntersReserved}
use Rattle.store_requests.specs.Registering.{making}
use Rattle.request_effects.specs.Effects.{Effect}
use Rattle.store_requests.proofs.Calls.{by_note, calls_same}
use Rattle.tbl_session.specs.Crashes.{DuringCalls}
use Rattle.tbl_outside.specs.Bank.{LeavesOnly}
use Rattle.cds_store.specs.Moments.{LeavesIn}
use Rattle.store_requests.proofs.Moments.{one_leaves}
use Rattle.store_requests.proofs.Reserved.{not_lacking, lacking}
use Rattle.store_requests.proofs.CriticalTables.{any_is, kept_made, kept_full}
use Rattle.tbl_outside.specs.declared.bank.Bank.{Ghosts}
use Rattle.store_requests.proofs.Entries.{enters_alone, enters_done, enters_broke, broken_is}

module _ {B : Type 0} (g : Ghosts B) (first kept : StoreParts B) (s : State) (done : Effect) (old new : Tables) (t : Table) (same : s.tables ≡ old) (handle : t.handle ≡ next_handle old) where
  abbrev row : ℕ
  row = next_row old

  abbrev changed : State
  changed = record s { tables = new }

  module _ (before : StoreParts B) where
    abbrev Made : Result ℕ ReserveFault → Type 0
    Made result = OnOk result ((blocks : Blocks) → StandsFor g.tells g.now before blocks → StandsFor g.tells g.now kept (after (reserve of_table t.name t.size) blocks))

    abbrev Full : Result ℕ ReserveFault → Type 0
    Full result = (blocks : Blocks) → StandsFor g.tells g.now before blocks → lacks_room result ≡ not (has_room t.size (doubtful_of of_table t.name blocks) blocks)

    abbrev Broke : Result ℕ ReserveFault → Type 0
    Broke result = IfErr result (λ fault. IfBank fault (λ fault. (blocks : Blocks) → StandsFor g.tells g.now before blocks → StandsFor g.tells g.now kept (broken (is_gate fault) (is_old fault) (reserve of_table t.name t.size) blocks)))

    abbrev Breaks : Result ℕ ReserveFault → Type 0
    Breaks result = IfErr result (λ fault. IfBank fault (λ fault. (blocks : Blocks) → StandsFor g.tells g.now before blocks → CanBreak (is_gate fault) (is_old fault) (reserve of_table t.name t.size) blocks))

    -- if there is no open block of its name
    pub new_reserved : (result : Result ℕ ReserveFault) → (g.tells_moments → LeavesOnly g.clock g.left_since first.bank kept.bank (LeavesIn (reserve of_table t.name t.size) s.store)) → AsksIn g first kept done.note.outcome (reserve of_table t.name t.size ∷ []) → (kept ≡ before → Leaving g first kept (DuringCalls [] s.store)) → open_of of_table t.name s.store ≡ None → StandsFor g.tells g.now before s.store
        → Made result → Full result → (lacks_room result ≡ true → kept ≡ before) → Broke result → Breaks result → EntersReserved old new t done result untouched
        → Calls g first kept changed done (λ n. kept_effect s row t n None)
    new_reserved (Ok slot) left asked still none stands ok full untouched' err breaks enters =
        calls_same g first kept changed done (making s row t None) (λ n. kept_effect s row t n None)
        (λ n. kept_made s row t n None (doubtful_of of_table t.name s.store) (any_is s t None none) refl (not_lacking (has_room t.size (doubtful_of of_table t.name s.store) s.store) (full s.store stands)))
        (by_note g first kept changed done (making s row t None) (done_note untouched) enters.told.note_is
        (enters_done g first kept s done old new t same handle (reserve of_table t.name t.size ∷ []) t SUCCESS untouched (one_leaves g first kept (reserve of_table t.name t.size) [] s.store left) asked handle enters (ok s.store stands) (λ is. cc is) refl (refl, refl) (tt, tt) (λ n restored torn. (restored, torn)) (λ n restored torn. tt)))
    new_reserved (Err NoRoom) left asked still none stands ok full untouched' err breaks enters =
        calls_same g first kept changed done (λ n. not_kept s row t) (λ n. kept_effect s row t n None)
        (λ n. kept_full s row t n None (doubtful_of of_table t.name s.store) (any_is s t None none) refl (lacking (has_room t.size (doubtful_of of_table t.name s.store) s.store) (full s.store stands)))
        (enters_alone g first kept s done old new t same handle (still (untouched' refl)) (asked_none g first.bank kept.bank done.note _ [] enters.told.note_is asked) (uncritical t) WARN_NOT_CRITICAL handle enters (subst (λ (parts : StoreParts B). StandsFor g.tells g.now parts s.store) (sym (untouched' refl)) stands))
    new_reserved (Err (Bank fault)) left asked still none stands ok full untouched' err breaks enters =
        calls_same g first kept changed done (making s row t None) (λ n. kept_effect s row t n None)
        (λ n. kept_made s row t n None (doubtful_of of_table t.name s.store) (any_is s t None none) refl (not_lacking (has_room t.size (doubtful_of of_table t.name s.store) s.store) (full s.store stands)))
        (by_note g first kept changed done (making s row t None) (broken_note fault untouched) (broken_is g first kept s done old new t same handle fault untouched enters)
        (enters_broke g first kept s done old new t same handle (reserve of_table t.name t.size ∷ []) t SUCCESS untouched (one_leaves g first kept (reserve of_table t.name t.size) [] s.store left) asked (reserve of_table t.name t.size) refl fault enters (err s.store stands) (breaks s.store stands) (λ is. (refl, refl)) tt (λ n restored torn. (restored, torn))))

    -- after the deletion of the one of another size
    pub renewed : (result : Result ℕ ReserveFault) (slot : ℕ) → Leaving g first kept (DuringCalls (delete slot ∷ reserve of_table t.name t.size ∷ []) s.store) → AsksIn g first kept done.note.outcome (delete slot ∷ reserve of_table t.name t.size ∷ []) → StandsFor g.tells g.now before (after (delete slot) s.store) → doubtful_slot of_table t.name before.slots ≡ None → has_room t.size (Some slot) s.store ≡ true
        → Made result → Full result → Broke result → Breaks result → EntersReserved old new t done result (done_note untouched)
        → Calls g first kept changed done (making s row t (Some slot))
    renewed (Ok x) slot moments asked stands alone room ok full err breaks enters =
        by_note g first kept changed done (making s row t (Some slot)) (done_note (done_note untouched)) enters.told.note_is
        (enters_done g first kept s done old new t same handle (delete slot ∷ reserve of_table t.name t.size ∷ []) t SUCCESS (done_note untouched) moments asked handle enters (ok (after (delete slot) s.store) stands) (λ is. cc is) refl (refl, refl) (tt, (tt, tt)) (λ n restored torn. (restored, torn)) (λ n restored torn. tt))
    renewed (Err NoRoom) slot moments asked stands alone room ok full err breaks enters =
        let left = after (delete slot) s.store in
        let none : doubtful_of of_table t.name left ≡ None = sym (doubtful_same of_table t.name before.slots left stands.slots) ∙ alone in
        absurd (cc (lacking (has_room t.size (doubtful_of of_table t.name left) left) (full left stands), none, room))
    renewed (Err (Bank fault)) slot moments asked stands alone room ok full err breaks enters =
        let left = after (delete slot) s.store in
        by_note g first kept changed done (making s row t (Some slot)) (broken_note fault (done_note untouched)) (broken_is g first kept s done old new t same handle fault (done_note untouched) enters)
        (enters_broke g first kept s done old new t same handle (delete slot ∷ reserve of_table t.name t.size ∷ []) t SUCCESS (done_note untouched) moments asked (reserve of_table t.name t.size) refl fault enters (err left stands) (breaks left stands) (λ is. (refl, refl)) (tt, tt) (λ n restored torn. (restored, torn)))

    -- that deletion broke off
    pub delete_lost : (slot : ℕ) (fault : BankFault) → (g.tells_moments → LeavesOnly g.clock g.left_since first.bank kept.bank (LeavesIn (delete slot) s.store)) → AsksIn g first kept done.note.outcome (delete slot ∷ reserve of_table t.name t.size ∷ []) → StandsFor g.tells g.now before s.store → HasFlags true false fault
        → ((blocks : Blocks) → StandsFor g.tells g.now before blocks → StandsFor g.tells g.now kept (broken (is_gate fault) (is_old fault) (delete slot) blocks)) → EntersBroken old new t done fault untouched
        → Calls g first kept changed done (making s row t (Some slot))
    delete_lost slot fault left asked stands flags err enters =
        by_note g first kept changed done (making s row t (Some slot)) (broken_note fault untouched) (broken_is g first kept s done old new t same handle fault untouched enters)
        (enters_broke g first kept s done old new t same handle (delete slot ∷ reserve of_table t.name t.size ∷ []) t SUCCESS untouched (one_leaves g first kept (delete slot) (reserve of_table t.name t.size ∷ []) s.store left) asked (delete slot) refl fault enters (err s.store stands)
        (subst (λ g. CanBreak g (is_old fault) (delete slot) s.store) (sym flags.gate_is) (subst (λ o. CanBreak true o (delete slot) s.store) (sym flags.old_is) (refl, refl)))
        (λ is. (refl, refl)) tt (λ n restored torn. (restored, torn)))
