-- A critical table is entered into the registry: from how the calls for its block ended to what the model says of the request.
use Rattle.std.proofs.Common.{◌≡◌, ◌≢◌, ℕ, ◌+◌, List, [], ◌∷◌, length, take, Bool, false, Option, Some, None, Result, Ok, Err, refl, sym, ◌∙◌, ap, subst}
use Rattle.std.specs.Prelude.{slice_get}
use Rattle.std.specs.Option.{ForSome, option_map}
use Rattle.std.proofs.lemmas.Option.{same_Some}
use Rattle.tbl_kinds.specs.Blocks.{Store as Blocks}
use Rattle.tbl_kinds.specs.Buffers.{Buffer}
use Rattle.tbl_kinds.specs.StoreCalls.{StoreCall, restore, after, after_first, broken, CanBreak}
use Rattle.tbl_kinds.specs.StoreSteps.{stored_at}
use Rattle.tbl_kinds.specs.Notes.{untouched}
use Rattle.tbl_kinds.specs.declared.note.BankNote.{BankNote}
use Rattle.tbl_kinds.specs.declared.note.Outcome.TheVariants.{Stopped}
use Rattle.tbl_kinds.specs.declared.request.ResetKind.TheVariants.{Processor}
use Rattle.tbl_kinds.specs.declared.status.Status.{Status}
use Rattle.tbl_kinds.specs.declared.status.TheConstants.Status.{SUCCESS, INFO_STOPPED, INFO_RECOVERED_TBL, WARN_NOT_CRITICAL}
use Rattle.tbl_model.specs.State.{State, Table, Tables}
use Rattle.tbl_model.specs.TableSteps.{with_first, uncritical, added}
use Rattle.tbl_model.specs.Effects.{answered}
use Rattle.tbl_model.specs.Boots.{boot, stopped}
use Rattle.tbl_model.specs.StoreUse.{left_by, then_broken, then_call}
use Rattle.tbl_model.specs.StoreNotes.{NoGate, is_restore, MayGo, MayGoOn, Tells}
use Rattle.tbl_model.specs.CriticalTables.{registered, not_kept, recovered, instead}
use Rattle.sharing.specs.Registering.{next_row, next_handle}
use Rattle.cds_layout.specs.declared.blocks.RestoreFault.{RestoreFault}
use Rattle.cds_layout.proofs.Restored.{unheld}
use Rattle.cds_layout.specs.Images.{store_of}
use Rattle.cds_layout.specs.Restores.{TellsTorn, words}
use Rattle.cds_store.specs.Calls.{is_gate, is_old}
use Rattle.cds_store.specs.Sound.{slot_at}
use Rattle.cds_store.specs.StoreBlocks.{StoreParts, StandsFor, held_at, after_words, after_fault}
use Rattle.cds_store.specs.declared.fault.BankFault.{BankFault}
use Rattle.cds_store.specs.declared.fault.BankFault.TheVariants.{Fault, Stopped as Cut}
use Rattle.cds_store.specs.declared.fault.ReserveFault.{ReserveFault}
use Rattle.cds_store.specs.declared.fault.ReserveFault.TheVariants.{NoRoom, Bank}
use Rattle.request_effects.specs.Effects.{IsEffect, Effect}
use Rattle.store_requests.specs.BankCalls.{AsksIn}
use Rattle.store_requests.proofs.BankCalls.{words_outcome, read_outcome}
use Rattle.store_requests.specs.Called.{with_boot, broken_note, done_note, reserve_note, torn_note, unasked, IsCalled, Calls, Leaving}
use Rattle.tbl_session.specs.Restores.{RestoresHeld}
use Rattle.store_requests.specs.Entering.{Enters, EntersBroken, EntersRecovered, EntersWithout, EntersRestored, EntersReserved}
use Rattle.store_requests.specs.Registering.{recovery}
use Rattle.store_requests.proofs.Calls.{told_so, by_note, broke_held}
use Rattle.tbl_session.specs.Crashes.{DuringCalls, writes}
use Rattle.store_requests.proofs.CriticalTables.{there}
use Rattle.tbl_outside.specs.declared.bank.Bank.{Ghosts}
use Rattle.cds_store.specs.Promises.{Restores}
use Rattle.store_requests.proofs.RestoreCalls.{image_held, torn_held, gives_image, gives_none}

-- ---- the effect

-- the answer and the tables are those of this registration
entered : (s : State) (old new : Tables) (u : Table) (done : Effect) (status : Status) (note : BankNote) → s.tables ≡ old → u.handle ≡ next_handle old → Enters old new u done status note → (left : Blocks)
    → IsEffect done [] (record s { tables = new; store = left }) (record (answered s status u.handle) { next = record s { tables = added (next_row old) u s.tables; store = left } })
entered s old new u done status note same handle enters left = record {
  status = sym enters.told.status_is;
  detail = handle ∙ sym enters.told.detail_is;
  bytes = sym enters.told.bytes_are;
  table = sym enters.told.silent.table;
  events = sym enters.told.silent.events;
  shown = sym enters.told.silent.shown;
  questions = refl;
  calls = refl;
  notice = sym enters.told.silent.notice;
  next = ap (λ (tables : Tables). record s { tables = tables; store = left }) (ap (added (next_row old) u) same ∙ sym enters.tables);
}

module _ {B : Type 0} (g : Ghosts B) (first kept : StoreParts B) (s : State) (done : Effect) (old new : Tables) (t : Table) (same : s.tables ≡ old) (handle : t.handle ≡ next_handle old) where
  abbrev row : ℕ
  row = next_row old

  abbrev changed : State
  changed = record s { tables = new }

  -- the store isn't called
  pub enters_alone : Leaving g first kept (DuringCalls [] s.store) → AsksIn g first kept done.note.outcome [] → (u : Table) (status : Status) → u.handle ≡ next_handle old → Enters old new u done status untouched → StandsFor g.tells g.now kept s.store → Calls g first kept changed done (λ n. registered s row u status)
  enters_alone moments asked u status at enters stands = by_note g first kept changed done (λ n. registered s row u status) untouched enters.told.note_is (λ ended stopped found. record {
    blocks = stands;
    effect = entered s old new u done status untouched same at enters s.store;
    ends = (refl, refl, (refl, refl));
    gave = tt;
    says = (refl, refl);
    writing = λ stop. refl;
    moments = moments;
    asked = asked;
    held = tt;
  })

  module _ (calls : List StoreCall) (u : Table) (status : Status) (note : BankNote) where
    -- all calls are done
    pub enters_done : Leaving g first kept (DuringCalls (writes calls) s.store) → AsksIn g first kept done.note.outcome calls → u.handle ≡ next_handle old → Enters old new u done status (done_note note) → StandsFor g.tells g.now kept (left_by calls (done_note note) s.store)
        → calls ≢ [] → note.done + 1 ≡ length calls → NoGate note
        → MayGoOn (take (note.done + 1) calls) s.store → ((n : BankNote) → n.restored ≡ note.restored → n.torn ≡ note.torn → Tells (take (note.done + 1) calls) n)
        → ((n : BankNote) → n.restored ≡ note.restored → n.torn ≡ note.torn → RestoresHeld (g.now first.bank) calls s.store n)
        → (ended stopped : Bool) (found : List ℕ)
        → IsCalled g first kept (unasked changed) done (with_boot ended stopped found (done_note note)) (then_call calls (with_boot ended stopped found (done_note note)) (instead (not_kept s row t)) (registered s row u status))
    enters_done moments asked at enters stands some many no_gate gave says held ended stopped found = record {
      blocks = stands;
      effect = entered s old new u done status (done_note note) same at enters (left_by calls (done_note note) s.store);
      ends = (some, many, no_gate);
      gave = gave;
      says = says (with_boot ended stopped found (done_note note)) refl refl;
      writing = λ stop. absurd (cc stop);
      moments = moments;
      asked = asked;
      held = held (with_boot ended stopped found (done_note note)) refl refl;
    }

    -- the next one broke off
    pub enters_broke : Leaving g first kept (DuringCalls (writes calls) s.store) → AsksIn g first kept done.note.outcome calls → (call : StoreCall) → slice_get calls note.done ≡ Some call → (fault : BankFault) → EntersBroken old new t done fault note
        → StandsFor g.tells g.now kept (broken (is_gate fault) (is_old fault) call (after_first note.done calls s.store))
        → CanBreak (is_gate fault) (is_old fault) call (after_first note.done calls s.store) → ((broken_note fault note).outcome ≡ Stopped → (is_restore call ≡ false) × (writes calls ≡ calls))
        → MayGoOn (take note.done calls) s.store → ((n : BankNote) → n.restored ≡ note.restored → n.torn ≡ note.torn → Tells (take note.done calls) n)
        → (ended stopped : Bool) (found : List ℕ)
        → IsCalled g first kept (unasked changed) done (with_boot ended stopped found (broken_note fault note)) (then_call calls (with_boot ended stopped found (broken_note fault note)) (instead (not_kept s row t)) (registered s row u status))
    enters_broke moments asked call next (Fault gate prior) enters stands can writes gave says ended stopped found =
        let n = broken_note (Fault gate prior) note in record {
          blocks = subst (λ o. StandsFor g.tells g.now kept (then_broken n o (after_first note.done calls s.store))) (sym next) stands;
          effect = entered s old new (uncritical t) done WARN_NOT_CRITICAL n same handle enters (left_by calls n s.store);
          ends = record { call = call; next = next; breaks = can };
          gave = gave;
          says = says (with_boot ended stopped found n) refl refl;
          writing = λ stop. absurd (cc stop);
          moments = moments;
          asked = asked;
          held = broke_held (g.now first.bank) calls s.store (with_boot ended stopped found n) (λ is. cc is);
        }
    enters_broke moments asked call next (Cut gate prior) enters stands can stops gave says ended stopped found =
        let n = broken_note (Cut gate prior) note in
        let left = boot Processor (with_boot ended stopped found n) (record s { store = left_by calls n s.store }) in record {
          blocks = subst (λ o. StandsFor g.tells g.now kept (then_broken n o (after_first note.done calls s.store))) (sym next) stands;
          effect = told_so left left done INFO_STOPPED 0 [] n enters.0;
          ends = (record { call = call; next = next; breaks = can }, (stops refl).0);
          gave = gave;
          says = says (with_boot ended stopped found n) refl refl;
          writing = λ stop. (stops refl).1;
          moments = moments;
          asked = asked;
          held = broke_held (g.now first.bank) calls s.store (with_boot ended stopped found n) (λ is. cc is);
        }

  -- the note is this one, if the call broke off
  pub broken_is : (fault : BankFault) (note : BankNote) → EntersBroken old new t done fault note → done.note ≡ broken_note fault note
  broken_is (Fault gate prior) note enters = enters.told.note_is
  broken_is (Cut gate prior) note enters = enters.0.note_is

  -- by how the last call ended
  pub reserved_note : (made : Result ℕ ReserveFault) (note : BankNote) → EntersReserved old new t done made note → done.note ≡ reserve_note made note
  reserved_note (Ok slot) note enters = enters.told.note_is
  reserved_note (Err NoRoom) note enters = enters.told.note_is
  reserved_note (Err (Bank fault)) note enters = broken_is fault note enters

  pub restored_outcome : (ended : Result Unit RestoreFault) (image : List ℕ) → EntersRestored old new t done ended image → done.note.outcome ≡ read_outcome ended
  restored_outcome (Ok x) image enters = ap (λ (n : BankNote). n.outcome) enters.noted.done
  restored_outcome (Err broke) image enters = by (words broke) enters where
    by : (w : Option ℕ) → EntersWithout old new t done w → done.note.outcome ≡ words_outcome w
    by (Some told) enters = ap (λ (n : BankNote). n.outcome) enters.told.note_is
    by None enters = ap (λ (n : BankNote). n.outcome) (broken_is (Fault false false) untouched enters)

  -- ---- its block is restored

  module _ (slot : ℕ) (tells : g.tells) (stands : StandsFor g.tells g.now first s.store) (moments : Leaving g first kept (DuringCalls [] s.store)) (asked : AsksIn g first kept done.note.outcome (restore slot None ∷ [])) where
    abbrev Recovers : Type 0
    Recovers = Calls g first kept changed done (recovery s row t slot)

    enters_recovered : (image : List ℕ) → held_at slot (store_of (g.now first.bank)) ≡ Some image → ForSome (stored_at s.store slot) (λ b. length image ≡ b.block.size)
        → StandsFor g.tells g.now kept (after (restore slot (Some image)) s.store) → EntersRecovered old new t done image → Recovers
    enters_recovered image held sized left recovered =
        by done.note.restored recovered.noted.gave (subst (λ (n : BankNote). Enters old new (with_first (Some image) t) done INFO_RECOVERED_TBL n) recovered.noted.done recovered.enters) where
          by : (gave : Option Buffer) → option_map (λ (b : Buffer). b.list) gave ≡ Some image → Enters old new (with_first (Some image) t) done INFO_RECOVERED_TBL (record (done_note untouched) { restored = gave }) → Recovers
          by None is enters = absurd (cc is)
          by (Some b) is enters =
              let whole : b.list ≡ image = same_Some b.list image is in
              by_note g first kept changed done (recovery s row t slot) (record (done_note untouched) { restored = Some b }) enters.told.note_is
              (enters_done (restore slot (Some b.list) ∷ []) (with_first (Some b.list) t) INFO_RECOVERED_TBL (record untouched { restored = Some b }) moments asked handle
              (subst (λ (i : List ℕ). Enters old new (with_first (Some i) t) done INFO_RECOVERED_TBL (record (done_note untouched) { restored = Some b })) (sym whole) enters)
              (subst (λ (i : List ℕ). StandsFor g.tells g.now kept (after (restore slot (Some i)) s.store)) (sym whole) left) (λ is. cc is) refl (refl, refl)
              (subst (λ (i : List ℕ). MayGo (restore slot (Some i)) s.store) (sym whole) (λ b there. (gives_image (g.now first.bank) s.store slot image (stands.shows tells) held b there, sized b there)), tt)
              (λ n restored torn. (ap (option_map (λ (b : Buffer). b.list)) restored, λ given. torn))
              (λ n restored torn went. image_held (g.now first.bank) s.store slot image n (stands.shows tells) held (ap (option_map (λ (b : Buffer). b.list)) restored ∙ is)))

    enters_without : with_first None t ≡ t → (broke : RestoreFault) → ForSome (slot_at first.slots slot) (λ b. TellsTorn (g.now first.bank) slot b.block broke)
        → ((blocks : Blocks) → StandsFor g.tells g.now first blocks → StandsFor g.tells g.now kept (after_fault broke slot blocks)) → EntersWithout old new t done (words broke) → Recovers
    enters_without fresh broke none left enters = by (words broke) refl (left s.store stands) enters where
      by : (w : Option ℕ) → words broke ≡ w → StandsFor g.tells g.now kept (after_words w slot s.store) → EntersWithout old new t done w → Recovers
      by (Some told_words) is there enters =
          let gives = gives_none (g.now first.bank) s.store slot first.slots stands.slots (stands.holds tells) (λ b at. (unheld (g.now first.bank) slot b.block broke told_words is (none b at)).no_image) in
          by_note g first kept changed done (recovery s row t slot) (torn_note told_words) enters.told.note_is
          (enters_done (restore slot None ∷ []) (with_first None t) SUCCESS (record untouched { torn = told_words }) moments asked handle (subst (λ (u : Table). Enters old new u done SUCCESS (torn_note told_words)) (sym fresh) enters) there (λ is. cc is) refl (refl, refl) ((λ b at. (gives b at, tt)), tt)
          (λ n restored torn. (ap (option_map (λ (b : Buffer). b.list)) restored, λ given. absurd (cc given)))
          (λ n restored torn went. torn_held (g.now first.bank) s.store slot first.slots broke told_words n stands.slots is none (ap (option_map (λ (b : Buffer). b.list)) restored) torn))
      by None is there enters =
          by_note g first kept changed done (recovery s row t slot) (broken_note (Fault false false) untouched) (broken_is (Fault false false) untouched enters)
          (enters_broke (restore slot None ∷ []) (with_first None t) SUCCESS untouched moments asked (restore slot None) refl (Fault false false) enters there (refl, refl) (λ is. absurd (cc is)) tt (λ n restored torn. (restored, torn)))

    pub enters_restored : with_first None t ≡ t → (size : ℕ) (image : List ℕ) (ended : Result Unit RestoreFault) → Restores g first kept slot size image ended → EntersRestored old new t done ended image
        → ForSome (stored_at s.store slot) (λ b. length image ≡ b.block.size) → Recovers
    enters_restored fresh size image (Ok x) restores enters sized = enters_recovered image (restores.image tells) sized (restores.ok s.store stands) enters
    enters_restored fresh size image (Err broke) restores enters sized = enters_without fresh broke (restores.torn tells) restores.err enters
