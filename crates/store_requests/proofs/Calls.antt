-- Requests that call the store: from how each call ended to what the model says of the request.
use Rattle.std.proofs.Common.{◌≡◌, ◌≢◌, ℕ, ◌+◌, List, [], ◌∷◌, length, take, Bool, true, false, Option, Some, None, Result, Ok, Err, refl, sym, ◌∙◌, ap, subst}
use Rattle.std.specs.Prelude.{OnOk, IfErr, slice_get, ◌==◌, if◌then◌else◌}
use Rattle.std.proofs.lemmas.Bool.{eq-eqb}
use Rattle.std.proofs.lemmas.Result.{IfErr-weaker}
use Rattle.tbl_kinds.specs.Blocks.{Store as Blocks}
use Rattle.tbl_kinds.specs.StoreCalls.{StoreCall, reserve, copy, restore, delete, after, after_first, broken, CanBreak}
use Rattle.tbl_kinds.specs.Notes.{untouched}
use Rattle.tbl_kinds.specs.declared.note.BankNote.{BankNote}
use Rattle.tbl_kinds.specs.declared.note.Outcome.TheVariants.{Done, Stopped}
use Rattle.tbl_kinds.specs.declared.request.ResetKind.TheVariants.{Processor}
use Rattle.tbl_kinds.specs.declared.status.Status.{Status}
use Rattle.tbl_kinds.specs.declared.status.TheConstants.Status.{SUCCESS, INFO_STOPPED, ERR_CDS_FAULT, ERR_IMAGE_SIZE}
use Rattle.tbl_model.specs.State.{State}
use Rattle.tbl_model.specs.Effects as model
use Rattle.tbl_model.specs.Effects.{answered}
use Rattle.tbl_model.specs.Boots.{boot}
use Rattle.tbl_model.specs.StoreUse.{left_by, then_broken, then_call}
use Rattle.tbl_model.specs.StoreNotes.{NoGate, is_restore, MayGoOn, Tells}
use Rattle.tbl_model.specs.AppBlocks.{faulted}
use Rattle.cds_store.specs.Calls.{HasFlags, is_gate, is_old}
use Rattle.cds_store.specs.StoreBlocks.{StoreParts, StandsFor}
use Rattle.cds_store.specs.declared.fault.BankFault.{BankFault}
use Rattle.cds_store.specs.declared.fault.BankFault.TheVariants.{Fault, Stopped as Cut}
use Rattle.request_effects.specs.Effects.{IsEffect, reported_effect, Effect}
use Rattle.request_effects.specs.Reports.{Reported, nothing_reported}
use Rattle.tbl_session.specs.Crashes.{DuringCalls, writes}
use Rattle.tbl_session.specs.Restores.{RestoresHeld}
use Rattle.tbl_outside.specs.Bank.{LeavesOnly}
use Rattle.cds_store.specs.Moments.{LeavesIn}
use Rattle.store_requests.proofs.Moments.{one_leaves}
use Rattle.store_requests.specs.BankCalls.{AsksIn}
use Rattle.store_requests.specs.Called.{Leaving, with_boot, broken_note, broken_status, done_note, call_note, call_status, IsSilent, IsTold, unasked, IsCalled, Calls}
use Rattle.tbl_model.specs.declared.telemetry.Named.{Named}
use Rattle.tbl_outside.specs.declared.bank.Bank.{Ghosts}

-- ---- the effect

-- what is reported is the answer
pub told_so : (s next : State) (done : Effect) (status : Status) (detail : ℕ) (bytes : List ℕ) (note : BankNote) → IsTold done status detail bytes note
    → IsEffect done [] next (record (answered s status detail) { bytes = bytes; next = next })
told_so s next done status detail bytes note told = record {
  status = sym told.status_is;
  detail = sym told.detail_is;
  bytes = sym told.bytes_are;
  table = sym told.silent.table;
  events = sym told.silent.events;
  shown = sym told.silent.shown;
  questions = refl;
  calls = refl;
  notice = sym told.silent.notice;
  next = refl;
}

pub told_with : {done : Effect} {status : Status} {detail : ℕ} {bytes other : List ℕ} {note is : BankNote} → bytes ≡ other → note ≡ is → IsTold done status detail bytes note → IsTold done status detail other is
told_with {done} {status} {detail} {bytes} {other} {note} {is} same same_note told =
    subst (λ b. IsTold done status detail b is) same (subst (IsTold done status detail bytes) same_note told)

-- it is enough to know it of the note that is given
pub by_note : {B : Type 0} (g : Ghosts B) (first kept : StoreParts B) (s : State) (done : Effect) (means : BankNote → model.Effect) (note : BankNote) → done.note ≡ note
    → ((ended stopped : Bool) (found : List ℕ) → IsCalled g first kept (unasked s) done (with_boot ended stopped found note) (means (with_boot ended stopped found note)))
    → Calls g first kept s done means
by_note g first kept s done means note is all =
    subst (λ (n : BankNote). (ended stopped : Bool) (found : List ℕ) → IsCalled g first kept (unasked s) done (with_boot ended stopped found n) (means (with_boot ended stopped found n))) (sym is) all

-- a call can break off with the flags with which it broke off
pub flags_break : (gate old : Bool) (fault : BankFault) (call : StoreCall) (store : Blocks) → CanBreak gate old call store → HasFlags gate old fault → CanBreak (is_gate fault) (is_old fault) call store
flags_break gate old fault call store can flags =
    subst (λ g. CanBreak g (is_old fault) call store) (sym flags.gate_is) (subst (λ o. CanBreak gate o call store) (sym flags.old_is) can)

-- what broke off gave nothing
pub broke_held : (bytes : List ℕ) (calls : List StoreCall) (blocks : Blocks) (n : BankNote) → n.outcome ≢ Done → RestoresHeld bytes calls blocks n
broke_held bytes [] blocks n goes = tt
broke_held bytes (restore slot image ∷ calls) blocks n goes = λ is. absurd (goes is)
broke_held bytes (copy slot image ∷ calls) blocks n goes = tt
broke_held bytes (delete slot ∷ calls) blocks n goes = tt
broke_held bytes (reserve kind name size ∷ calls) blocks n goes = tt

-- a note that has no restore
abbrev pub Plain : BankNote → Type 0
Plain note = (note.restored ≡ None) × (note.torn ≡ 0)

module _ {B : Type 0} (g : Ghosts B) (first kept : StoreParts B) (s : State) (done : Effect) where
  -- an answer that calls nothing
  pub calls_none : Leaving g first kept (DuringCalls [] s.store) → AsksIn g first kept done.note.outcome [] → (status : Status) (detail : ℕ) → IsTold done status detail [] untouched → StandsFor g.tells g.now kept s.store → Calls g first kept s done (λ n. answered s status detail)
  calls_none moments asked status detail told stands = by_note g first kept s done (λ n. answered s status detail) untouched told.note_is (λ ended stopped found. record {
    blocks = stands;
    effect = told_so s s done status detail [] untouched told;
    ends = (refl, refl, (refl, refl));
    gave = tt;
    says = (refl, refl);
    writing = λ stop. refl;
    moments = moments;
    asked = asked;
    held = tt;
  })

  module _ (calls : List StoreCall) (status : Status) (detail : ℕ) (bytes : List ℕ) (note : BankNote) where
    -- all calls are done
    pub calls_done : Leaving g first kept (DuringCalls (writes calls) s.store) → AsksIn g first kept done.note.outcome calls → IsTold done status detail bytes (done_note note) → StandsFor g.tells g.now kept (left_by calls (done_note note) s.store)
        → calls ≢ [] → note.done + 1 ≡ length calls → NoGate note
        → MayGoOn (take (note.done + 1) calls) s.store → ((n : BankNote) → n.restored ≡ note.restored → n.torn ≡ note.torn → Tells (take (note.done + 1) calls) n)
        → ((n : BankNote) → n.restored ≡ note.restored → n.torn ≡ note.torn → RestoresHeld (g.now first.bank) calls s.store n)
        → (ended stopped : Bool) (found : List ℕ)
        → IsCalled g first kept (unasked s) done (with_boot ended stopped found (done_note note)) (then_call calls (with_boot ended stopped found (done_note note)) faulted (record (answered s status detail) { bytes = bytes }))
    calls_done moments asked told stands some many no_gate gave says held ended stopped found = record {
      blocks = stands;
      effect = told_so s (record s { store = left_by calls (done_note note) s.store }) done status detail bytes (done_note note) told;
      ends = (some, many, no_gate);
      gave = gave;
      says = says (with_boot ended stopped found (done_note note)) refl refl;
      writing = λ stop. absurd (cc stop);
      moments = moments;
      asked = asked;
      held = held (with_boot ended stopped found (done_note note)) refl refl;
    }

    -- the next one broke off
    pub calls_broke : Leaving g first kept (DuringCalls (writes calls) s.store) → AsksIn g first kept done.note.outcome calls → (call : StoreCall) → slice_get calls note.done ≡ Some call → (fault : BankFault)
        → IsTold done (broken_status fault) 0 [] (broken_note fault note)
        → StandsFor g.tells g.now kept (broken (is_gate fault) (is_old fault) call (after_first note.done calls s.store))
        → CanBreak (is_gate fault) (is_old fault) call (after_first note.done calls s.store) → ((broken_note fault note).outcome ≡ Stopped → (is_restore call ≡ false) × (writes calls ≡ calls))
        → MayGoOn (take note.done calls) s.store → ((n : BankNote) → n.restored ≡ note.restored → n.torn ≡ note.torn → Tells (take note.done calls) n)
        → (ended stopped : Bool) (found : List ℕ)
        → IsCalled g first kept (unasked s) done (with_boot ended stopped found (broken_note fault note)) (then_call calls (with_boot ended stopped found (broken_note fault note)) faulted (record (answered s status detail) { bytes = bytes }))
    calls_broke moments asked call next (Fault gate old) told stands can writes gave says ended stopped found =
        let n = broken_note (Fault gate old) note in record {
          blocks = subst (λ o. StandsFor g.tells g.now kept (then_broken n o (after_first note.done calls s.store))) (sym next) stands;
          effect = told_so s (record s { store = left_by calls n s.store }) done ERR_CDS_FAULT 0 [] n told;
          ends = record { call = call; next = next; breaks = can };
          gave = gave;
          says = says (with_boot ended stopped found n) refl refl;
          writing = λ stop. absurd (cc stop);
          moments = moments;
          asked = asked;
          held = broke_held (g.now first.bank) calls s.store (with_boot ended stopped found n) (λ is. cc is);
        }
    calls_broke moments asked call next (Cut gate old) told stands can stops gave says ended stopped found =
        let n = broken_note (Cut gate old) note in
        let booted = boot Processor (with_boot ended stopped found n) (record s { store = left_by calls n s.store }) in record {
          blocks = subst (λ o. StandsFor g.tells g.now kept (then_broken n o (after_first note.done calls s.store))) (sym next) stands;
          effect = told_so booted booted done INFO_STOPPED 0 [] n told;
          ends = (record { call = call; next = next; breaks = can }, (stops refl).0);
          gave = gave;
          says = says (with_boot ended stopped found n) refl refl;
          writing = λ stop. (stops refl).1;
          moments = moments;
          asked = asked;
          held = broke_held (g.now first.bank) calls s.store (with_boot ended stopped found n) (λ is. cc is);
        }

  -- the first call broke off, which writes
  pub first_broke : (call : StoreCall) (more : List StoreCall) → Leaving g first kept (DuringCalls (writes (call ∷ more)) s.store) → AsksIn g first kept done.note.outcome (call ∷ more) → (writes (call ∷ more) ≡ call ∷ more) → (status : Status) (detail : ℕ) (fault : BankFault) (before : StoreParts B)
      → is_restore call ≡ false → CanBreak (is_gate fault) (is_old fault) call s.store → StandsFor g.tells g.now before s.store
      → ((blocks : Blocks) → StandsFor g.tells g.now before blocks → StandsFor g.tells g.now kept (broken (is_gate fault) (is_old fault) call blocks))
      → IsTold done (broken_status fault) 0 [] (broken_note fault untouched)
      → (ended stopped : Bool) (found : List ℕ)
      → IsCalled g first kept (unasked s) done (with_boot ended stopped found (broken_note fault untouched)) (then_call (call ∷ more) (with_boot ended stopped found (broken_note fault untouched)) faulted (answered s status detail))
  first_broke call more moments asked all status detail fault before plain can stands err told =
      calls_broke (call ∷ more) status detail [] untouched moments asked call refl fault told (err s.store stands) can
      (λ is. (plain, all)) tt (λ n restored torn. (restored, torn))

  -- a single call that writes
  pub one_call : (call : StoreCall) → Leaving g first kept (DuringCalls (writes (call ∷ [])) s.store) → AsksIn g first kept done.note.outcome (call ∷ []) → (writes (call ∷ []) ≡ call ∷ []) → (ended : Result Unit BankFault) (before : StoreParts B)
      → is_restore call ≡ false → ((store : Blocks) → MayGoOn (call ∷ []) store) → ((n : BankNote) → Plain n → Tells (call ∷ []) n) → ((n : BankNote) → RestoresHeld (g.now first.bank) (call ∷ []) s.store n)
      → IfErr ended (λ fault. CanBreak (is_gate fault) (is_old fault) call s.store)
      → StandsFor g.tells g.now before s.store
      → OnOk ended ((blocks : Blocks) → StandsFor g.tells g.now before blocks → StandsFor g.tells g.now kept (after call blocks))
      → IfErr ended (λ fault. (blocks : Blocks) → StandsFor g.tells g.now before blocks → StandsFor g.tells g.now kept (broken (is_gate fault) (is_old fault) call blocks))
      → IsTold done (call_status ended) 0 [] (call_note ended untouched)
      → Calls g first kept s done (λ n. then_call (call ∷ []) n faulted (answered s SUCCESS 0))
  one_call call moments asked all (Ok x) before plain gave says held can stands ok err told =
      by_note g first kept s done (λ n. then_call (call ∷ []) n faulted (answered s SUCCESS 0)) (done_note untouched) told.note_is
      (calls_done (call ∷ []) SUCCESS 0 [] untouched moments asked told (ok s.store stands) (λ is. cc is) refl (refl, refl) (gave s.store) (λ n restored torn. says n (restored, torn)) (λ n restored torn. held n))
  one_call call moments asked all (Err fault) before plain gave says held can stands ok err told =
      by_note g first kept s done (λ n. then_call (call ∷ []) n faulted (answered s SUCCESS 0)) (broken_note fault untouched) told.note_is
      (first_broke call [] moments asked all SUCCESS 0 fault before plain can stands err told)

  -- what means the same
  pub calls_same : (one other : BankNote → model.Effect) → ((n : BankNote) → other n ≡ one n) → Calls g first kept s done one → Calls g first kept s done other
  calls_same one other same all ended stopped found =
      let n = with_boot ended stopped found done.note in
      subst (IsCalled g first kept (unasked s) done n) (sym (same n)) (all ended stopped found)

  -- a command is about this table
  pub calls_about : (table named : Option Named) (means : BankNote → model.Effect) → named ≡ table → Calls g first kept s done means
      → Calls g first kept s (record done { table = table }) (λ n. record (means n) { table = named })
  calls_about table named means same all ended stopped found =
      let is = all ended stopped found in record {
        blocks = is.blocks;
        effect = record {
          status = is.effect.status;
          detail = is.effect.detail;
          bytes = is.effect.bytes;
          table = same;
          events = is.effect.events;
          shown = is.effect.shown;
          questions = is.effect.questions;
          calls = is.effect.calls;
          notice = is.effect.notice;
          next = is.effect.next;
        };
        ends = is.ends;
        gave = is.gave;
        says = is.says;
        writing = is.writing;
        moments = is.moments;
        asked = is.asked;
        held = is.held;
      }

-- what is reported besides an answer that is silent by itself
pub silent_beside : (done : Effect) (report : Reported) (table : Option Named) → IsSilent done → report ≡ record nothing_reported { table = table }
    → record done { table = table } ≡ reported_effect done.answer done.bytes report done.note
silent_beside done report table silent is = (λ i. record done {
  table = table;
  events = silent.events i;
  shown = silent.shown i;
  notice = silent.notice i;
  verdicts = silent.verdicts i;
}) ∙ sym (ap (λ (r : Reported). reported_effect done.answer done.bytes r done.note) is)

-- a copy of an image of this size, and the deletion of a block
module _ {B : Type 0} (g : Ghosts B) (first before kept : StoreParts B) (s : State) (done : Effect) (slot : ℕ) (ended : Result Unit BankFault) (stands : StandsFor g.tells g.now before s.store) (told : IsTold done (call_status ended) 0 [] (call_note ended untouched)) where
  pub copy_called : (image : List ℕ) (size : ℕ) → (g.tells_moments → LeavesOnly g.clock g.left_since first.bank kept.bank (LeavesIn (copy slot image) s.store)) → AsksIn g first kept done.note.outcome (copy slot image ∷ []) → length image ≡ size → IfErr ended (λ fault. (blocks : Blocks) → CanBreak (is_gate fault) (is_old fault) (copy slot image) blocks)
      → OnOk ended ((blocks : Blocks) → StandsFor g.tells g.now before blocks → StandsFor g.tells g.now kept (after (copy slot image) blocks))
      → IfErr ended (λ fault. (blocks : Blocks) → StandsFor g.tells g.now before blocks → StandsFor g.tells g.now kept (broken (is_gate fault) (is_old fault) (copy slot image) blocks))
      → Calls g first kept s done (λ n. if length image == size then then_call (copy slot image ∷ []) n faulted (answered s SUCCESS 0) else answered s ERR_IMAGE_SIZE 0)
  copy_called image size left asked fits can ok err =
      calls_same g first kept s done (λ n. then_call (copy slot image ∷ []) n faulted (answered s SUCCESS 0)) (λ n. if length image == size then then_call (copy slot image ∷ []) n faulted (answered s SUCCESS 0) else answered s ERR_IMAGE_SIZE 0)
      (λ n. ap (λ b. if b then then_call (copy slot image ∷ []) n faulted (answered s SUCCESS 0) else answered s ERR_IMAGE_SIZE 0) (eq-eqb (length image) size fits))
      (one_call g first kept s done (copy slot image) (one_leaves g first kept (copy slot image) [] s.store left) asked refl ended before refl (λ store. (tt, tt)) (λ n plain. plain) (λ n. tt) (IfErr-weaker ended _ _ (λ fault all. all s.store) can) stands ok err told)

  pub delete_called : (g.tells_moments → LeavesOnly g.clock g.left_since first.bank kept.bank (LeavesIn (delete slot) s.store)) → AsksIn g first kept done.note.outcome (delete slot ∷ []) → IfErr ended (HasFlags true false)
      → OnOk ended ((blocks : Blocks) → StandsFor g.tells g.now before blocks → StandsFor g.tells g.now kept (after (delete slot) blocks))
      → IfErr ended (λ fault. (blocks : Blocks) → StandsFor g.tells g.now before blocks → StandsFor g.tells g.now kept (broken (is_gate fault) (is_old fault) (delete slot) blocks))
      → Calls g first kept s done (λ n. then_call (delete slot ∷ []) n faulted (answered s SUCCESS 0))
  delete_called left asked flags ok err = one_call g first kept s done (delete slot) (one_leaves g first kept (delete slot) [] s.store left) asked refl ended before refl (λ store. (tt, tt)) (λ n plain. plain) (λ n. tt) (IfErr-weaker ended (HasFlags true false) _ (λ fault has. flags_break true false fault (delete slot) s.store (refl, refl) has) flags) stands ok err told
