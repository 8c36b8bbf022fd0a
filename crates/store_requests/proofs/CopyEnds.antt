-- The copy of an image that went active: from how it ended to what the model says.
use Rattle.std.proofs.Common.{◌≡◌, inl, inr, ℕ, suc, ◌≤◌, List, [], ◌∷◌, ◌++◌, length, Bool, true, false, not, ◌&&◌, Option, Some, None, Result, Ok, Err, refl, sym, ◌∙◌, ap, subst, arith}
use Rattle.std.specs.Prelude.{◌-◌, OnOk, IfErr}
use Rattle.std.specs.Option.{option_map}
use Rattle.std.proofs.lemmas.List.Quantifiers.{position-Some}
use Rattle.std.proofs.lemmas.Option.{same_Some}
use Rattle.tbl_kinds.specs.Blocks.{Store as Blocks}
use Rattle.tbl_kinds.specs.StoreCalls.{StoreCall, copy, after, broken, CanBreak}
use Rattle.tbl_kinds.specs.Notes.{untouched}
use Rattle.tbl_kinds.specs.declared.block.Block.{Block}
use Rattle.tbl_kinds.specs.declared.block.BlockKind.{BlockKind}
use Rattle.tbl_kinds.specs.declared.note.BankNote.{BankNote}
use Rattle.tbl_kinds.specs.declared.entry.Answer.{Answer}
use Rattle.tbl_model.specs.Effects as model
use Rattle.tbl_model.specs.StoreUse.{left_by}
use Rattle.tbl_model.specs.Copies.{copied_to}
use Rattle.tbl_model.specs.declared.telemetry.TelemetryEvent.{TelemetryEvent}
use Rattle.tbl_model.specs.declared.telemetry.TelemetryEvent.TheVariants.{CopyFailed}
use Rattle.cds_store.specs.Calls.{CallCounted, is_gate, is_old}
use Rattle.cds_store.specs.Slots.{is_open_slot, open_slot, block_of as block_in}
use Rattle.cds_store.specs.Sound.{slot_at, IsOpenOf}
use Rattle.cds_store.specs.StoreBlocks.{StoreParts, StandsFor}
use Rattle.cds_store.specs.declared.slot.Slot.{Slot}
use Rattle.cds_store.specs.declared.fault.BankFault.{BankFault}
use Rattle.cds_store.specs.declared.fault.BankFault.TheVariants.{Fault, Stopped as Cut}
use Rattle.tbl_outside.specs.Counts.{Rose, RoseBy}
use Rattle.std.proofs.lemmas.List.{length-append}
use Rattle.store_requests.specs.BankCalls.{AsksIn, asked_in}
use Rattle.store_requests.proofs.BankCalls.{bank_calls_none}
use Rattle.store_requests.specs.Called.{with_boot, done_note, broken_note, done_first, IsCalled, CallsAfter}
use Rattle.tbl_session.specs.Crashes.{DuringCalls, writes}
use Rattle.tbl_outside.specs.Bank.{LeavesOnly}
use Rattle.tbl_outside.proofs.Moments.{leaves_among}
use Rattle.cds_layout.specs.Images.{store_of}
use Rattle.cds_store.specs.Moments.{LeavesIn}
use Rattle.store_requests.proofs.Moments.{one_leaves, unmoved}
use Rattle.tbl_laws.proofs.Crashes.{before_calls}
use Rattle.tbl_session.specs.Restores.{RestoresHeld}
use Rattle.store_requests.specs.Copying.{IsCopied, IsCopyCall, Copied, KeepsRoom}
use Rattle.request_effects.specs.Effects.{Effect, IsEffect}
use Rattle.tbl_outside.specs.declared.bank.Bank.{Ghosts}

-- ---- the block of a table

open_in_slot : (kind : BlockKind) (name : List ℕ) (size : ℕ) (b : Block) (o : Option Slot) → is_open_slot kind name o ≡ true → Some b ≡ option_map block_in o → b.size ≡ size → IsOpenOf size o
open_in_slot kind name size b None open_there is sized = absurd (cc open_there)
open_in_slot kind name size b (Some s) open_there is sized = (closed s.doubtful _ open_there, ap (λ (x : Block). x.size) (sym (same_Some b s.block is)) ∙ sized) where
  closed : (doubtful named : Bool) → (named && not doubtful) ≡ true → doubtful ≡ false
  closed false named is = refl
  closed true true is = absurd (cc is)
  closed true false is = absurd (cc is)

-- the open block that was found has this size
pub open_of_size : (kind : BlockKind) (name : List ℕ) (slots : List (Option Slot)) (n size : ℕ) (b : Block) → open_slot kind name slots ≡ Some n → Some b ≡ option_map block_in (slot_at slots n) → b.size ≡ size → IsOpenOf size (slot_at slots n)
open_of_size kind name slots n size b found is sized = open_in_slot kind name size b (slot_at slots n) (position-Some (is_open_slot kind name) slots n None found).1 is sized

-- ---- what the request did before

module _ {B : Type 0} (g : Ghosts B) (first kept : StoreParts B) (e : model.Effect) (before : Effect) (is : IsEffect before e.questions e.next e) where
  abbrev Copies : Effect → (BankNote → model.Effect) → Type 0
  Copies done means = CallsAfter g first kept (done_first e) done means

  -- it is enough to know it of the note that is given
  by_told : (done : Effect) (means : BankNote → model.Effect) (note : BankNote) → done.note ≡ note
      → ((ended stopped : Bool) (found : List ℕ) → IsCalled g first kept (done_first e) done (with_boot ended stopped found note) (means (with_boot ended stopped found note))) → Copies done means
  by_told done means note told all =
      subst (λ (n : BankNote). (ended stopped : Bool) (found : List ℕ) → IsCalled g first kept (done_first e) done (with_boot ended stopped found n) (means (with_boot ended stopped found n))) (sym told) all

  -- nothing is copied after it
  alone : (g.tells_moments → LeavesOnly g.clock g.left_since first.bank kept.bank (λ image. (calls : List StoreCall) → DuringCalls calls e.next.store (store_of image))) → kept.bank ≡ first.bank → before.note ≡ untouched → StandsFor g.tells g.now kept e.next.store → Copies before (λ n. e)
  alone moments still told stands = by_told before (λ n. e) untouched told (λ ended stopped found. record {
    blocks = subst (λ (calls : List StoreCall). StandsFor g.tells g.now kept (left_by calls (with_boot ended stopped found untouched) e.next.store)) (sym is.calls) stands;
    effect = record {
      status = is.status;
      detail = is.detail;
      bytes = is.bytes;
      table = is.table;
      events = is.events;
      shown = is.shown;
      questions = refl;
      calls = refl;
      notice = is.notice;
      next = ap (λ (calls : List StoreCall). record e.next { store = left_by calls (with_boot ended stopped found untouched) e.next.store }) (sym is.calls);
    };
    ends = (is.calls, refl, (refl, refl));
    gave = tt;
    says = (refl, refl);
    writing = λ stop. absurd (cc stop);
    moments = λ m. leaves_among (moments m) (λ image all. all (writes e.calls));
    asked = bank_calls_none g first.bank kept.bank (asked_in (g.now first.bank) first.slots e.calls) before.note still told;
    held = subst (λ (calls : List StoreCall). RestoresHeld (g.now first.bank) calls e.next.store (with_boot ended stopped found untouched)) (sym is.calls) tt;
  })

  pub stays : (g.tells_moments → LeavesOnly g.clock g.left_since first.bank kept.bank (λ image. (calls : List StoreCall) → DuringCalls calls e.next.store (store_of image))) → kept.bank ≡ first.bank → (means : BankNote → model.Effect) → ((n : BankNote) → means n ≡ e) → before.note ≡ untouched → StandsFor g.tells g.now kept e.next.store → Copies before means
  stays moments still means same told stands ended stopped found =
      let n = with_boot ended stopped found before.note in
      subst (IsCalled g first kept (done_first e) before n) (sym (same n)) (alone moments still told stands ended stopped found)

  pub with_note : (means : BankNote → model.Effect) (note : BankNote) → note ≡ before.note → Copies before means → Copies (record before { note = note }) means
  with_note means note is all = subst (λ (n : BankNote). Copies (record before { note = n }) means) (sym is) all

  -- it is copied into this slot
  pub copied_after : (prior : StoreParts B) (row slot : ℕ) (image : List ℕ) (done : Effect) (ended : Result Unit BankFault) → (g.tells_moments → LeavesOnly g.clock g.left_since first.bank kept.bank (LeavesIn (copy slot image) e.next.store)) → AsksIn g first kept done.note.outcome (copy slot image ∷ []) → StandsFor g.tells g.now prior e.next.store → IfErr ended (λ fault. (blocks : Blocks) → CanBreak (is_gate fault) (is_old fault) (copy slot image) blocks)
      → OnOk ended ((blocks : Blocks) → StandsFor g.tells g.now prior blocks → StandsFor g.tells g.now kept (after (copy slot image) blocks))
      → IfErr ended (λ fault. (blocks : Blocks) → StandsFor g.tells g.now prior blocks → StandsFor g.tells g.now kept (broken (is_gate fault) (is_old fault) (copy slot image) blocks))
      → IsCopied row slot ended before done → Copies done (λ n. copied_to row n e (Some slot) (Some image))
  copied_after prior row slot image done (Ok x) left asked stands can ok err copied = by_told done (λ n. copied_to row n e (Some slot) (Some image)) (done_note untouched) copied.note (λ ended stopped found. record {
    blocks = ok e.next.store stands;
    effect = record {
      status = is.status ∙ ap (λ (a : Answer). a.status) (sym copied.answer);
      detail = is.detail ∙ ap (λ (a : Answer). a.detail) (sym copied.answer);
      bytes = is.bytes ∙ sym copied.bytes;
      table = is.table ∙ sym copied.table;
      events = is.events ∙ sym copied.events;
      shown = is.shown ∙ sym copied.shown;
      questions = refl;
      calls = refl;
      notice = is.notice ∙ sym copied.notice;
      next = refl;
    };
    ends = ((λ none. cc none), refl, (refl, refl));
    gave = (tt, tt);
    says = (refl, refl);
    writing = λ stop. refl;
    moments = one_leaves g first kept (copy slot image) [] e.next.store left;
    asked = asked;
    held = tt;
  })
  copied_after prior row slot image done (Err (Fault gate old)) left asked stands can ok err copied = by_told done (λ n. copied_to row n e (Some slot) (Some image)) (broken_note (Fault gate old) untouched) copied.note (λ ended stopped found. record {
    blocks = err e.next.store stands;
    effect = record {
      status = is.status ∙ ap (λ (a : Answer). a.status) (sym copied.answer);
      detail = is.detail ∙ ap (λ (a : Answer). a.detail) (sym copied.answer);
      bytes = is.bytes ∙ sym copied.bytes;
      table = is.table ∙ sym copied.table;
      events = ap (λ (events : List TelemetryEvent). events ++ CopyFailed row slot ∷ []) is.events ∙ sym copied.events;
      shown = is.shown ∙ sym copied.shown;
      questions = refl;
      calls = refl;
      notice = is.notice ∙ sym copied.notice;
      next = refl;
    };
    ends = record { call = copy slot image; next = refl; breaks = can e.next.store };
    gave = tt;
    says = (refl, refl);
    writing = λ stop. refl;
    moments = one_leaves g first kept (copy slot image) [] e.next.store left;
    asked = asked;
    held = tt;
  })
  copied_after prior row slot image done (Err (Cut gate old)) left asked stands can ok err copied = by_told done (λ n. copied_to row n e (Some slot) (Some image)) (broken_note (Cut gate old) untouched) copied.note (λ ended stopped found. record {
    blocks = err e.next.store stands;
    effect = record {
      status = ap (λ (a : Answer). a.status) (sym copied.answer);
      detail = ap (λ (a : Answer). a.detail) (sym copied.answer);
      bytes = sym copied.bytes;
      table = sym copied.table;
      events = is.events ∙ sym copied.events;
      shown = sym copied.shown;
      questions = refl;
      calls = refl;
      notice = sym copied.notice;
      next = refl;
    };
    ends = (record { call = copy slot image; next = refl; breaks = can e.next.store }, refl);
    gave = tt;
    says = (refl, refl);
    writing = λ stop. refl;
    moments = one_leaves g first kept (copy slot image) [] e.next.store left;
    asked = asked;
    held = tt;
  })

  -- what means the same
  pub same_copies : (done : Effect) (one other : BankNote → model.Effect) → ((n : BankNote) → other n ≡ one n) → Copies done one → Copies done other
  same_copies done one other same all ended stopped found =
      let n = with_boot ended stopped found done.note in
      subst (IsCalled g first kept (done_first e) done n) (sym (same n)) (all ended stopped found)

-- ---- how much is reported, and the counts of the bank

pub rose_one : (before now : ℕ) → Rose before now → RoseBy 1 before now
rose_one before now (inl more) = inl (omega (arith, more))
rose_one before now (inr top) = inr (omega (arith, top))

one_more : (events : List TelemetryEvent) (event : TelemetryEvent) (most : ℕ) → length events ≤ most → length (events ++ event ∷ []) ≤ suc most
one_more events event most few = let both = length-append events (event ∷ []) in omega (arith, few, both)

pub copied_call : {B : Type 0} (g : Ghosts B) (old new : StoreParts B) (before done : Effect) (row slot : ℕ) (ended : Result Unit BankFault) → new.booted ≡ true → g.faults old.bank ≤ g.faults new.bank → g.stops old.bank ≤ g.stops new.bank → CallCounted g.faults g.stops old.bank new.bank ended → IsCopied row slot ended before done
    → IsCopyCall g old new before done
copied_call g old new before done row slot (Ok x) booted more_faults more_stops counted copied = record {
  within = λ most within. record {
    events = let few = within.events in rw copied.events (omega (arith, few));
    notice = rw copied.notice within.notice;
    bytes = rw copied.bytes within.bytes;
  };
  verdicts = copied.verdicts;
  no_boot = rw copied.note (record { ended = refl; stopped = refl; found = refl });
  stopped = rw copied.note (λ is. absurd (cc is));
  answer = inl (ap (λ (a : Answer). a.status) copied.answer);
  trouble = rw copied.note (let a = counted.0 in let b = counted.1 in record { fault_count = more_faults; stop_count = more_stops; fault = inl (omega (arith, a)); stop = inl (omega (arith, b)); no_fault = λ none. a; no_stop = λ none. b });
  booted = booted;
}
copied_call g old new before done row slot (Err (Fault gate prior)) booted more_faults more_stops counted copied = record {
  within = λ most within. record {
    events = let few = within.events in rw copied.events (one_more before.events (CopyFailed row slot) most few);
    notice = rw copied.notice within.notice;
    bytes = rw copied.bytes within.bytes;
  };
  verdicts = copied.verdicts;
  no_boot = rw copied.note (record { ended = refl; stopped = refl; found = refl });
  stopped = rw copied.note (λ is. absurd (cc is));
  answer = inl (ap (λ (a : Answer). a.status) copied.answer);
  trouble = rw copied.note (let b = counted.1 in record { fault_count = more_faults; stop_count = more_stops; fault = rose_one _ _ counted.0; stop = inl (omega (arith, b)); no_fault = λ none. absurd (cc none); no_stop = λ none. b });
  booted = booted;
}
copied_call g old new before done row slot (Err (Cut gate prior)) booted more_faults more_stops counted copied = record {
  within = λ most within. record {
    events = let few = within.events in rw copied.events (omega (arith, few));
    notice = rw copied.notice tt;
    bytes = rw copied.bytes (omega arith);
  };
  verdicts = copied.verdicts;
  no_boot = rw copied.note (record { ended = refl; stopped = refl; found = refl });
  stopped = λ is. ap (λ (a : Answer). a.status) copied.answer;
  answer = inr (ap (λ (a : Answer). a.status) copied.answer, rw copied.note refl);
  trouble = rw copied.note (let b = counted.1 in record { fault_count = more_faults; stop_count = more_stops; fault = inl (omega (arith, b)); stop = rose_one _ _ counted.0; no_fault = λ none. b; no_stop = λ none. absurd (cc none) });
  booted = booted;
}

-- a copy that failed sends one packet more
pub copied_room : (row slot : ℕ) (ended : Result Unit BankFault) (before done : Effect) → IsCopied row slot ended before done → KeepsRoom 24 before done
copied_room row slot (Ok x) before done copied packets had = record {
  none = had.none;
  room = let room = had.room in rw (copied.events, copied.shown, copied.notice) (omega (arith, room));
}
copied_room row slot (Err (Fault gate old)) before done copied packets had = record {
  none = had.none;
  room = let room = had.room in let both = length-append before.events (CopyFailed row slot ∷ []) in rw (copied.events, copied.shown, copied.notice) (omega (arith, room, both));
}
copied_room row slot (Err (Cut gate old)) before done copied packets had = record {
  none = had.none;
  room = let room = had.room in rw (copied.events, copied.shown, copied.notice) (omega (arith, room));
}

-- ---- nothing is copied

-- less room is enough if nothing more is reported
pub keeps_room : (more : ℕ) (before : Effect) (note : BankNote) → KeepsRoom more before (record before { note = note })
keeps_room more before note packets had = record { none = had.none; room = let room = had.room in omega (arith, room) }

pub uncopied_call : {B : Type 0} (g : Ghosts B) (store : StoreParts B) (before : Effect) (note : BankNote) → store.booted ≡ true → note ≡ untouched → IsCopyCall g store store before (record before { note = note })
uncopied_call g store before note booted is = record {
  within = λ most within. record { events = let few = within.events in omega (arith, few); notice = within.notice; bytes = within.bytes };
  verdicts = refl;
  no_boot = rw is (record { ended = refl; stopped = refl; found = refl });
  stopped = rw is (λ stop. absurd (cc stop));
  answer = inl refl;
  trouble = rw is (record { fault_count = omega arith; stop_count = omega arith; fault = inl (omega arith); stop = inl (omega arith); no_fault = λ none. refl; no_stop = λ none. refl });
  booted = booted;
}

-- the bank's laws say that a reset leaves what it holds
module _ {B : Type 0} (g : Ghosts B) (holds : (bank : B) (image : List ℕ) → g.tells_moments → g.may_leave bank image → image ≡ g.now bank) (only : (bank : B) (image : List ℕ) → g.tells_moments → g.left_since bank (g.clock bank) image → g.may_leave bank image) where
  pub uncopied : (store : StoreParts B) (before : Effect) (note : BankNote) → store.booted ≡ true → before.note ≡ untouched → note ≡ untouched → (Of : model.Effect → Type 0) (means : model.Effect → BankNote → model.Effect)
      → ((e : model.Effect) → Of e → StandsFor g.tells g.now store e.next.store → e.events ≡ before.events → (n : BankNote) → means e n ≡ e) → Copied g store store before (record before { note = note }) Of means
  uncopied store before note booted fresh is Of means same = record {
    effect = λ tells e told of stands. with_note g store store e before told (means e) note (is ∙ sym fresh)
        (stays g store store e before told (unmoved g holds only store store (λ left. (calls : List StoreCall) → DuringCalls calls e.next.store left) refl (λ calls. before_calls calls e.next.store _ (stands.shows tells))) refl
        (means e) (same e of stands told.events) fresh stands);
    call = uncopied_call g store before note booted is;
  }
