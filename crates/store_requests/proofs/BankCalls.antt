-- Which calls a bank got in a request, from how its call of the store ended.
use Rattle.std.proofs.Common.{◌≡◌, ℕ, List, [], ◌∷◌, ◌++◌, map, Bool, true, false, not, Option, Some, None, Result, Ok, Err, unwrap_or, refl, sym, ◌∙◌, ap, subst, inl, inr}
use Rattle.std.proofs.lemmas.List.{append-nil}
use Rattle.std.proofs.lemmas.Option.{same_Some}
use Rattle.std.specs.Prelude.{is_ok, is_some, slice_set}
use Rattle.std.specs.Option.{ForSome, option_map, option_map_or}
use Rattle.tbl_kinds.specs.Blocks.{Store as Blocks}
use Rattle.tbl_kinds.specs.StoreCalls.{reserve, delete}
use Rattle.tbl_kinds.specs.StoreSteps.{doubtful_of, has_room}
use Rattle.tbl_kinds.specs.declared.block.BlockKind.{BlockKind}
use Rattle.tbl_kinds.specs.Notes.{untouched}
use Rattle.tbl_kinds.specs.declared.note.BankNote.{BankNote}
use Rattle.tbl_kinds.specs.declared.note.Outcome.{Outcome}
use Rattle.tbl_kinds.specs.declared.note.Outcome.TheVariants.{Done, Failed}
use Rattle.tbl_outside.specs.BankCalls.{BankCall, Asks, BrokeOff, after_calls as all}
use Rattle.tbl_outside.specs.declared.bank.Bank.{Ghosts}
use Rattle.cds_layout.specs.Order.{restore_calls, delete_calls, reserve_calls}
use Rattle.cds_layout.specs.Restores.{was_read, words}
use Rattle.cds_layout.specs.declared.blocks.RestoreFault.{RestoreFault}
use Rattle.cds_store.specs.Slots.{doubtful_slot, without_slot, room_in}
use Rattle.cds_store.specs.Sound.{slot_at, IsOpenOf}
use Rattle.cds_store.specs.StoreBlocks.{StoreParts, slot_of}
use Rattle.cds_store.proofs.Reservations.{doubtful_same, no_room}
use Rattle.cds_store.specs.declared.slot.Slot.{Slot}
use Rattle.cds_store.specs.Calls.{lacks_room}
use Rattle.cds_store.specs.declared.fault.ReserveFault.{ReserveFault}
use Rattle.cds_store.specs.declared.fault.ReserveFault.TheVariants.{NoRoom, Bank}
use Rattle.cds_store.specs.declared.fault.BankFault.{BankFault}
use Rattle.cds_store.specs.declared.fault.BankFault.TheVariants.{Fault, Stopped as Cut}
use Rattle.store_requests.specs.BankCalls.{AsksBy, restore_at, make_at, AsksIn}
use Rattle.store_requests.specs.Called.{call_note, done_note, broken_note, reserve_note, IsUngiven}
use Rattle.request_effects.specs.Effects.{Effect}

-- of a slot that has an open block
pub at_open : (o : Option Slot) (size : ℕ) (calls : Slot → List BankCall) (HasCalls : List BankCall → Type 0) → IsOpenOf size o → ForSome o (λ s. HasCalls (calls s)) → HasCalls (option_map_or calls o [])
at_open None size calls HasCalls sized called = absurd sized
at_open (Some s) size calls HasCalls sized called = called s refl

module _ {B : Type 0} (g : Ghosts B) (old new : B) (calls : List BankCall) (note : BankNote) where
  pub bank_calls_none : new ≡ old → note ≡ untouched → AsksBy g old new note.outcome calls
  bank_calls_none same is = rw is same

  -- of a single call
  pub bank_calls_once : (ended : Result Unit BankFault) → note ≡ call_note ended untouched → Asks g.tells_calls g.calls old new (is_ok ended) calls → AsksBy g old new note.outcome calls
  bank_calls_once (Ok x) is called = rw is called
  bank_calls_once (Err (Fault gate prior)) is called = rw is called
  bank_calls_once (Err (Cut gate prior)) is called = rw is called

-- how a restore is noted: it is done also if the block was read and gave no image
abbrev pub words_outcome : Option ℕ → Outcome
words_outcome (Some told) = Done
words_outcome None = Failed

abbrev pub read_outcome : Result Unit RestoreFault → Outcome
read_outcome (Ok x) = Done
read_outcome (Err fault) = words_outcome (words fault)

pub ungiven_outcome : (done : Effect) (w : Option ℕ) → IsUngiven done w → done.note.outcome ≡ words_outcome w
ungiven_outcome done (Some told) is = ap (λ (n : BankNote). n.outcome) is.note_is
ungiven_outcome done None is = ap (λ (n : BankNote). n.outcome) is.note_is

pub bank_calls_restore : {B : Type 0} (g : Ghosts B) (old new : B) (slots : List (Option Slot)) (slot size : ℕ) (note : BankNote) (ended : Result Unit RestoreFault) → IsOpenOf size (slot_at slots slot)
    → ForSome (slot_at slots slot) (λ s. Asks g.tells_calls g.calls old new (was_read ended) (restore_calls (g.now old) slot s.block)) → note.outcome ≡ read_outcome ended → AsksBy g old new note.outcome (restore_at (g.now old) slots slot)
bank_calls_restore g old new slots slot size note ended sized called is = rw is (by ended (at_open (slot_at slots slot) size (λ (s : Slot). restore_calls (g.now old) slot s.block) (λ calls. Asks g.tells_calls g.calls old new (was_read ended) calls) sized called)) where
  by : (ended : Result Unit RestoreFault) → Asks g.tells_calls g.calls old new (was_read ended) (restore_at (g.now old) slots slot) → AsksBy g old new (read_outcome ended) (restore_at (g.now old) slots slot)
  by (Ok x) called = called
  by (Err fault) called = each (words fault) called where
    each : (w : Option ℕ) → Asks g.tells_calls g.calls old new (is_some w) (restore_at (g.now old) slots slot) → AsksBy g old new (words_outcome w) (restore_at (g.now old) slots slot)
    each (Some told) called = called
    each None called = called

-- ---- a block is made

module _ {B : Type 0} (g : Ghosts B) (old new : B) (note : BankNote) (room : Option (ℕ × ℕ)) (calls : ℕ × ℕ → List BankCall) where
  abbrev By : List BankCall → Type 0
  By list = AsksBy g old new note.outcome list

  make_each : (made : Result ℕ ReserveFault) → note ≡ reserve_note made untouched → (lacks_room made ≡ true → new ≡ old) → (list : List BankCall) → Asks g.tells_calls g.calls old new (is_ok made) list → By list
  make_each (Ok slot) is full list called = rw is called
  make_each (Err NoRoom) is full list called = bank_calls_none g old new list note (full refl) is
  make_each (Err (Bank (Fault gate prior))) is full list called = rw is called
  make_each (Err (Bank (Cut gate prior))) is full list called = rw is called

  pub bank_calls_make : (made : Result ℕ ReserveFault) → note ≡ reserve_note made untouched → (lacks_room made ≡ true → new ≡ old) → ForSome room (λ r. Asks g.tells_calls g.calls old new (is_ok made) (calls r)) → ForSome (option_map calls room) By
  bank_calls_make made is full called list there = by room refl there where
    by : (found : Option (ℕ × ℕ)) → room ≡ found → option_map calls found ≡ Some list → By list
    by None at there = absurd (cc there)
    by (Some r) at there = subst By (same_Some (calls r) list there) (make_each made is full (calls r) (called r at))

  -- or nothing, if there is no room
  pub asked_make : (made : Result ℕ ReserveFault) → note ≡ reserve_note made untouched → (lacks_room made ≡ true → new ≡ old) → (room ≡ None → lacks_room made ≡ true) → ForSome room (λ r. Asks g.tells_calls g.calls old new (is_ok made) (calls r)) → By (unwrap_or (option_map calls room) [])
  asked_make made is full none called = by room refl where
    lacking : (made : Result ℕ ReserveFault) → note ≡ reserve_note made untouched → (lacks_room made ≡ true → new ≡ old) → lacks_room made ≡ true → By []
    lacking (Ok slot) is full lacks = absurd (cc lacks)
    lacking (Err NoRoom) is full lacks = bank_calls_none g old new [] note (full refl) is
    lacking (Err (Bank fault)) is full lacks = absurd (cc lacks)

    by : (found : Option (ℕ × ℕ)) → room ≡ found → By (unwrap_or (option_map calls found) [])
    by None at = lacking made is full (none at)
    by (Some r) at = make_each made is full (calls r) (called r at)

  -- after the deletion of the block in this slot
  module _ (mid : B) (slot : ℕ) (deleted : Asks g.tells_calls g.calls old mid true (delete_calls slot)) where
    all_on : (list : List BankCall) → Asks g.tells_calls g.calls mid new true list → Asks g.tells_calls g.calls old new true (delete_calls slot ++ list)
    all_on list called told =
        let first = deleted (called told).0 in
        (first.0, (called told).1 ∙ ap (λ past. all list past) first.1)

    some_on : (list : List BankCall) → Asks g.tells_calls g.calls mid new false list → Asks g.tells_calls g.calls old new false (delete_calls slot ++ list)
    some_on list called told =
        let first = deleted (called told).0 in
        (first.0, inr (subst (λ past. BrokeOff list past (g.calls new)) first.1 (called told).1))

    renew_each : (made : Result ℕ ReserveFault) → note ≡ reserve_note made (done_note untouched) → (lacks_room made ≡ true → ⊥) → (list : List BankCall) → Asks g.tells_calls g.calls mid new (is_ok made) list → By (delete_calls slot ++ list)
    renew_each (Ok slot) is full list called = rw is (all_on list called)
    renew_each (Err NoRoom) is full list called = absurd (full refl)
    renew_each (Err (Bank (Fault gate prior))) is full list called = rw is (some_on list called)
    renew_each (Err (Bank (Cut gate prior))) is full list called = rw is (some_on list called)

    pub bank_calls_renew : (made : Result ℕ ReserveFault) → note ≡ reserve_note made (done_note untouched) → (lacks_room made ≡ true → ⊥) → ForSome room (λ r. Asks g.tells_calls g.calls mid new (is_ok made) (calls r))
        → ForSome (option_map (λ (list : List BankCall). delete_calls slot ++ list) (option_map calls room)) By
    bank_calls_renew made is full called list there = by room refl there where
      by : (found : Option (ℕ × ℕ)) → room ≡ found → option_map (λ (list : List BankCall). delete_calls slot ++ list) (option_map calls found) ≡ Some list → By list
      by None at there = absurd (cc there)
      by (Some r) at there = subst By (same_Some (delete_calls slot ++ calls r) list there) (renew_each made is full (calls r) (called r at))

    pub asked_renew : (made : Result ℕ ReserveFault) → note ≡ reserve_note made (done_note untouched) → (lacks_room made ≡ true → ⊥) → (room ≡ None → lacks_room made ≡ true) → ForSome room (λ r. Asks g.tells_calls g.calls mid new (is_ok made) (calls r))
        → By (delete_calls slot ++ (unwrap_or (option_map calls room) [] ++ []))
    asked_renew made is full none called = by room refl where
      by : (found : Option (ℕ × ℕ)) → room ≡ found → By (delete_calls slot ++ (unwrap_or (option_map calls found) [] ++ []))
      by None at = absurd (full (none at))
      by (Some r) at = renew_each made is full (calls r ++ []) (subst (λ (list : List BankCall). Asks g.tells_calls g.calls mid new (is_ok made) list) (sym (append-nil (calls r))) (called r at))

-- that deletion broke off
pub asked_first : {B : Type 0} (g : Ghosts B) (old new : B) (note : BankNote) (slot : ℕ) (fault : BankFault) → note ≡ broken_note fault untouched → Asks g.tells_calls g.calls old new false (delete_calls slot) → (rest : List BankCall) → AsksBy g old new note.outcome (delete_calls slot ++ rest)
asked_first g old new note slot fault is called rest = each fault is where
  first : Asks g.tells_calls g.calls old new false (delete_calls slot ++ rest)
  first told = ((called told).0, one (called told).1) where
    one : BrokeOff (delete_calls slot) (g.calls old) (g.calls new) → BrokeOff (delete_calls slot ++ rest) (g.calls old) (g.calls new)
    one (inl last) = inl last
    one (inr none) = absurd none

  each : (fault : BankFault) → note ≡ broken_note fault untouched → AsksBy g old new note.outcome (delete_calls slot ++ rest)
  each (Fault gate prior) is = rw is first
  each (Cut gate prior) is = rw is first

pub bank_calls_first : {B : Type 0} (g : Ghosts B) (old new : B) (note : BankNote) (slot : ℕ) (fault : BankFault) (more : Option (List BankCall)) → note ≡ broken_note fault untouched → Asks g.tells_calls g.calls old new false (delete_calls slot)
    → ForSome (option_map (λ (list : List BankCall). delete_calls slot ++ list) more) (AsksBy g old new note.outcome)
bank_calls_first g old new note slot fault more is called list there = by more there where
  by : (more : Option (List BankCall)) → option_map (λ (list : List BankCall). delete_calls slot ++ list) more ≡ Some list → AsksBy g old new note.outcome list
  by None there = absurd (cc there)
  by (Some rest) there = subst (AsksBy g old new note.outcome) (same_Some (delete_calls slot ++ rest) list there) (asked_first g old new note slot fault is called rest)

-- ---- by the calls of the store that a request makes

-- if none was made, it doesn't matter which would be
pub asked_none : {B : Type 0} (g : Ghosts B) (old new : B) (note : BankNote) (calls other : List BankCall) → note ≡ untouched → AsksBy g old new note.outcome calls → AsksBy g old new note.outcome other
asked_none g old new note calls other is asked = subst (λ (n : BankNote). AsksBy g old new n.outcome other) (sym is) (subst (λ (n : BankNote). AsksBy g old new n.outcome calls) is asked)

-- of one alone
pub asked_one : {B : Type 0} (g : Ghosts B) (old new : B) (outcome : Outcome) (calls : List BankCall) → AsksBy g old new outcome calls → AsksBy g old new outcome (calls ++ [])
asked_one g old new outcome calls asked = subst (AsksBy g old new outcome) (sym (append-nil calls)) asked

-- a reservation finds no room if the slots have none
pub none_lacks : (kind : BlockKind) (name : List ℕ) (size : ℕ) (slots : List (Option Slot)) (blocks : Blocks) (lacks : Bool) → slots ≡ map (option_map slot_of) blocks → lacks ≡ not (has_room size (doubtful_of kind name blocks) blocks)
    → room_in size (without_slot (doubtful_slot kind name slots) slots) ≡ None → lacks ≡ true
none_lacks kind name size slots blocks lacks same full none =
    full ∙ ap not (ap (λ (o : Option ℕ). has_room size o blocks) (sym (doubtful_same kind name slots blocks same)) ∙ no_room (doubtful_slot kind name slots) size slots blocks same none)

-- a block is reserved
module _ {B : Type 0} (g : Ghosts B) (first mid new : StoreParts B) (kind : BlockKind) (name : List ℕ) (size : ℕ) (note : BankNote) (made : Result ℕ ReserveFault) (blocks : Blocks) (stands : mid.slots ≡ map (option_map slot_of) blocks)
    (full : lacks_room made ≡ not (has_room size (doubtful_of kind name blocks) blocks)) where
  abbrev doubtful : Option ℕ
  doubtful = doubtful_slot kind name mid.slots

  abbrev room : Option (ℕ × ℕ)
  room = room_in size (without_slot doubtful mid.slots)

  abbrev by_place : ℕ × ℕ → List BankCall
  by_place place = reserve_calls doubtful place.0 (record { kind = kind; offset = place.1; size = size; name = name })

  abbrev Makes : Type 0
  Makes = ForSome room (λ place. Asks g.tells_calls g.calls mid.bank new.bank (is_ok made) (by_place place))

  none : room ≡ None → lacks_room made ≡ true
  none = none_lacks kind name size mid.slots blocks (lacks_room made) stands full

  -- by the only call
  pub reserved_asked : note ≡ reserve_note made untouched → (lacks_room made ≡ true → new ≡ mid) → Makes → AsksIn g mid new note.outcome (reserve kind name size ∷ [])
  reserved_asked is still called = asked_one g mid.bank new.bank note.outcome _ (asked_make g mid.bank new.bank note room by_place made is (λ lacks. ap (λ (store : StoreParts B). store.bank) (still lacks)) none called)

  -- after the deletion of one of another size
  pub renewed_asked : (slot : ℕ) → Asks g.tells_calls g.calls first.bank mid.bank true (delete_calls slot) → mid.slots ≡ slice_set first.slots slot None → note ≡ reserve_note made (done_note untouched) → (lacks_room made ≡ true → ⊥) → Makes
      → AsksIn g first new note.outcome (delete slot ∷ reserve kind name size ∷ [])
  renewed_asked slot deleted freed is there called =
      subst (λ (slots : List (Option Slot)). AsksBy g first.bank new.bank note.outcome (delete_calls slot ++ (unwrap_or (make_at kind slots name size) [] ++ []))) freed
      (asked_renew g first.bank new.bank note room by_place mid.bank slot deleted made is there none called)
