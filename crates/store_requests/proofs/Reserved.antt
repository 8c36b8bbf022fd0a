-- Requests that reserve a block: of a new name, and in place of one of another size.
use Rattle.std.proofs.Common.{◌≡◌, ◌≢◌, ◌<◌, ◌≤◌, arith, ℕ, List, [], ◌∷◌, Bool, true, false, not, Option, Some, None, Result, Ok, Err, refl, sym, ◌∙◌, ap, subst}
use Rattle.std.specs.Prelude.{OnOk, IfOk, IfErr, if◌then◌else◌, option_and_then, unwrap_or, ◌==◌, ◌||◌, nat_lt}
use Rattle.std.specs.Option.{option_or, option_map}
use Rattle.std.proofs.lemmas.Option.{same_Some}
use Rattle.std.proofs.lemmas.Bool.Decides.{nat_tests}
use Rattle.tbl_kinds.specs.Names.{is_name}
use Rattle.tbl_kinds.specs.Limits.{table_limit}
use Rattle.tbl_model.specs.Subjects.{name_of, by_app}
use Rattle.tbl_model.specs.Applications.{full_name}
use Rattle.tbl_kinds.specs.Blocks.{Store as Blocks}
use Rattle.tbl_kinds.specs.StoreCalls.{reserve, delete, after, broken, CanBreak}
use Rattle.tbl_kinds.specs.StoreSteps.{stored_at, open_of, doubtful_of, has_room, closed}
use Rattle.tbl_kinds.specs.Free.{least_free}
use Rattle.tbl_kinds.specs.Notes.{untouched}
use Rattle.tbl_kinds.specs.declared.block.BlockKind.{BlockKind}
use Rattle.tbl_kinds.specs.declared.block.BlockKind.TheVariants.{App}
use Rattle.tbl_kinds.specs.declared.note.BankNote.{BankNote}
use Rattle.tbl_kinds.specs.declared.status.TheConstants.Status.{SUCCESS, INFO_CDS_EXISTS, ERR_CDS_NO_ROOM, ERR_BAD_APP, ERR_INVALID_NAME, ERR_INVALID_SIZE}
use Rattle.tbl_model.specs.State.{State}
use Rattle.tbl_model.specs.Effects as model
use Rattle.tbl_model.specs.Effects.{answered}
use Rattle.tbl_model.specs.StoreUse.{then_call}
use Rattle.tbl_model.specs.AppBlocks.{faulted, any_of, has_size, new_slot, renewal, block_effect, cds_register_effect}
use Rattle.cds_store.specs.Calls.{IfBank, lacks_room, is_gate, is_old}
use Rattle.cds_store.specs.Slots.{doubtful_slot}
use Rattle.cds_store.specs.StoreBlocks.{StoreParts, StandsFor}
use Rattle.cds_store.proofs.Reservations.{doubtful_same}
use Rattle.cds_store.specs.declared.fault.ReserveFault.{ReserveFault}
use Rattle.cds_store.specs.declared.fault.ReserveFault.TheVariants.{NoRoom, Bank}
use Rattle.tbl_session.specs.Crashes.{DuringCalls}
use Rattle.tbl_outside.specs.Bank.{LeavesOnly}
use Rattle.cds_store.specs.Moments.{LeavesIn}
use Rattle.store_requests.proofs.Moments.{one_leaves}
use Rattle.store_requests.specs.BankCalls.{AsksIn}
use Rattle.store_requests.proofs.BankCalls.{asked_none}
use Rattle.store_requests.specs.Called.{Leaving, broken_note, done_note, reserve_note, reserve_status, reserve_detail, IsTold, Calls}
use Rattle.store_requests.proofs.Calls.{by_note, calls_none, calls_done, calls_broke, calls_same}
use Rattle.request_effects.specs.Effects.{Effect}
use Rattle.tbl_outside.specs.declared.bank.Bank.{Ghosts}

-- ---- what the model does

pub chosen : (same room : Bool) (exists full done : model.Effect) → same ≡ false → room ≡ true → (if same then exists else (if not room then full else done)) ≡ done
chosen false true exists full done same room = refl
chosen true room exists full done same there = absurd (cc same)
chosen false false exists full done same room = absurd (cc room)

pub refused : (same room : Bool) (exists full done : model.Effect) → same ≡ false → room ≡ false → (if same then exists else (if not room then full else done)) ≡ full
refused false false exists full done same room = refl
refused true room exists full done same none = absurd (cc same)
refused false true exists full done same room = absurd (cc room)

-- one of this size is there already
pub there_already : (s : State) (name : List ℕ) (size : ℕ) (n : BankNote) (slot : ℕ) → has_size size (stored_at s.store slot) ≡ true → block_effect s name size n (Some slot) ≡ answered s INFO_CDS_EXISTS slot
there_already s name size n slot is = rw is refl

pub not_lacking : (b : Bool) → false ≡ not b → b ≡ true
not_lacking true is = refl
not_lacking false is = absurd (cc is)

pub lacking : (b : Bool) → true ≡ not b → b ≡ false
lacking false is = refl
lacking true is = absurd (cc is)

module _ (s : State) (name : List ℕ) (size : ℕ) (n : BankNote) (old any : Option ℕ) (is : any_of App name s.store ≡ any) where
  abbrev exists : model.Effect
  exists = answered s INFO_CDS_EXISTS (unwrap_or old 0)

  abbrev made : model.Effect
  made = then_call (renewal App name size old) n faulted (answered s SUCCESS (new_slot App name old s.store))

  pub block_means : has_size size (option_and_then (stored_at s.store) old) ≡ false → has_room size any s.store ≡ true → block_effect s name size n old ≡ made
  block_means other room = chosen (has_size size (option_and_then (stored_at s.store) old)) (has_room size (any_of App name s.store) s.store) exists (answered s ERR_CDS_NO_ROOM 0) made other (ap (λ o. has_room size o s.store) is ∙ room)

  pub no_room : has_size size (option_and_then (stored_at s.store) old) ≡ false → has_room size any s.store ≡ false → block_effect s name size n old ≡ answered s ERR_CDS_NO_ROOM 0
  no_room other room = refused (has_size size (option_and_then (stored_at s.store) old)) (has_room size (any_of App name s.store) s.store) exists (answered s ERR_CDS_NO_ROOM 0) made other (ap (λ o. has_room size o s.store) is ∙ room)

-- the block of a name is the open one, or else the doubtful one
pub any_is : (s : State) (name : List ℕ) (old : Option ℕ) → open_of App name s.store ≡ old → any_of App name s.store ≡ option_or old (doubtful_of App name s.store)
any_is s name old is = ap (λ o. option_or o (doubtful_of App name s.store)) is

-- ---- the last call of the request

module _ {B : Type 0} (g : Ghosts B) (first before kept : StoreParts B) (s : State) (done : Effect) (name : List ℕ) (size : ℕ) where
  abbrev Made : Result ℕ ReserveFault → Type 0
  Made result = OnOk result ((blocks : Blocks) → StandsFor g.tells g.now before blocks → StandsFor g.tells g.now kept (after (reserve App name size) blocks))

  abbrev At : Result ℕ ReserveFault → Type 0
  At result = IfOk result (λ slot. (blocks : Blocks) → StandsFor g.tells g.now before blocks → least_free (closed App name blocks) ≡ Some slot)

  abbrev Full : Result ℕ ReserveFault → Type 0
  Full result = (blocks : Blocks) → StandsFor g.tells g.now before blocks → lacks_room result ≡ not (has_room size (doubtful_of App name blocks) blocks)

  abbrev Broke : Result ℕ ReserveFault → Type 0
  Broke result = IfErr result (λ fault. IfBank fault (λ fault. (blocks : Blocks) → StandsFor g.tells g.now before blocks → StandsFor g.tells g.now kept (broken (is_gate fault) (is_old fault) (reserve App name size) blocks)))

  abbrev Breaks : Result ℕ ReserveFault → Type 0
  Breaks result = IfErr result (λ fault. IfBank fault (λ fault. (blocks : Blocks) → StandsFor g.tells g.now before blocks → CanBreak (is_gate fault) (is_old fault) (reserve App name size) blocks))

  -- of a name that has no open block
  pub new_called : (result : Result ℕ ReserveFault) → (g.tells_moments → LeavesOnly g.clock g.left_since first.bank kept.bank (LeavesIn (reserve App name size) s.store)) → AsksIn g first kept done.note.outcome (reserve App name size ∷ []) → (kept ≡ before → Leaving g first kept (DuringCalls [] s.store)) → open_of App name s.store ≡ None → StandsFor g.tells g.now before s.store
      → Made result → At result → Full result → (lacks_room result ≡ true → kept ≡ before) → Broke result → Breaks result
      → IsTold done (reserve_status result) (reserve_detail result) [] (reserve_note result untouched)
      → Calls g first kept s done (λ n. block_effect s name size n None)
  new_called (Ok slot) left asked still none stands ok at full untouched' err breaks told =
      calls_same g first kept s done (λ n. then_call (reserve App name size ∷ []) n faulted (answered s SUCCESS slot)) (λ n. block_effect s name size n None)
      (λ n. block_means s name size n None (doubtful_of App name s.store) (any_is s name None none) refl (not_lacking (has_room size (doubtful_of App name s.store) s.store) (full s.store stands))
      ∙ ap (λ k. then_call (reserve App name size ∷ []) n faulted (answered s SUCCESS (unwrap_or k 0))) (at s.store stands))
      (by_note g first kept s done (λ n. then_call (reserve App name size ∷ []) n faulted (answered s SUCCESS slot)) (done_note untouched) told.note_is
      (calls_done g first kept s done (reserve App name size ∷ []) SUCCESS slot [] untouched (one_leaves g first kept (reserve App name size) [] s.store left) asked told (ok s.store stands) (λ is. cc is) refl (refl, refl) (tt, tt) (λ n restored torn. (restored, torn)) (λ n restored torn. tt)))
  new_called (Err NoRoom) left asked still none stands ok at full untouched' err breaks told =
      calls_same g first kept s done (λ n. answered s ERR_CDS_NO_ROOM 0) (λ n. block_effect s name size n None)
      (λ n. no_room s name size n None (doubtful_of App name s.store) (any_is s name None none) refl (lacking (has_room size (doubtful_of App name s.store) s.store) (full s.store stands)))
      (calls_none g first kept s done (still (untouched' refl)) (asked_none g first.bank kept.bank done.note _ [] told.note_is asked) ERR_CDS_NO_ROOM 0 told (subst (λ parts. StandsFor g.tells g.now parts s.store) (sym (untouched' refl)) stands))
  new_called (Err (Bank fault)) left asked still none stands ok at full untouched' err breaks told =
      let slot = new_slot App name None s.store in
      calls_same g first kept s done (λ n. then_call (reserve App name size ∷ []) n faulted (answered s SUCCESS slot)) (λ n. block_effect s name size n None)
      (λ n. block_means s name size n None (doubtful_of App name s.store) (any_is s name None none) refl (not_lacking (has_room size (doubtful_of App name s.store) s.store) (full s.store stands)))
      (by_note g first kept s done (λ n. then_call (reserve App name size ∷ []) n faulted (answered s SUCCESS slot)) (broken_note fault untouched) told.note_is
      (calls_broke g first kept s done (reserve App name size ∷ []) SUCCESS slot [] untouched (one_leaves g first kept (reserve App name size) [] s.store left) asked (reserve App name size) refl fault told (err s.store stands) (breaks s.store stands) (λ is. (refl, refl)) tt (λ n restored torn. (restored, torn))))

  -- after the deletion of the one of another size
  pub renewed : (result : Result ℕ ReserveFault) (old : ℕ) → Leaving g first kept (DuringCalls (delete old ∷ reserve App name size ∷ []) s.store) → AsksIn g first kept done.note.outcome (delete old ∷ reserve App name size ∷ []) → StandsFor g.tells g.now before (after (delete old) s.store) → doubtful_slot App name before.slots ≡ None → has_room size (Some old) s.store ≡ true
      → Made result → At result → Full result → Broke result → Breaks result
      → IsTold done (reserve_status result) (reserve_detail result) [] (reserve_note result (done_note untouched))
      → Calls g first kept s done (λ n. then_call (renewal App name size (Some old)) n faulted (answered s SUCCESS (new_slot App name (Some old) s.store)))
  renewed (Ok slot) old moments asked stands alone room ok at full err breaks told =
      let left = after (delete old) s.store in
      calls_same g first kept s done (λ n. then_call (delete old ∷ reserve App name size ∷ []) n faulted (answered s SUCCESS slot)) (λ n. then_call (renewal App name size (Some old)) n faulted (answered s SUCCESS (new_slot App name (Some old) s.store)))
      (λ n. ap (λ k. then_call (delete old ∷ reserve App name size ∷ []) n faulted (answered s SUCCESS (unwrap_or k 0))) (at left stands))
      (by_note g first kept s done (λ n. then_call (delete old ∷ reserve App name size ∷ []) n faulted (answered s SUCCESS slot)) (done_note (done_note untouched)) told.note_is
      (calls_done g first kept s done (delete old ∷ reserve App name size ∷ []) SUCCESS slot [] (done_note untouched) moments asked told (ok left stands) (λ is. cc is) refl (refl, refl) (tt, (tt, tt)) (λ n restored torn. (restored, torn)) (λ n restored torn. tt)))
  renewed (Err NoRoom) old moments asked stands alone room ok at full err breaks told =
      let left = after (delete old) s.store in
      let none : doubtful_of App name left ≡ None = sym (doubtful_same App name before.slots left stands.slots) ∙ alone in
      absurd (cc (lacking (has_room size (doubtful_of App name left) left) (full left stands), none, room))
  renewed (Err (Bank fault)) old moments asked stands alone room ok at full err breaks told =
      let left = after (delete old) s.store in
      let slot = new_slot App name (Some old) s.store in
      by_note g first kept s done (λ n. then_call (delete old ∷ reserve App name size ∷ []) n faulted (answered s SUCCESS slot)) (broken_note fault (done_note untouched)) told.note_is
      (calls_broke g first kept s done (delete old ∷ reserve App name size ∷ []) SUCCESS slot [] (done_note untouched) moments asked (reserve App name size) refl fault told (err left stands) (breaks left stands) (λ is. (refl, refl)) (tt, tt) (λ n restored torn. (restored, torn)))

-- if room was asked for before, there is some after the deletion
pub room_left : (kind : BlockKind) (blocks : Blocks) (name : List ℕ) (size old : ℕ) (b : Bool) → has_room size (Some old) blocks ≡ true → doubtful_of kind name (after (delete old) blocks) ≡ None
    → b ≡ not (has_room size (doubtful_of kind name (after (delete old) blocks)) (after (delete old) blocks)) → b ≡ true → ⊥
room_left kind blocks name size old b room none full lacks =
    let left = after (delete old) blocks in
    let no : has_room size None left ≡ false = subst (λ (o : Option ℕ). has_room size o left ≡ false) none (lacking (has_room size (doubtful_of kind name left) left) (sym lacks ∙ full)) in
    let yes : has_room size None left ≡ true = room in
    cc (sym yes ∙ no)

-- ---- an application registers a block

-- the same by the name under which it runs
abbrev pub registered : State → Option (List ℕ) → List ℕ → ℕ → BankNote → model.Effect
registered s o short size note = by_app s o (λ app_name.
    if not (is_name short) then answered s ERR_INVALID_NAME 0
    else (if size == 0 || nat_lt table_limit size then answered s ERR_INVALID_SIZE 0
    else block_effect s (full_name app_name short) size note (open_of App (full_name app_name short) s.store)))

pub registered_is : (s : State) (app : ℕ) (short : List ℕ) (size : ℕ) (n : BankNote) → cds_register_effect s app short size n ≡ registered s (name_of s app) short size n
unfolding cds_register_effect
registered_is s app short size n = refl

module _ (s : State) (short : List ℕ) (size : ℕ) (n : BankNote) where
  pub not_running : (o : Option (List ℕ)) → None ≡ option_map (λ name. full_name name short) o → registered s o short size n ≡ answered s ERR_BAD_APP 0
  not_running None is = refl
  not_running (Some name) is = absurd (cc is)

  pub not_named : (o : Option (List ℕ)) (full : List ℕ) → Some full ≡ option_map (λ name. full_name name short) o → is_name short ≡ false → registered s o short size n ≡ answered s ERR_INVALID_NAME 0
  not_named None full is bad = absurd (cc is)
  not_named (Some name) full is bad = rw bad refl

  pub not_sized : (o : Option (List ℕ)) (full : List ℕ) → Some full ≡ option_map (λ name. full_name name short) o → is_name short ≡ true → size == 0 || nat_lt table_limit size ≡ true → registered s o short size n ≡ answered s ERR_INVALID_SIZE 0
  not_sized None full is good bad = absurd (cc is)
  not_sized (Some name) full is good bad =
      let rest = λ (b : Bool). if b then answered s ERR_INVALID_SIZE 0 else block_effect s (full_name name short) size n (open_of App (full_name name short) s.store) in
      ap (λ b. if not b then answered s ERR_INVALID_NAME 0 else rest (size == 0 || nat_lt table_limit size)) good ∙ ap rest bad

  pub all_right : (o : Option (List ℕ)) (full : List ℕ) → Some full ≡ option_map (λ name. full_name name short) o → is_name short ≡ true → size == 0 || nat_lt table_limit size ≡ false
      → registered s o short size n ≡ block_effect s full size n (open_of App full s.store)
  all_right None full is good bad = absurd (cc is)
  all_right (Some name) full is good bad =
      let rest = λ (b : Bool). if b then answered s ERR_INVALID_SIZE 0 else block_effect s (full_name name short) size n (open_of App (full_name name short) s.store) in
      ap (λ b. if not b then answered s ERR_INVALID_NAME 0 else rest (size == 0 || nat_lt table_limit size)) good ∙ ap rest bad
      ∙ ap (λ name. block_effect s name size n (open_of App name s.store)) (sym (same_Some full (full_name name short) is))

-- ---- its size

pub size_zero : (size : ℕ) → size ≡ 0 → size == 0 || nat_lt table_limit size ≡ true
size_zero size is = rw is refl

pub size_over : (size : ℕ) → 16384 < size → size == 0 || nat_lt table_limit size ≡ true
size_over size over = grind (arith, nat_tests)

pub size_good : (size : ℕ) → size ≢ 0 → size ≤ 16384 → size == 0 || nat_lt table_limit size ≡ false
size_good size some within = grind (arith, nat_tests)
