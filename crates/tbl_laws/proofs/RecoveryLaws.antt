-- Recovery: after a reset at any moment a critical table begins with the image of its last completed copy, or with one whose copy broke off.
use Rattle.std.proofs.Common.{◌≡◌, ℕ, eqb, List, [], ◌∷◌, suc, length, take, true, false, cond, replicate, Option, Some, None, is_some, refl, sym, ap, ◌∙◌, inl, inr, subst, arith}
use Rattle.std.specs.Prelude.{◌-◌, ◌≤◌, ◌<◌, slice_get, slice_set, IsSome, Contains, ◌⊎◌, nat_le, option_and_then}
use Rattle.std.proofs.lemmas.Bool.{eq-eqb}
use Rattle.std.proofs.lemmas.Bool.Decides.{nat_tests}
use Rattle.std.proofs.lemmas.List.{get_or-set_same, set-get_or, length-set}
use Rattle.std.proofs.lemmas.Option.{slice_get_read, same_Some}
use Rattle.tbl_kinds.specs.Admitted.{Admitted}
use Rattle.tbl_kinds.specs.Blocks.{Stored, Store}
use Rattle.tbl_kinds.specs.Free.{least_free}
use Rattle.tbl_kinds.specs.Notes.{restored_image}
use Rattle.tbl_kinds.specs.StoreSteps.{is_open_of, open_of, stored_at, with_held, IsHeldOrTried, MayGive, Shows}
use Rattle.tbl_kinds.proofs.Tries.{sure_gives}
use Rattle.tbl_kinds.specs.StoreCalls.{StoreCall, restore}
use Rattle.tbl_kinds.proofs.FreeLaws.{least_free-within}
use Rattle.tbl_model.specs.State.{State, Table, no_tables}
use Rattle.tbl_model.specs.Tables.{has_option, critical_count}
use Rattle.tbl_model.specs.Subjects.{name_of}
use Rattle.tbl_model.specs.Applications.{full_name}
use Rattle.tbl_model.specs.TableSteps.{new_table, with_first}
use Rattle.tbl_model.specs.Effects.{Effect}
use Rattle.tbl_model.specs.Registration.{registration_refusal, register_effect}
use Rattle.tbl_model.specs.CriticalTables.{critical_limit, not_kept, recovered, instead}
use Rattle.tbl_model.specs.StoreUse.{left_by, with_calls, by_outcome, then_call}
use Rattle.tbl_model.specs.Boots.{stopped}
use Rattle.tbl_model.specs.Refusals.{plan_refusal}
use Rattle.tbl_model.specs.StoreNotes.{Ends, MayGoOn, IsNoteOf}
use Rattle.tbl_session.specs.Crashes.{AfterCrash}
use Rattle.tbl_model.proofs.RefusalLaws.{TakesName, registration_taken}
use Rattle.tbl_kinds.specs.declared.block.Block.{Block}
use Rattle.tbl_kinds.specs.declared.block.BlockKind.TheVariants.{Table as of_table}
use Rattle.tbl_kinds.specs.declared.entry.Entry.{Entry}
use Rattle.tbl_kinds.specs.declared.note.Outcome.{Outcome}
use Rattle.tbl_kinds.specs.declared.note.Outcome.TheVariants.{Done as AllDone}
use Rattle.tbl_kinds.specs.declared.status.TheConstants.Status.{SUCCESS, INFO_RECOVERED_TBL}
use Rattle.tbl_session.specs.Backed.{AreSingle}
use Rattle.tbl_session.specs.Completed.{completed, HasCompleted}
use Rattle.tbl_session.specs.Recovery.{IsHistory, blocks_at, IsBlockOf, IsShown, WasCopied, Registration, registering, Registers, Begins, Recovers, BeginsEmpty, ComesBack, request_of, started}
use Rattle.tbl_laws.proofs.Blocks.{is_of_parts}
use Rattle.tbl_laws.proofs.Calls.{all_done}
use Rattle.tbl_laws.proofs.Crashes.{crash_shows, crash_single, left_single, IsLeft, is_left, open_shown, open_found}

-- ---- a registration that finds its block

-- its only call is that which restores it
restores_block : (s : State) (r : Registration) (app_name name : List ℕ) (row handle slot : ℕ) (b : Stored)
    → name_of s r.app ≡ Some app_name → full_name app_name r.short ≡ name → registration_refusal s r.app name r.short r.size r.flags r.validator ≡ None
    → least_free s.tables.rows ≡ Some row → least_free s.tables.handles ≡ Some handle → has_option 0x0008 r.flags ≡ true → nat_le critical_limit (critical_count s.tables) ≡ false
    → open_of of_table name s.store ≡ Some slot → stored_at s.store slot ≡ Some b → eqb b.block.size r.size ≡ true
    → let t = new_table name r.app r.size r.flags r.validator handle in
    registering s r ≡ then_call (restore slot (restored_image r.note) ∷ []) r.note (instead (not_kept s row t)) (recovered s row t (restored_image r.note))
unfolding register_effect
restores_block s r app_name name row handle slot b runs full taken row_is handle_is critical few found there sized = rw (runs, full, taken, row_is, handle_is, critical, few, found, there, sized) refl

-- the block is there, and it holds what a restore of it gives
record Finds (s : State) (name : List ℕ) (size slot : ℕ) (b : Stored) : Type 0 where
  slot_is : open_of of_table name s.store ≡ Some slot
  there : stored_at s.store slot ≡ Some b
  sized : b.block.size ≡ size
  settled : b.trying ≡ []

module _ (left : Store) (s : State) (name : List ℕ) (r : Registration) (over : Registers left s name r) (slot : ℕ) (b : Stored) (finds : Finds s name r.size slot b) where
  takes : TakesName s r.app name r.short r.size r.flags r.validator
  takes = registration_taken s r.app name r.short r.size r.flags r.validator over.taken

  -- the table as it is asked for, with the least free handle
  abbrev new : Table
  new = new_table name r.app r.size r.flags r.validator takes.handle.0

  abbrev given : Option (List ℕ)
  given = restored_image r.note

  abbrev only : List StoreCall
  only = restore slot given ∷ []

  few : nat_le critical_limit (critical_count s.tables) ≡ false
  few = let few = over.few in grind (arith, nat_tests)

  -- it is restored
  restores : registering s r ≡ with_calls only r.note (recovered s takes.row.0 new given)
  restores = restores_block s r over.app_name name takes.row.0 takes.handle.0 slot b over.runs over.full over.taken takes.row.1 takes.handle.1 over.critical few finds.slot_is finds.there (eq-eqb b.block.size r.size finds.sized)
      ∙ ap (λ (outcome : Outcome). by_outcome outcome (with_calls only r.note (recovered s takes.row.0 new given)) (instead (not_kept s takes.row.0 new) (with_calls only r.note (recovered s takes.row.0 new given))) (stopped r.note (with_calls only r.note (recovered s takes.row.0 new given)))) over.done

  calls : (registering s r).calls ≡ only
  calls = ap (λ (e : Effect). e.calls) restores

  done : r.note.done ≡ 1
  done = (subst (λ (outcome : Outcome). Ends outcome (registering s r).calls s.store r.note) over.done over.noted.ends).1 ∙ ap length calls

  -- so it gives what it holds
  gives : given ≡ b.held
  gives =
      let went : MayGoOn (take r.note.done only) s.store = subst (λ (calls : List StoreCall). MayGoOn (take r.note.done calls) s.store) calls over.noted.gave in
      let may : MayGoOn only s.store = subst (λ (count : ℕ). MayGoOn (take count only) s.store) done went in
      rw finds.settled at (may.0 b finds.there).0

  -- and the blocks stay as they were
  keeps : left_by only r.note s.store ≡ left
  keeps = all_done only r.note s.store done ∙ rw finds.there same ∙ over.store where
    held : with_held given b ≡ b
    held = λ i. record { block = b.block; held = gives i; trying = sym finds.settled i; doubtful = b.doubtful }

    same : slice_set s.store slot (Some (with_held given b)) ≡ s.store
    same = rw (held, ← finds.there) (set-get_or s.store slot None)

  begins : Begins left (registering s r) name b.held
  begins = rw restores (record {
    row = takes.row.0;
    table = with_first given new;
    there = get_or-set_same s.tables.rows takes.row.0 (Some (with_first given new)) None (least_free-within s.tables.rows takes.row.0 takes.row.1);
    named = refl;
    critical = over.critical;
    image = gives;
    store = keeps;
  })

  told : (registering s r).status ≡ cond (is_some b.held) INFO_RECOVERED_TBL SUCCESS
  told = ap (λ (e : Effect). e.status) restores ∙ ap (λ (image : Option (List ℕ)). cond (is_some image) INFO_RECOVERED_TBL SUCCESS) gives

-- ---- what a restore may give was copied

among : (images : List (List ℕ)) (held : Option (List ℕ)) (image : List ℕ) → IsHeldOrTried images held (Some image) → (held ≡ Some image) ⊎ Contains images image
among [] held image gives = inl (sym gives)
among (first ∷ images) held image (inl is) = inr (0, omega arith, sym (same_Some image first is))
among (first ∷ images) held image (inr gives) = elim (among images held image gives) [ inl is ↦ inl is | inr later ↦ inr (suc later.0, (let within = later.1 in omega (arith, within)), later.2) ]

was_copied : (b : Stored) (image : List ℕ) → MayGive b (Some image) → WasCopied b image
was_copied b image gives = among b.trying b.held image gives

never : (images : List (List ℕ)) (held : Option (List ℕ)) → IsSome held → IsHeldOrTried images held None → ⊥
never [] None some gives = cc some
never [] (Some image) some gives = cc gives
never (first ∷ images) held some (inl is) = cc is
never (first ∷ images) held some (inr gives) = never images held some gives

never_none : (b : Stored) → IsSome b.held → MayGive b None → ⊥
never_none b some gives = never b.trying b.held some gives

-- ---- what a reset left of a block of a table is found

-- the table begins with this image, or with none
abbrev pub StartsWith : Store → Effect → List ℕ → Option (List ℕ) → Type 0
StartsWith left e name None = BeginsEmpty left e name
StartsWith left e name (Some image) = Recovers left e name image

module _ (left : Store) (s : State) (name : List ℕ) (r : Registration) (over : Registers left s name r) (store : Store) (shows : Shows store left) (single : AreSingle store) (slot : ℕ) (b : Stored) (is : IsBlockOf name r.size b.block)
    (there : stored_at store slot ≡ Some b) (shown : IsSome (stored_at left slot)) where
  stays : IsLeft left slot b
  stays = is_left store left slot b shows there shown

  is_open_one : is_open_of of_table name (Some stays.found) ≡ true
  is_open_one = rw (ap (λ (x : Stored). x.doubtful) stays.is, is_of_parts of_table name stays.found.block (ap (λ (x : Stored). x.block.kind) stays.is ∙ is.is_table) (ap (λ (x : Stored). x.block.name) stays.is ∙ is.named)) refl

  finds : Finds s name r.size slot stays.found
  finds = record {
    slot_is = ap (open_of of_table name) over.store ∙ open_found of_table name left slot stays.found (left_single store left shows single) stays.there is_open_one;
    there = ap (λ (blocks : Store). stored_at blocks slot) over.store ∙ stays.there;
    sized = ap (λ (x : Stored). x.block.size) stays.is ∙ is.sized;
    settled = ap (λ (x : Stored). x.trying) stays.is;
  }

  -- the table begins with what is left, whatever that is
  starts : (held : Option (List ℕ)) → stays.found.held ≡ held → StartsWith left (registering s r) name held
  starts None is = record {
    status = told left s name r over slot stays.found finds ∙ ap (λ (image : Option (List ℕ)). cond (is_some image) INFO_RECOVERED_TBL SUCCESS) is;
    begins = subst (λ (image : Option (List ℕ)). Begins left (registering s r) name image) is (begins left s name r over slot stays.found finds);
  }
  starts (Some image) is = record {
    status = told left s name r over slot stays.found finds ∙ ap (λ (image : Option (List ℕ)). cond (is_some image) INFO_RECOVERED_TBL SUCCESS) is;
    begins = subst (λ (image : Option (List ℕ)). Begins left (registering s r) name image) is (begins left s name r over slot stays.found finds);
  }

  -- a block that isn't in doubt comes back with what it holds
  sure_comes_back : b.trying ≡ [] → StartsWith left (registering s r) name b.held
  sure_comes_back none = starts b.held (sure_gives b stays.found.held none stays.may)

  -- and one that is in doubt with that, or with an image whose copy broke off since
  copied_comes_back : ComesBack (WasCopied b) left (registering s r) name
  copied_comes_back = by stays.found.held refl where
    by : (held : Option (List ℕ)) → stays.found.held ≡ held → ComesBack (WasCopied b) left (registering s r) name
    by None at = inr (starts None at)
    by (Some image) at = inl (image, was_copied b image (subst (MayGive b) at stays.may), starts (Some image) at)

  -- with none only if the block holds none
  never_comes_empty : IsSome b.held → (image : List ℕ) × WasCopied b image × Recovers left (registering s r) name image
  never_comes_empty some = by stays.found.held refl where
    by : (held : Option (List ℕ)) → stays.found.held ≡ held → (image : List ℕ) × WasCopied b image × Recovers left (registering s r) name image
    by None at = absurd (never_none b some (subst (MayGive b) at stays.may))
    by (Some image) at = (image, was_copied b image (subst (MayGive b) at stays.may), starts (Some image) at)

-- ---- after a reset at any moment of a history

module _ (opening : State) (entries : List Entry) (place : ℕ) (left : Store) (crash : AfterCrash opening entries place left) (history : IsHistory opening entries) (s : State) (name : List ℕ) (r : Registration) (over : Registers left s name r) where
  abbrev Blocks : Store
  Blocks = blocks_at opening entries place left crash

  shows : Shows Blocks left
  shows = crash_shows opening entries place left crash

  single : AreSingle Blocks
  single = crash_single opening entries place left crash history

  -- a table whose last copy was completed begins with its image
  pub recovers : (slot : ℕ) (block : Block) (image : List ℕ) → IsBlockOf name r.size block → HasCompleted Blocks slot block image → Recovers left (registering s r) name image
  recovers slot block image is holds = sure_comes_back left s name r over Blocks shows single slot (completed block image) is holds (open_shown Blocks left slot (completed block image) shows holds refl) refl

  -- a block that the reset left, and that isn't in doubt, gives what it holds
  pub gives_what_it_holds : (slot : ℕ) (b : Stored) → IsBlockOf name r.size b.block → IsShown Blocks left slot b → b.trying ≡ [] → StartsWith left (registering s r) name b.held
  gives_what_it_holds slot b is shown none = sure_comes_back left s name r over Blocks shows single slot b is shown.there shown.shown none

  -- any that the reset left begins with an image that was copied, completed last or broken off since, or with none
  pub recovers_copied : (slot : ℕ) (b : Stored) → IsBlockOf name r.size b.block → IsShown Blocks left slot b → ComesBack (WasCopied b) left (registering s r) name
  recovers_copied slot b is shown = copied_comes_back left s name r over Blocks shows single slot b is shown.there shown.shown

  -- with none only if the block holds none
  pub loses_none : (slot : ℕ) (b : Stored) → IsBlockOf name r.size b.block → IsShown Blocks left slot b → IsSome b.held → (image : List ℕ) × WasCopied b image × Recovers left (registering s r) name image
  loses_none slot b is shown some = never_comes_empty left s name r over Blocks shows single slot b is shown.there shown.shown some

-- ---- a start over the image that a reset left

-- the application runs
runs_at : (n : ℕ) (apps : List (Option (List ℕ))) (name : List ℕ) → n < length apps → option_and_then (λ (found : Option (List ℕ)). found) (slice_get (slice_set apps n (Some name)) n) ≡ Some name
runs_at n apps name within = rw (slice_get_read (slice_set apps n (Some name)) (length apps) n (Some name) (sym (length-set apps n (Some name))) within (sym (get_or-set_same apps n (Some name) (Some name) within))) refl

-- nothing is registered there, so only what is asked for can be in the way of a registration
pub registers_at_start : (left : Store) (kit : List (Option ℕ)) (admit : Admitted) (app_name : List ℕ) (r : Registration) → 1 ≤ r.app → r.app ≤ 16 → plan_refusal kit r.app r.short r.size r.flags r.validator ≡ None → has_option 0x0008 r.flags ≡ true
    → IsNoteOf (request_of r) (registering (started left kit admit r.app app_name) r).calls left r.note → r.note.outcome ≡ AllDone → Registers left (started left kit admit r.app app_name) (full_name app_name r.short) r
registers_at_start left kit admit app_name r some most plan critical noted done = record {
  store = refl;
  app_name = app_name;
  runs = runs_at (r.app - 1) (replicate 16 None) app_name (omega (arith, some, most));
  full = refl;
  taken = rw plan refl;
  critical = critical;
  few = let none : critical_count no_tables ≡ 0 = refl in omega (arith, none);
  noted = noted;
  done = done;
}
