-- Blocks of an application's own: what the slot of one says, and what the model does with it.
use Rattle.std.proofs.Common.{◌≡◌, ℕ, zero, suc, ◌<◌, arith, get_or, ◌==◌, List, [], ◌∷◌, length, Bool, true, false, not, ◌&&◌, cond, Option, Some, None, is_some, refl, sym, ◌∙◌, ap, subst}
use Rattle.std.specs.Prelude.{slice_get, position, IfSome, IfNone}
use Rattle.std.specs.List.{starts_with}
use Rattle.std.specs.Option.{option_map}
use Rattle.std.proofs.lemmas.List.Quantifiers.{position-Some}
use Rattle.tbl_kinds.specs.Blocks.{Stored}
use Rattle.tbl_kinds.specs.StoreCalls.{copy, restore, delete}
use Rattle.tbl_kinds.specs.StoreSteps.{stored_at}
use Rattle.tbl_kinds.specs.Notes.{restored_image}
use Rattle.tbl_kinds.specs.declared.block.BlockKind.TheVariants.{Table}
use Rattle.tbl_kinds.specs.declared.note.BankNote.{BankNote}
use Rattle.tbl_kinds.specs.declared.status.TheConstants.Status.{SUCCESS, ERR_IMAGE_SIZE, ERR_CDS_NOT_FOUND, ERR_TABLE_ACTIVE, ERR_NO_SUCH_TABLE}
use Rattle.tbl_kinds.specs.declared.status.Status.{Status}
use Rattle.tbl_model.specs.State.{State, Table as Row, Tables}
use Rattle.tbl_model.specs.Tables.{table_at}
use Rattle.tbl_model.specs.TableSteps.{find}
use Rattle.tbl_model.specs.declared.telemetry.Named.{Named}
use Rattle.tbl_model.specs.Effects.{Effect, answered, named}
use Rattle.tbl_model.specs.Subjects.{name_of, by_app, by_row, by_table, if_table}
use Rattle.tbl_model.specs.StoreUse.{then_call}
use Rattle.tbl_model.specs.AppBlocks.{faulted, is_named_by, by_block, if_block, restore_answer, cds_copy_effect, cds_restore_effect, cds_delete_effect, delete_table_block}
use Rattle.cds_store.specs.Slots.{is_doubtful_slot, doubtful_slot}
use Rattle.cds_store.specs.Sound.{slot_at, IsOpenOf}
use Rattle.cds_store.specs.StoreBlocks.{StoreParts, StandsFor, slot_of}
use Rattle.cds_store.proofs.Showing.{slot_is}
use Rattle.cds_store.specs.declared.slot.Slot.{Slot}
use Rattle.store_requests.specs.Called.{is_own_slot}
use Rattle.store_requests.specs.OwnBlocks.{FindsOwn, Misses, copying, restoring, deleting}
use Rattle.tbl_outside.specs.declared.bank.Bank.{Ghosts}

-- ---- the model

by_place : (s : State) (name : List ℕ) (o : Option Stored) (size : ℕ) (effect : Stored → Effect) → is_own_slot name (option_map slot_of o) ≡ true → IsOpenOf size (option_map slot_of o)
    → (b : Stored) × (b.block.size ≡ size) × (by_block s name o effect ≡ effect b)
by_place s name None size effect own sized = absurd (cc own)
by_place s name (Some b) size effect own sized = (b, sized.1, rw own refl)

no_place : (s : State) (name : List ℕ) (o : Option Stored) (effect : Stored → Effect) → is_own_slot name (option_map slot_of o) ≡ false → by_block s name o effect ≡ answered s ERR_CDS_NOT_FOUND 0
no_place s name None effect own = refl
no_place s name (Some b) effect own = rw own refl

module _ {B : Type 0} (g : Ghosts B) (kept : StoreParts B) (s : State) (app slot : ℕ) (effect : Stored → Effect) (stands : StandsFor g.tells g.now kept s.store) (name : List ℕ) (runs : name_of s app ≡ Some name) where
  at_slot : slot_at kept.slots slot ≡ option_map slot_of (stored_at s.store slot)
  at_slot = slot_is [] kept.slots s.store stands.slots slot

  pub own_found : (size : ℕ) → is_own_slot name (slot_at kept.slots slot) ≡ true → IsOpenOf size (slot_at kept.slots slot) → (b : Stored) × (b.block.size ≡ size) × (if_block s app slot effect ≡ effect b)
  own_found size own sized =
      let b = by_place s name (stored_at s.store slot) size effect (ap (is_own_slot name) (sym at_slot) ∙ own) (subst (IsOpenOf size) at_slot sized) in
      (b.0, b.1, ap (λ o. by_app s o (λ app_name. by_block s app_name (stored_at s.store slot) effect)) runs ∙ b.2)

-- ---- the requests

turned : (b : Bool) (x y : Effect) → cond (not b) x y ≡ cond b y x
turned true x y = refl
turned false x y = refl

pub copy_means : (s : State) (app slot own size : ℕ) (image : List ℕ) → own ≡ slot → FindsOwn s app slot size → (n : BankNote)
    → cds_copy_effect s app slot image n ≡ copying s own size image n
unfolding cds_copy_effect
copy_means s app slot own size image same finds n =
    let done = then_call (copy slot image ∷ []) n faulted (answered s SUCCESS 0) in
    let b = finds (λ b. cond (not (length image == b.block.size)) (answered s ERR_IMAGE_SIZE 0) done) in
    b.2 ∙ turned (length image == b.0.block.size) (answered s ERR_IMAGE_SIZE 0) done
    ∙ ap (λ z. cond (length image == z) done (answered s ERR_IMAGE_SIZE 0)) b.1
    ∙ ap (λ k. cond (length image == size) (then_call (copy k image ∷ []) n faulted (answered s SUCCESS 0)) (answered s ERR_IMAGE_SIZE 0)) (sym same)

pub restore_means : (s : State) (app slot own size : ℕ) → own ≡ slot → FindsOwn s app slot size → (n : BankNote)
    → cds_restore_effect s app slot n ≡ restoring s own n
unfolding cds_restore_effect
restore_means s app slot own size same finds n =
    (finds (λ b. then_call (restore slot (restored_image n) ∷ []) n faulted (restore_answer s n.torn (restored_image n)))).2
    ∙ ap (λ k. then_call (restore k (restored_image n) ∷ []) n faulted (restore_answer s n.torn (restored_image n))) (sym same)

pub delete_means : (s : State) (app slot own size : ℕ) → own ≡ slot → FindsOwn s app slot size → (n : BankNote)
    → cds_delete_effect s app slot n ≡ deleting s own n
unfolding cds_delete_effect
delete_means s app slot own size same finds n =
    (finds (λ b. then_call (delete slot ∷ []) n faulted (answered s SUCCESS 0))).2
    ∙ ap (λ k. then_call (delete k ∷ []) n faulted (answered s SUCCESS 0)) (sym same)

-- ---- nothing is there

pub no_copy : (s : State) (app slot : ℕ) (image : List ℕ) (status : Status) → Misses s app slot status → (n : BankNote) → cds_copy_effect s app slot image n ≡ answered s status 0
unfolding cds_copy_effect
no_copy s app slot image status misses n = misses (λ b. cond (not (length image == b.block.size)) (answered s ERR_IMAGE_SIZE 0) (then_call (copy slot image ∷ []) n faulted (answered s SUCCESS 0)))

pub no_restore : (s : State) (app slot : ℕ) (status : Status) → Misses s app slot status → (n : BankNote) → cds_restore_effect s app slot n ≡ answered s status 0
unfolding cds_restore_effect
no_restore s app slot status misses n = misses (λ b. then_call (restore slot (restored_image n) ∷ []) n faulted (restore_answer s n.torn (restored_image n)))

pub no_delete : (s : State) (app slot : ℕ) (status : Status) → Misses s app slot status → (n : BankNote) → cds_delete_effect s app slot n ≡ answered s status 0
unfolding cds_delete_effect
no_delete s app slot status misses n = misses (λ b. then_call (delete slot ∷ []) n faulted (answered s SUCCESS 0))

-- ---- names

-- the byte after a name's first ones is a dot
abbrev pub is_dot : Option ℕ → Bool
is_dot None = false
is_dot (Some x) = 46 == x

pub got : (xs : List ℕ) (i d : ℕ) → i < length xs → slice_get xs i ≡ Some (get_or xs i d)
got [] i d within = absurd (omega arith)
got (x ∷ xs) zero d within = refl
got (x ∷ xs) (suc i) d within = got xs i d (omega arith)

and_true : (b : Bool) → b && true ≡ b
and_true true = refl
and_true false = refl

and_assoc : (a b c : Bool) → (a && b) && c ≡ a && (b && c)
and_assoc true b c = refl
and_assoc false b c = refl

pub named_by : (app xs : List ℕ) → is_named_by app xs ≡ starts_with (λ a b. a == b) xs app && is_dot (slice_get xs (length app))
named_by [] [] = refl
named_by [] (x ∷ xs) = and_true (46 == x)
named_by (a ∷ app) [] = refl
named_by (a ∷ app) (x ∷ xs) = ap (λ b. (a == x) && b) (named_by app xs) ∙ sym (and_assoc (a == x) (starts_with (λ a b. a == b) xs app) (is_dot (slice_get xs (length app))))

-- ---- tables' blocks

there : (p : Option Slot → Bool) (o : Option Slot) → p None ≡ false → p o ≡ true → is_some o ≡ true
there p None none is = cc
there p (Some s) none is = refl

pub found_there : (p : Option Slot → Bool) (slots : List (Option Slot)) (n : ℕ) → p None ≡ false → position p slots ≡ Some n → is_some (slot_at slots n) ≡ true
found_there p slots n none at = there p (slot_at slots n) none (position-Some p slots n None at).1

-- the table that a command is about
about : (s : State) (name : List ℕ) (row : Option ℕ) (effect : ℕ → Row → Effect) → (by_row s name row effect).table ≡ named name row
about s name None effect = refl
about s name (Some row) effect = refl

pub subject_is : (s : State) (tables : Tables) (name : List ℕ) (table : Option Named) → s.tables ≡ tables
    → IfSome table (λ table. (s : State) (effect : ℕ → Row → Effect) → s.tables ≡ tables → if_table s name effect ≡ record (by_table s ERR_NO_SUCH_TABLE (table_at tables table.row) (effect table.row)) { table = Some table })
    → IfNone table ((s : State) (effect : ℕ → Row → Effect) → s.tables ≡ tables → if_table s name effect ≡ answered s ERR_NO_SUCH_TABLE 0)
    → named name (find name s.tables) ≡ table
subject_is s tables name None same found missing = sym (about s name (find name s.tables) (λ row t. answered s SUCCESS 0)) ∙ ap (λ (e : Effect). e.table) (missing s (λ row t. answered s SUCCESS 0) same)
subject_is s tables name (Some table) same found missing = sym (about s name (find name s.tables) (λ row t. answered s SUCCESS 0)) ∙ ap (λ (e : Effect). e.table) (found s (λ row t. answered s SUCCESS 0) same)

pub some_named : (name : List ℕ) (row : Option ℕ) → is_some (named name row) ≡ is_some row
some_named name None = refl
some_named name (Some row) = refl

pub doubtful_there : (slots : List (Option Slot)) (name : List ℕ) (o : Option ℕ) → o ≡ doubtful_slot Table name slots → IfSome o (λ n. is_some (slot_at slots n) ≡ true)
doubtful_there slots name None is = tt
doubtful_there slots name (Some n) is = found_there (is_doubtful_slot Table name) slots n refl (sym is)

pub table_means : (s : State) (n : BankNote) (any row : Option ℕ) (slot : ℕ) → any ≡ Some slot → is_some row ≡ false → delete_table_block s n any row ≡ deleting s slot n
table_means s n any None slot is none = ap (λ o. delete_table_block s n o None) is
table_means s n any (Some row) slot is none = absurd (cc none)

pub none_means : (s : State) (n : BankNote) (any row : Option ℕ) → any ≡ None → delete_table_block s n any row ≡ answered s ERR_CDS_NOT_FOUND 0
none_means s n any row none = ap (λ o. delete_table_block s n o row) none

pub active_means : (s : State) (n : BankNote) (any row : Option ℕ) (slot : ℕ) → any ≡ Some slot → is_some row ≡ true → delete_table_block s n any row ≡ answered s ERR_TABLE_ACTIVE 0
active_means s n any (Some row) slot is there = ap (λ o. delete_table_block s n o (Some row)) is
active_means s n any None slot is there = absurd (cc there)
