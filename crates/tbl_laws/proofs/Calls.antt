-- What the calls of a request leave of the blocks of tables, wherever they broke off.
use Rattle.std.proofs.Common.{◌≡◌, ℕ, zero, suc, List, [], ◌∷◌, Bool, true, false, not, ◌&&◌, length, arith, Option, Some, None, refl, sym, ◌∙◌}
use Rattle.std.specs.Prelude.{slice_get, slice_set}
use Rattle.std.specs.List.{fold}
use Rattle.std.specs.Option.{option_or}
use Rattle.std.specs.Str.{bytes_eq}
use Rattle.std.proofs.lemmas.List.{take_all}
use Rattle.std.proofs.lemmas.Option.{slice_get_past}
use Rattle.tbl_kinds.specs.Blocks.{Stored, Store}
use Rattle.tbl_kinds.proofs.Tries.{tried_block, tried_doubtful}
use Rattle.tbl_kinds.specs.StoreSteps.{same_kind, is_of, is_open_of, open_of, doubtful_of, stored_at, closed, has_room, tried}
use Rattle.tbl_kinds.specs.StoreCalls.{StoreCall, reserve, copy, restore, delete, after, after_first, broken}
use Rattle.tbl_model.specs.State.{Table, Tables}
use Rattle.tbl_model.specs.Tables.{table_at}
use Rattle.tbl_model.specs.StoreUse.{then_broken, left_by}
use Rattle.tbl_model.specs.AppBlocks.{any_of, renewal}
use Rattle.tbl_model.specs.TableSteps.{find, has_name}
use Rattle.tbl_kinds.specs.declared.block.BlockKind.{BlockKind}
use Rattle.tbl_kinds.specs.declared.block.BlockKind.TheVariants.{Table as of_table, App}
use Rattle.tbl_kinds.specs.declared.note.BankNote.{BankNote}
use Rattle.tbl_session.specs.Backed.{AreSingle}
use Rattle.tbl_laws.proofs.Blocks.{kinds_same, of_parts, name_is, IsOneOf, open_stands, doubtful_stands, gone, none_open, none_doubtful, closed_none, remain_single, freed_remain, change_remain, made_single}
use Rattle.tbl_laws.proofs.TableBlocks.{HasBlock, set_keeps, change_keeps, closed_keeps, made_keeps, made_has}
use Rattle.tbl_laws.proofs.Pins.{none_passes}

-- ---- calls that suit the tables

-- a call that makes no second block of one kind and name, and deletes no open block of a registered table
abbrev pub Suits : Tables → StoreCall → Store → Type 0
Suits tables (reserve kind name size) store = open_of kind name store ≡ None
Suits tables (delete slot) store = (row : ℕ) (t : Table) → table_at tables row ≡ Some t → is_open_of of_table t.name (stored_at store slot) ≡ false
Suits tables _ store = Unit {0}

abbrev pub SuitAll : Tables → List StoreCall → Store → Type 0
SuitAll tables [] store = Unit {0}
SuitAll tables (call ∷ calls) store = Suits tables call store × SuitAll tables calls (after call store)

-- ---- what they leave

-- what each of them keeps, done or broken off, all of them keep, and the last may have broken off
module _ (tables : Tables) (P : Store → Type 0) (does : (call : StoreCall) (store : Store) → Suits tables call store → P store → P (after call store))
    (breaks : (gate old : Bool) (call : StoreCall) (store : Store) → Suits tables call store → P store → P (broken gate old call store)) (note : BankNote) where
  goes : (done : ℕ) (calls : List StoreCall) (store : Store) → SuitAll tables calls store → P store → P (then_broken note (slice_get calls done) (after_first done calls store))
  goes zero [] store suit p = p
  goes zero (call ∷ calls) store suit p = breaks note.gate note.old call store suit.0 p
  goes (suc done) [] store suit p = p
  goes (suc done) (call ∷ calls) store suit p = goes done calls (after call store) suit.1 (does call store suit.0 p)

  all_keep : (calls : List StoreCall) (store : Store) → SuitAll tables calls store → P store → P (left_by calls note store)
  all_keep calls store suit p = goes note.done calls store suit p

module _ (tables : Tables) where
  -- the block of a registered table
  module _ (row : ℕ) (t : Table) (registered : table_at tables row ≡ Some t) where
    does_keep : (call : StoreCall) (store : Store) → Suits tables call store → HasBlock store t.name t.size → HasBlock (after call store) t.name t.size
    does_keep (reserve kind other len) store suits has = made_keeps t.name t.size false kind other len (closed kind other store) (closed_keeps t.name t.size kind other store has)
    does_keep (copy slot image) store suits has = change_keeps store slot _ t.name t.size (λ b. refl) (λ b. refl) has
    does_keep (restore slot given) store suits has = change_keeps store slot _ t.name t.size (λ b. refl) (λ b. refl) has
    does_keep (delete slot) store suits has = set_keeps store slot None t.name t.size (suits row t registered) has

    breaks_keep : (gate old : Bool) (call : StoreCall) (store : Store) → Suits tables call store → HasBlock store t.name t.size → HasBlock (broken gate old call store) t.name t.size
    breaks_keep false old (reserve kind other len) store suits has = closed_keeps t.name t.size kind other store has
    breaks_keep true false (reserve kind other len) store suits has = made_keeps t.name t.size true kind other len (closed kind other store) (closed_keeps t.name t.size kind other store has)
    breaks_keep true true (reserve kind other len) store suits has = has
    breaks_keep gate old (copy slot image) store suits has = change_keeps store slot (tried gate image) t.name t.size (tried_block gate image) (tried_doubtful gate image) has
    breaks_keep gate old (restore slot given) store suits has = has
    breaks_keep gate old (delete slot) store suits has = set_keeps store slot _ t.name t.size (suits row t registered) has

    pub calls_keep : (calls : List StoreCall) (note : BankNote) (store : Store) → SuitAll tables calls store → HasBlock store t.name t.size → HasBlock (left_by calls note store) t.name t.size
    calls_keep calls note store suit has = all_keep tables (λ blocks. HasBlock blocks t.name t.size) does_keep breaks_keep note calls store suit has

  -- and that no two are of one kind and name
  pub does_single : (call : StoreCall) (store : Store) → Suits tables call store → AreSingle store → AreSingle (after call store)
  does_single (reserve kind name size) store suits single =
      made_single false kind name size (closed kind name store) (closed_none kind name store single suits) (remain_single store _ (freed_remain store (doubtful_of kind name store)) single)
  does_single (copy slot image) store suits single = remain_single store _ (change_remain store slot _ (λ b. refl)) single
  does_single (restore slot given) store suits single = remain_single store _ (change_remain store slot _ (λ b. refl)) single
  does_single (delete slot) store suits single = remain_single store _ (freed_remain store (Some slot)) single

  pub breaks_single : (gate old : Bool) (call : StoreCall) (store : Store) → Suits tables call store → AreSingle store → AreSingle (broken gate old call store)
  breaks_single false old (reserve kind name size) store suits single = remain_single store _ (freed_remain store (doubtful_of kind name store)) single
  breaks_single true false (reserve kind name size) store suits single =
      made_single true kind name size (closed kind name store) (closed_none kind name store single suits) (remain_single store _ (freed_remain store (doubtful_of kind name store)) single)
  breaks_single true true (reserve kind name size) store suits single = single
  breaks_single gate old (copy slot image) store suits single = remain_single store _ (change_remain store slot (tried gate image) (tried_block gate image)) single
  breaks_single gate old (restore slot given) store suits single = single
  breaks_single gate old (delete slot) store suits single = remain_single store _ (change_remain store slot _ (λ b. refl)) single

  pub calls_single : (calls : List StoreCall) (note : BankNote) (store : Store) → SuitAll tables calls store → AreSingle store → AreSingle (left_by calls note store)
  calls_single calls note store suit single = all_keep tables AreSingle does_single breaks_single note calls store suit single

-- ---- the calls of requests

-- a block of another kind, or of a table that isn't registered, is no open block of a registered table
module _ (tables : Tables) (row : ℕ) (t : Table) (registered : table_at tables row ≡ Some t) (b : Stored) where
  app_apart : b.block.kind ≡ App → is_open_of of_table t.name (Some b) ≡ false
  app_apart is = rw is refl

  pub unregistered_apart : (name : List ℕ) → find name tables ≡ None → is_of of_table name b.block ≡ true → is_open_of of_table t.name (Some b) ≡ false
  unregistered_apart name none is = by (is_of of_table t.name b.block) refl where
    other : bytes_eq t.name name ≡ false
    other = none_passes (has_name name) tables.rows row t none registered

    by : (same : Bool) → is_of of_table t.name b.block ≡ same → (same && not b.doubtful) ≡ false
    by false same = refl
    by true same = absurd (cc (rw (sym (of_parts of_table t.name b.block same).1 ∙ (of_parts of_table name b.block is).1) at other, name_is name))

module _ (tables : Tables) (store : Store) where
  -- a block is newly made, which none of the tables has
  renewal_suits : (kind : BlockKind) (name : List ℕ) (size : ℕ) → AreSingle store → ((row : ℕ) (t : Table) (b : Stored) → table_at tables row ≡ Some t → is_of kind name b.block ≡ true → is_open_of of_table t.name (Some b) ≡ false)
      → SuitAll tables (renewal kind name size (open_of kind name store)) store
  renewal_suits kind name size single apart = by (open_of kind name store) refl where
    by : (old : Option ℕ) → open_of kind name store ≡ old → SuitAll tables (renewal kind name size old) store
    by None none = (none, tt)
    by (Some slot) is =
        let stands = open_stands kind name store slot is in
        (λ row t registered. rw stands.there (apart row t stands.b registered stands.is), (none_open kind name _ (gone kind name store single slot stands), tt))

  pub app_renewal_suits : (name : List ℕ) (size : ℕ) → AreSingle store → SuitAll tables (renewal App name size (open_of App name store)) store
  app_renewal_suits name size single = renewal_suits App name size single (λ row t b registered is. app_apart tables row t registered b (of_parts App name b.block is).0)

  pub table_renewal_suits : (name : List ℕ) (size : ℕ) → AreSingle store → find name tables ≡ None → SuitAll tables (renewal of_table name size (open_of of_table name store)) store
  table_renewal_suits name size single none = renewal_suits of_table name size single (λ row t b registered is. unregistered_apart tables row t registered b name none is)

  -- a block is deleted that is an application's, or that of a table that isn't registered
  pub app_delete_suits : (slot : ℕ) (b : Stored) → stored_at store slot ≡ Some b → same_kind b.block.kind App ≡ true → SuitAll tables (delete slot ∷ []) store
  app_delete_suits slot b there is = (λ row t registered. rw there (app_apart tables row t registered b (kinds_same b.block.kind App is)), tt)

  pub table_delete_suits : (name : List ℕ) (slot : ℕ) → any_of of_table name store ≡ Some slot → find name tables ≡ None → SuitAll tables (delete slot ∷ []) store
  table_delete_suits name slot is none = (λ row t registered. rw stands.there (unregistered_apart tables row t registered stands.b name none stands.is), tt) where
    by : (found : Option ℕ) → open_of of_table name store ≡ found → option_or found (doubtful_of of_table name store) ≡ Some slot → IsOneOf store of_table name slot
    by None none here = doubtful_stands of_table name store slot here
    by (Some k) at here = open_stands of_table name store slot (at ∙ here)

    stands : IsOneOf store of_table name slot
    stands = by (open_of of_table name store) refl is

-- ---- all of them are done

pub all_done : (calls : List StoreCall) (note : BankNote) (store : Store) → note.done ≡ length calls → left_by calls note store ≡ fold (λ blocks call. after call blocks) store calls
all_done calls note store done = rw (slice_get_past calls note.done (omega (arith, done)), take_all note.done calls (omega (arith, done))) refl

-- a block that was newly made for a table is its block
pub renewal_has : (name : List ℕ) (size : ℕ) (store : Store) → AreSingle store → has_room size (any_of of_table name store) store ≡ true
    → HasBlock (fold (λ blocks call. after call blocks) store (renewal of_table name size (open_of of_table name store))) name size
renewal_has name size store single room = by (open_of of_table name store) refl room where
  by : (old : Option ℕ) → open_of of_table name store ≡ old → has_room size (option_or old (doubtful_of of_table name store)) store ≡ true
      → HasBlock (fold (λ blocks call. after call blocks) store (renewal of_table name size old)) name size
  by None none is = made_has name size (closed of_table name store) is
  by (Some slot) at is =
      let none = none_doubtful of_table name (slice_set store slot None) (gone of_table name store single slot (open_stands of_table name store slot at)) in
      rw none (made_has name size (slice_set store slot None) is)
