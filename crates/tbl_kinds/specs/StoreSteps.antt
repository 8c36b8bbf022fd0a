-- What is asked of the store's blocks, what each call does to them, and what a reset leaves of them.
use Rattle.std.specs.Prelude.{◌≡◌, ◌⊎◌, ℕ, ◌+◌, ◌==◌, List, [], ◌∷◌, ◌++◌, length, Bool, true, false, not, ◌&&◌, if◌then◌else◌, position, Option, Some, None, is_some, slice_index_or, slice_set}
use Rattle.std.specs.List.{filter_map, list_any}
use Rattle.std.specs.Option.{option_map}
use Rattle.std.specs.Str.{bytes_eq}
use Rattle.tbl_kinds.specs.Blocks.{Stored, Store, empty_store}
use Rattle.tbl_kinds.specs.Places.{place}
use Rattle.tbl_kinds.specs.Free.{least_free}
use Rattle.tbl_kinds.specs.declared.block.Block.{Block}
use Rattle.tbl_kinds.specs.declared.block.BlockKind.{BlockKind}
use Rattle.tbl_kinds.specs.declared.block.BlockKind.TheVariants.{Table, App}
use Rattle.tbl_kinds.specs.declared.request.ResetKind.{ResetKind}
use Rattle.tbl_kinds.specs.declared.request.ResetKind.TheVariants.{Processor, PowerOn}

-- ---- questions

abbrev pub same_kind : BlockKind → BlockKind → Bool
same_kind Table Table = true
same_kind App App = true
same_kind _ _ = false

-- two blocks of one kind and one name
abbrev pub same_block : Block → Block → Bool
same_block a b = same_kind a.kind b.kind && bytes_eq a.name b.name

abbrev pub is_of : BlockKind → List ℕ → Block → Bool
is_of kind name b = same_kind b.kind kind && bytes_eq b.name name

abbrev pub is_open_of : BlockKind → List ℕ → Option Stored → Bool
is_open_of kind name None = false
is_open_of kind name (Some b) = is_of kind name b.block && not b.doubtful

abbrev pub is_doubtful_of : BlockKind → List ℕ → Option Stored → Bool
is_doubtful_of kind name None = false
is_doubtful_of kind name (Some b) = is_of kind name b.block && b.doubtful

-- the slot of the open block, and of the doubtful one, of this kind and name
abbrev pub open_of : BlockKind → List ℕ → Store → Option ℕ
open_of kind name store = position (is_open_of kind name) store

abbrev pub doubtful_of : BlockKind → List ℕ → Store → Option ℕ
doubtful_of kind name store = position (is_doubtful_of kind name) store

abbrev pub stored_at : Store → ℕ → Option Stored
stored_at store slot = slice_index_or store slot None

-- the blocks whose room is taken, open or doubtful
abbrev pub taken : Store → List Block
taken store = filter_map (option_map (λ (b : Stored). b.block)) store

-- the store without the block of a slot
abbrev pub freed : Option ℕ → Store → Store
freed None store = store
freed (Some slot) store = slice_set store slot None

-- a slot and a place are there for a block of this size, the named slot counted as free
abbrev pub has_room : ℕ → Option ℕ → Store → Bool
has_room size without store = is_some (least_free (freed without store)) && is_some (place (taken (freed without store)) size)

-- ---- what a call does that is done

-- a new block holds no image
abbrev pub new_block : Bool → BlockKind → List ℕ → ℕ → ℕ → Stored
new_block doubtful kind name size at = record {
  block = record { kind = kind; offset = at; size = size; name = name };
  held = None;
  trying = [];
  doubtful = doubtful;
}

-- the doubtful block of this kind and name is closed before a new one is made
abbrev pub closed : BlockKind → List ℕ → Store → Store
closed kind name store = freed (doubtful_of kind name store) store

abbrev pub made_at : Bool → BlockKind → List ℕ → ℕ → Option ℕ → Option ℕ → Store → Store
made_at doubtful kind name size (Some slot) (Some at) store = slice_set store slot (Some (new_block doubtful kind name size at))
made_at doubtful kind name size _ _ store = store

-- a new block in the least free slot, at the least place
abbrev pub made : Bool → BlockKind → List ℕ → ℕ → Store → Store
made doubtful kind name size store = made_at doubtful kind name size (least_free store) (place (taken store) size) store

abbrev pub reserved : BlockKind → List ℕ → ℕ → Store → Store
reserved kind name size store = made false kind name size (closed kind name store)

abbrev pub changed : (Stored → Stored) → ℕ → Store → Store
changed change slot store = slice_set store slot (option_map change (stored_at store slot))

abbrev pub with_held : Option (List ℕ) → Stored → Stored
with_held image b = record b { held = image; trying = [] }

abbrev pub copied : ℕ → List ℕ → Store → Store
copied slot image store = changed (with_held (Some image)) slot store

abbrev pub deleted : ℕ → Store → Store
deleted slot store = slice_set store slot None

-- what a restore may give: what the block holds, or one of the images whose copies broke off since
abbrev pub IsHeldOrTried : List (List ℕ) → Option (List ℕ) → Option (List ℕ) → Type 0
IsHeldOrTried [] held given = given ≡ held
IsHeldOrTried (image ∷ images) held given = (given ≡ Some image) ⊎ IsHeldOrTried images held given

abbrev pub MayGive : Stored → Option (List ℕ) → Type 0
MayGive b given = IsHeldOrTried b.trying b.held given

-- a restore settles what the block holds
abbrev pub restored : ℕ → Option (List ℕ) → Store → Store
restored slot given store = changed (with_held given) slot store

-- ---- what a call leaves that broke off

abbrev pub in_doubt : Stored → Stored
in_doubt b = record b { doubtful = true }

abbrev pub with_try : List ℕ → Stored → Stored
with_try image b = record b { trying = b.trying ++ image ∷ [] }

-- what is known of a block where a copy of an image broke off: in the turn byte that makes it show, it may be there; before
-- that the block is as it was
abbrev pub tried : Bool → List ℕ → Stored → Stored
tried true image b = with_try image b
tried false image b = b

-- broken off in the copy of an image
abbrev pub copy_broken : Bool → ℕ → List ℕ → Store → Store
copy_broken gate slot image store = changed (tried gate image) slot store

-- broken off in the write that closes the gate
abbrev pub delete_broken : ℕ → Store → Store
delete_broken slot store = changed in_doubt slot store

-- broken off before the new gate was written, in the write that opens it, or in the one that closes the gate of the
-- doubtful block
abbrev pub reserve_broken : Bool → Bool → BlockKind → List ℕ → ℕ → Store → Store
reserve_broken false old kind name size store = closed kind name store
reserve_broken true false kind name size store = made true kind name size (closed kind name store)
reserve_broken true true kind name size store = store

-- ---- resets

abbrev pub settled : List ℕ → ℕ → Option Stored → Option Stored
settled found slot None = None
settled found slot (Some b) = if not b.doubtful then Some b else (if list_any (λ n. n == slot) found then Some (record b { doubtful = false }) else None)

abbrev pub settled_from : List ℕ → ℕ → Store → Store
settled_from found slot [] = []
settled_from found slot (b ∷ bs) = settled found slot b ∷ settled_from found (slot + 1) bs

-- after a reset of the processor each doubtful block is open, if the boot found it so, or gone; after a power-on all are
abbrev pub booted : ResetKind → List ℕ → Store → Store
booted Processor found store = settled_from found 0 store
booted PowerOn found store = empty_store

-- what a reset leaves of a block: one that is open is there, one that is doubtful may be, with what a restore may give
abbrev pub shown : Stored → Option (List ℕ) → Stored
shown b given = record b { held = given; trying = []; doubtful = false }

abbrev pub MayShow : Option Stored → Option Stored → Type 0
MayShow None left = left ≡ None
MayShow (Some b) None = b.doubtful ≡ true
MayShow (Some b) (Some left) = (left ≡ shown b left.held) × MayGive b left.held

-- what it leaves of a store
pub record Shows (store left : Store) : Type 0 where
  pub as_long : length left ≡ length store
  pub each : (slot : ℕ) → MayShow (stored_at store slot) (stored_at left slot)
