-- The calls of the store that a request makes: what each leaves of the blocks, and what a reset inside it may.
use Rattle.std.specs.Prelude.{◌≡◌, ◌⊎◌, ℕ, List, take, Bool, true, false, Option, IsSome}
use Rattle.std.specs.List.{fold}
use Rattle.tbl_kinds.specs.Blocks.{Store}
use Rattle.tbl_kinds.specs.StoreSteps.{Shows, doubtful_of, reserved, reserve_broken, copied, copy_broken, restored, deleted, delete_broken}
use Rattle.tbl_kinds.specs.declared.block.BlockKind.{BlockKind}

-- a block of a kind, a name and a size is reserved; an image is copied into the block of a slot; a block is restored, and
-- gave this image, or none where it has none; a block is deleted
pub data StoreCall : Type 0 where
  reserve : BlockKind → List ℕ → ℕ → StoreCall
  copy : ℕ → List ℕ → StoreCall
  restore : ℕ → Option (List ℕ) → StoreCall
  delete : ℕ → StoreCall

-- the blocks once it is done
abbrev pub after : StoreCall → Store → Store
after (reserve kind name size) store = reserved kind name size store
after (copy slot image) store = copied slot image store
after (restore slot given) store = restored slot given store
after (delete slot) store = deleted slot store

-- the blocks once the first so many of several are done, one after another
abbrev pub after_first : ℕ → List StoreCall → Store → Store
after_first count calls store = fold (λ blocks call. after call blocks) store (take count calls)

-- the blocks where it broke off: whether in the write of a gate byte or a turn byte, and whether of the gate byte of a
-- doubtful block
abbrev pub broken : Bool → Bool → StoreCall → Store → Store
broken gate old (reserve kind name size) store = reserve_broken gate old kind name size store
broken gate old (copy slot image) store = copy_broken gate slot image store
broken gate old (restore slot given) store = store
broken gate old (delete slot) store = delete_broken slot store

-- where it can break off: a reservation in the gate of a doubtful block only where there is one of its kind and name
abbrev pub CanBreak : Bool → Bool → StoreCall → Store → Type 0
CanBreak gate old (reserve kind name size) store = old ≡ true → (gate ≡ true) × IsSome (doubtful_of kind name store)
CanBreak gate old (copy slot image) store = old ≡ false
CanBreak gate old (restore slot given) store = (gate ≡ false) × (old ≡ false)
CanBreak gate old (delete slot) store = (gate ≡ true) × (old ≡ false)

-- what a reset inside it leaves: the blocks as they were, as they are once it is done, or as they are where it broke off
abbrev pub Leaves : StoreCall → Store → Store → Type 0
Leaves call store left =
    Shows store left ⊎ Shows (after call store) left
    ⊎ ((gate : Bool) × (old : Bool) × CanBreak gate old call store × Shows (broken gate old call store) left)
