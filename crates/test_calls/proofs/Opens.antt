-- A block that is found open can be copied and restored.
use Rattle.std.proofs.Common.{◌≡◌, ℕ, not, List, Bool, true, false, Option, Some, None, refl, ap}
use Rattle.std.specs.Option.{option_map}
use Rattle.std.proofs.lemmas.Bool.{and_parts}
use Rattle.std.proofs.lemmas.List.Quantifiers.{position-Some}
use Rattle.std.proofs.lemmas.Option.{same_Some}
use Rattle.tbl_kinds.specs.StoreSteps.{is_of}
use Rattle.tbl_kinds.specs.declared.block.Block.{Block}
use Rattle.tbl_kinds.specs.declared.block.BlockKind.{BlockKind}
use Rattle.cds_store.specs.Slots.{is_open_slot, open_slot, block_of}
use Rattle.cds_store.specs.Sound.{slot_at, IsOpenOf}
use Rattle.cds_store.specs.declared.slot.Slot.{Slot}

not_doubtful : (doubtful : Bool) → not doubtful ≡ true → doubtful ≡ false
not_doubtful true e = absurd (cc e)
not_doubtful false e = refl

open_there : (kind : BlockKind) (name : List ℕ) (block : Block) (slot : Option Slot) → option_map block_of slot ≡ Some block → is_open_slot kind name slot ≡ true → IsOpenOf block.size slot
open_there kind name block None is opens = absurd (cc is)
open_there kind name block (Some s) is opens =
    (not_doubtful s.doubtful (and_parts (is_of kind name s.block) (not s.doubtful) opens).1, ap (λ (b : Block). b.size) (same_Some s.block block is))

pub found_open : (slots : List (Option Slot)) (slot : ℕ) (kind : BlockKind) (name : List ℕ) (block : Block) → option_map block_of (slot_at slots slot) ≡ Some block → open_slot kind name slots ≡ Some slot → IsOpenOf block.size (slot_at slots slot)
found_open slots slot kind name block is found =
    open_there kind name block (slot_at slots slot) is (position-Some (is_open_slot kind name) slots slot None found).1
