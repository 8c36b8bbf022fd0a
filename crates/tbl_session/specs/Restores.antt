-- What a restore gives: what its block held in the bytes of the bank.
use Rattle.std.specs.Prelude.{◌≡◌, ℕ, List, [], ◌∷◌, None}
use Rattle.std.specs.Option.{ForSome}
use Rattle.tbl_kinds.specs.Blocks.{Store}
use Rattle.tbl_kinds.specs.Notes.{restored_image}
use Rattle.tbl_kinds.specs.StoreCalls.{StoreCall, restore}
use Rattle.tbl_kinds.specs.StoreSteps.{stored_at}
use Rattle.cds_layout.specs.Images.{held_in, words_in}
use Rattle.tbl_kinds.specs.declared.block.Block.{Block}
use Rattle.tbl_kinds.specs.declared.note.BankNote.{BankNote}
use Rattle.tbl_kinds.specs.declared.note.Outcome.TheVariants.{Done}

-- a restore of the block of this slot gave what it held in these bytes: its image; or none of a torn one, and then the note has the check
-- word that it keeps and that of its bytes
pub record GaveHeld (bytes : List ℕ) (slot : ℕ) (b : Block) (note : BankNote) : Type 0 where
  pub image : restored_image note ≡ held_in bytes slot b
  pub words : restored_image note ≡ None → note.torn ≡ words_in bytes slot b

-- so did a call of the store, if it is a restore and was read
abbrev pub RestoreHeld : List ℕ → StoreCall → Store → BankNote → Type 0
RestoreHeld bytes (restore slot image) blocks note = note.outcome ≡ Done → ForSome (stored_at blocks slot) (λ b. GaveHeld bytes slot b.block note)
RestoreHeld bytes call blocks note = Unit {0}

-- so did the calls of a request, where only the first can be a restore
abbrev pub RestoresHeld : List ℕ → List StoreCall → Store → BankNote → Type 0
RestoresHeld bytes [] blocks note = Unit {0}
RestoresHeld bytes (call ∷ calls) blocks note = RestoreHeld bytes call blocks note
