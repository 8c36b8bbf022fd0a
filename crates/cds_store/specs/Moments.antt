-- What a reset inside a call of the store may leave.
use Rattle.std.specs.Prelude.{◌≡◌, ◌⊎◌, ℕ, ◌+◌, List, [], ◌∷◌, Bool, true, false, Option}
use Rattle.tbl_kinds.specs.Blocks.{Store as Blocks, empty_store}
use Rattle.tbl_kinds.specs.StoreCalls.{StoreCall, Leaves}
use Rattle.tbl_kinds.specs.StoreSteps.{Shows, freed}
use Rattle.tbl_kinds.specs.declared.block.Block.{Block}
use Rattle.tbl_kinds.specs.declared.request.ResetKind.{ResetKind}
use Rattle.tbl_kinds.specs.declared.request.ResetKind.TheVariants.{PowerOn}
use Rattle.tbl_kinds.specs.Numbers.{patched}
use Rattle.tbl_outside.specs.Bank.{Torn}
use Rattle.cds_store.specs.StoreBlocks.{closing, with_new}
use Rattle.cds_layout.specs.Images.{store_of, place_at, head_len, hidden_in, opened_in}
use Rattle.cds_layout.specs.Entries.{turn_place}
use Rattle.cds_layout.specs.Turns.{byte_of}

-- the image shows these blocks
abbrev pub ShowsIn : Blocks → List ℕ → Type 0
ShowsIn blocks image = Shows blocks (store_of image)

-- a boot leaves the blocks as they were, or for a power-on none
abbrev pub BootLeaves : ResetKind → Blocks → List ℕ → Type 0
BootLeaves kind blocks image = ShowsIn blocks image ⊎ ((kind ≡ PowerOn) × ShowsIn empty_store image)

-- another call leaves what its definition says
abbrev pub LeavesIn : StoreCall → Blocks → List ℕ → Type 0
LeavesIn call blocks image = Leaves call blocks (store_of image)

-- a new block that is made in a slot, once a doubtful one is closed
abbrev pub MakeLeaves : Option ℕ → ℕ → Block → Blocks → List ℕ → Type 0
MakeLeaves old slot block blocks image =
    ShowsIn blocks image ⊎ ShowsIn (freed old blocks) image ⊎ ShowsIn (closing old blocks) image ⊎ ShowsIn (with_new true slot block (freed old blocks)) image

-- the bytes with head and image, as they are spelled, in the place that doesn't show
abbrev pub with_place : ℕ → Block → List ℕ → List ℕ → List ℕ
with_place slot b written bytes = patched bytes (place_at b (hidden_in bytes slot)) written

-- a copy that broke off before its turn byte: the bytes as they were, or with any bytes in the place that doesn't show
abbrev pub TearsPlace : ℕ → Block → List ℕ → List ℕ → Type 0
TearsPlace slot b bytes image = (image ≡ bytes) ⊎ Torn (place_at b (hidden_in bytes slot)) (head_len + b.size) bytes image

-- in its turn byte: the bytes with head and image in that place, and any one byte as its turn byte
abbrev pub TearsTurn : ℕ → Block → List ℕ → List ℕ → List ℕ → Type 0
TearsTurn slot b written bytes image = Torn (turn_place slot (hidden_in bytes slot)) 1 (with_place slot b written bytes) image

-- bytewise, what a copy leaves at any moment
abbrev pub CopyTears : ℕ → Block → List ℕ → List ℕ → List ℕ → Type 0
CopyTears slot b written bytes image = TearsPlace slot b bytes image ⊎ TearsTurn slot b written bytes image

-- and if it broke off, by whether that was in its turn byte
abbrev pub TearsBy : Bool → ℕ → Block → List ℕ → List ℕ → List ℕ → Type 0
TearsBy true slot b written bytes image = TearsTurn slot b written bytes image
TearsBy false slot b written bytes image = TearsPlace slot b bytes image

-- the bytes once it is done
abbrev pub copied_bytes : ℕ → Block → List ℕ → List ℕ → List ℕ
copied_bytes slot b written bytes = patched (with_place slot b written bytes) (turn_place slot (hidden_in bytes slot)) (byte_of (opened_in bytes slot) ∷ [])
