-- What the answers of a restore tell.
use Rattle.std.specs.Prelude.{◌≡◌, ◌≢◌, ◌⊎◌, ℕ, ◌+◌, ◌*◌, ◌≤◌, ◌==◌, ◌&&◌, Bool, true, if◌then◌else◌, List, length, Option, Some, None, is_some, Result, Ok, Err, OnOk, IfErr}
use Rattle.tbl_kinds.specs.Numbers.{piece, two_at, four_at}
use Rattle.tbl_kinds.specs.Check.{check16}
use Rattle.tbl_kinds.specs.declared.block.Block.{Block}
use Rattle.tbl_kinds.specs.Places.{bank_size}
use Rattle.tbl_outside.specs.Counts.{Still, RoseAlone}
use Rattle.tbl_outside.specs.declared.bank.Bank.{Ghosts}
use Rattle.cds_layout.specs.Entries.{is_right}
use Rattle.cds_layout.specs.Images.{data_in, kept_length, kept_word, turn_in, held_by, shown_in}
use Rattle.cds_layout.specs.declared.turns.Turns.{Turns}
use Rattle.cds_layout.specs.declared.turns.Place.{Place}
use Rattle.cds_layout.specs.declared.turns.Place.TheVariants.{First, Second}
use Rattle.cds_layout.specs.declared.blocks.RestoreFault.{RestoreFault}
use Rattle.cds_layout.specs.declared.blocks.RestoreFault.TheVariants.{NoImage, Torn, Fault}

-- the place that shows holds no image: what its head states, and the check word of its bytes
pub record IsTorn (bytes : List ℕ) (b : Block) (place : Place) (long kept found : ℕ) : Type 0 where
  pub no_image : held_by bytes b (Some place) ≡ None
  pub stated : long ≡ kept_length bytes b place
  pub kept_is : kept ≡ kept_word bytes b place
  pub computed : found ≡ check16 (data_in bytes b place)

-- no place shows, or this one does and is torn
abbrev pub TellsAt : List ℕ → Block → Option Place → RestoreFault → Type 0
TellsAt bytes b shown NoImage = shown ≡ None
TellsAt bytes b shown (Torn length kept found) = (place : Place) × (shown ≡ Some place) × IsTorn bytes b place length kept found
TellsAt bytes b shown Fault = Unit {0}

abbrev pub TellsTorn : List ℕ → ℕ → Block → RestoreFault → Type 0
TellsTorn bytes slot b fault = TellsAt bytes b (shown_in bytes slot) fault

-- what is told of a block that was read and gave no image: 0 where no place shows, else the check word of its head times
-- 65,536, plus that of its bytes
abbrev pub words : RestoreFault → Option ℕ
words NoImage = Some 0
words (Torn length kept found) = Some (kept * 65536 + found)
words Fault = None

-- a torn place has another length, or another check word
abbrev pub SaysWhy : ℕ → RestoreFault → Type 0
SaysWhy size (Torn length kept found) = (length ≢ size) ⊎ (kept ≢ found)
SaysWhy size NoImage = Unit {0}
SaysWhy size Fault = Unit {0}

-- what is asked of a read into so many bytes: the bank has room for a store, of which this can be a block of this size
pub record Fits {B : Type 0} (g : Ghosts B) (bank : B) (b : Block) (into : List ℕ) : Type 0 where
  pub size : length into ≡ b.size
  pub right : is_right b ≡ true
  pub room : bank_size ≤ g.size bank

-- what was read of the place that shows: its image, or why there is none
pub record TellsHeld {B : Type 0} (g : Ghosts B) (bank : B) (b : Block) (shown : Option Place) (into : List ℕ) (result : Result Unit RestoreFault) : Type 0 where
  pub whole : OnOk result (g.tells → held_by (g.now bank) b shown ≡ Some into)
  pub torn : IfErr result (λ fault. g.tells → TellsAt (g.now bank) b shown fault)
  pub why : IfErr result (SaysWhy b.size)

-- the turns of a slot's block
pub record AreTurns (bytes : List ℕ) (slot : ℕ) (turns : Turns) : Type 0 where
  pub first : turns.first ≡ turn_in bytes slot First
  pub second : turns.second ≡ turn_in bytes slot Second

-- whether the bytes were read, whole or torn
abbrev pub was_read : {A : Type 0} → Result A RestoreFault → Bool
was_read (Ok x) = true
was_read (Err fault) = is_some (words fault)

-- a fault moved the count of faults alone, and else neither count moved
abbrev pub FaultCounted : {B : Type 0} → (B → ℕ) → (B → ℕ) → B → B → Option ℕ → Type 0
FaultCounted faults stops old new (Some told) = Still faults stops old new
FaultCounted faults stops old new None = RoseAlone faults stops old new

abbrev pub RestoreCounted : {A B : Type 0} → (B → ℕ) → (B → ℕ) → B → B → Result A RestoreFault → Type 0
RestoreCounted faults stops old new (Ok x) = Still faults stops old new
RestoreCounted faults stops old new (Err fault) = FaultCounted faults stops old new (words fault)

-- a head beside bytes of a place: whole, or torn
abbrev pub compared : List ℕ → ℕ → List ℕ → Result Unit RestoreFault
compared head size bytes =
    if four_at 0 head == size && two_at 4 head == check16 bytes then Ok tt else Err (Torn (four_at 0 head) (two_at 4 head) (check16 bytes))

-- the bytes of a place are those of an image of this size
abbrev pub is_whole_place : ℕ → List ℕ → Bool
is_whole_place size bytes = (four_at 0 bytes == size) && (two_at 4 bytes == check16 (piece 8 size bytes))
