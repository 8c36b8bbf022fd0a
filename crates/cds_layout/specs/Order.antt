-- What each call of the store asks of its bank, in its order.
use Rattle.std.specs.Prelude.{ℕ, zero, suc, ◌+◌, ◌==◌, Bool, true, false, ◌&&◌, if◌then◌else◌, List, [], ◌∷◌, ◌++◌, replicate, Option, Some, None, is_none, slice_index_or}
use Rattle.tbl_kinds.specs.Numbers.{byte_at}
use Rattle.tbl_kinds.specs.declared.block.Block.{Block}
use Rattle.tbl_kinds.specs.declared.request.ResetKind.{ResetKind}
use Rattle.tbl_kinds.specs.declared.request.ResetKind.TheVariants.{Processor, PowerOn}
use Rattle.tbl_outside.specs.BankCalls.{BankCall, read, write}
use Rattle.cds_layout.specs.Entries.{slot_count, gate_place, gate_at, gate_open, tail_place, entry_tail, turns_place, turns_len, turn_place}
use Rattle.cds_layout.specs.Directory.{directory_len, directory_of, is_live, is_first_version, version_place}
use Rattle.cds_layout.specs.Images.{head_len, place_at, data_place, is_whole, shown_in, turned_in, hidden_in, opened_in}
use Rattle.cds_layout.specs.Turns.{byte_of}
use Rattle.cds_layout.specs.declared.turns.Place.{Place}
use Rattle.cds_layout.specs.declared.turns.Place.TheVariants.{First}

-- those of the first slots, one after the other
unfoldable pub slot_calls : (ℕ → List BankCall) → ℕ → List BankCall
slot_calls calls_at zero = []
slot_calls calls_at (suc slot) = slot_calls calls_at slot ++ calls_at slot

-- ---- blocks

-- a copy and a restore read the two turn bytes first
abbrev pub turn_calls : ℕ → List BankCall
turn_calls slot = read (turns_place slot) turns_len ∷ []

-- then a restore reads the head of the place that shows, and its image
abbrev pub place_calls : Block → Option Place → List BankCall
place_calls b None = []
place_calls b (Some place) = read (place_at b place) head_len ∷ read (data_place b place) b.size ∷ []

abbrev pub restore_calls : List ℕ → ℕ → Block → List BankCall
restore_calls bytes slot b = turn_calls slot ++ place_calls b (turned_in bytes slot)

-- and a copy writes head and image, as they are spelled, into the place that doesn't show, and then its turn byte
abbrev pub copy_calls : List ℕ → ℕ → Block → List ℕ → List BankCall
copy_calls bytes slot b written =
    turn_calls slot
    ++ write (place_at b (hidden_in bytes slot)) written
    ∷ write (turn_place slot (hidden_in bytes slot)) (byte_of (opened_in bytes slot) ∷ []) ∷ []

-- a delete closes the gate
abbrev pub delete_calls : ℕ → List BankCall
delete_calls slot = write (gate_place slot) (0 ∷ []) ∷ []

-- a reservation closes the gate of the doubtful block, where there is one; then it writes the entry after the gate, by which
-- both places are closed, and the gate
abbrev pub close_calls : Option ℕ → List BankCall
close_calls None = []
close_calls (Some slot) = delete_calls slot

abbrev pub make_calls : ℕ → Block → List BankCall
make_calls slot b = write (tail_place slot) (entry_tail b) ∷ write (gate_place slot) (gate_open ∷ []) ∷ []

abbrev pub reserve_calls : Option ℕ → ℕ → Block → List BankCall
reserve_calls old slot b = close_calls old ++ make_calls slot b

-- ---- boots

-- a gate that is open, where the directory has no block
abbrev pub is_stray : List ℕ → List (Option Block) → ℕ → Bool
is_stray bytes directory slot = (gate_at bytes slot == gate_open) && is_none (slice_index_or directory slot None)

abbrev pub close_stray : List ℕ → List (Option Block) → ℕ → List BankCall
close_stray bytes directory slot = if is_stray bytes directory slot then delete_calls slot else []

-- of the first slots, the stray gates are closed
abbrev pub strays_to : ℕ → List ℕ → List (Option Block) → List BankCall
strays_to count bytes directory = slot_calls (close_stray bytes directory) count

unfoldable pub zeros : ℕ → List ℕ
zeros count = replicate count 0

-- after the live byte the rest of the live mark, the version and twelve zeros, then the whole directory as zeros, and then the live
-- byte
abbrev pub renew_calls : List ℕ → List BankCall
renew_calls empty = write 1 (0x44 ∷ 0x53 ∷ 0x32 ∷ replicate 12 0) ∷ write 16 empty ∷ write 0 (0x43 ∷ []) ∷ []

-- before that the live byte is taken away, only where it is there
abbrev pub clear_by : ℕ → List ℕ → List BankCall
clear_by first empty = if first == 0x43 then write 0 (0 ∷ []) ∷ renew_calls empty else renew_calls empty

abbrev pub clear_calls : List ℕ → List BankCall
clear_calls bytes = clear_by (byte_at 0 bytes) (zeros 8192)

-- the turn bytes by which a store of the first version is carried over: the first place shows where it is whole
abbrev pub carried_turns : Bool → List ℕ
carried_turns true = 0xA0 ∷ 0 ∷ []
carried_turns false = 0 ∷ 0 ∷ []

-- what stands in the first place of a block is read at once
abbrev pub first_calls : Block → List BankCall
first_calls b = read b.offset (head_len + b.size) ∷ []

-- of one slot, so is the first place of its block, and the turn bytes are written
abbrev pub carry_at : List ℕ → ℕ → Option Block → List BankCall
carry_at bytes slot None = []
carry_at bytes slot (Some b) = first_calls b ++ write (turns_place slot) (carried_turns (is_whole bytes b First)) ∷ []

-- of the first slots
abbrev pub carried_to : ℕ → List ℕ → List (Option Block) → List BankCall
carried_to count bytes directory = slot_calls (λ slot. carry_at bytes slot (slice_index_or directory slot None)) count

-- and at last the version
abbrev pub carry_calls : List ℕ → List BankCall
carry_calls bytes = if is_first_version bytes then carried_to slot_count bytes (directory_of bytes) ++ write version_place (0x32 ∷ []) ∷ [] else []

-- what a boot writes: over a live bank after a reset of the processor, stray gates, and what carries the first version over
abbrev pub boot_writes : ResetKind → List ℕ → List BankCall
boot_writes Processor bytes = if is_live bytes then strays_to slot_count bytes (directory_of bytes) ++ carry_calls bytes else clear_calls bytes
boot_writes PowerOn bytes = clear_calls bytes

-- a boot reads the live mark and the directory first
abbrev pub boot_calls : ResetKind → List ℕ → List BankCall
boot_calls kind bytes = read 0 directory_len ∷ boot_writes kind bytes

-- ---- the text of a store

-- of one slot, what the place of its block that shows holds is read
abbrev pub look_at : List ℕ → ℕ → Option Block → List BankCall
look_at bytes slot None = []
look_at bytes slot (Some b) = place_calls b (shown_in bytes slot)

-- of the first slots
abbrev pub looked_to : ℕ → List ℕ → List (Option Block) → List BankCall
looked_to count bytes directory = slot_calls (λ slot. look_at bytes slot (slice_index_or directory slot None)) count

-- the directory is read first
abbrev pub text_calls : List ℕ → List BankCall
text_calls bytes = read 0 directory_len ∷ looked_to slot_count bytes (directory_of bytes)
