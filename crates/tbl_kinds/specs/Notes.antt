-- The notes of entries on the Critical Data Store.
use Rattle.std.specs.Prelude.{◌≡◌, ◌⊎◌, ℕ, List, [], false, Option, None}
use Rattle.std.specs.Option.{option_map}
use Rattle.tbl_kinds.specs.Buffers.{Buffer}
use Rattle.tbl_kinds.specs.declared.note.BankNote.{BankNote}
use Rattle.tbl_kinds.specs.declared.note.Outcome.TheVariants.{Untouched, Done}

-- no call of the store was made
abbrev pub untouched : BankNote
untouched = record { outcome = Untouched; done = 0; gate = false; old = false; ended = false; stopped = false; restored = None; torn = 0; found = [] }

-- the image that a restore gave
abbrev pub restored_image : BankNote → Option (List ℕ)
restored_image note = option_map (λ (image : Buffer). image.list) note.restored

-- so many calls were done, and nothing else is to be told of them
abbrev pub all_done : ℕ → BankNote
all_done count = record untouched { outcome = Done; done = count }

-- a note that takes no memory
abbrev pub IsPlain : BankNote → Type 0
IsPlain note = (note ≡ untouched) ⊎ (note ≡ all_done note.done)
