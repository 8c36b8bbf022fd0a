-- What a bank in memory keeps of the calls that it got.
use Rattle.std.specs.Prelude.{◌≡◌, ℕ, ◌-◌, Bool, true, false, ◌&&◌, nat_lt, nat_le, if◌then◌else◌, List, [], ◌∷◌, length, take, drop}
use Rattle.std.specs.List.{sum_by}
use Rattle.tbl_outside.specs.BankCalls.{BankCall, read, write}
use Rattle.tbl_fakes.specs.declared.notes.NotedCall.{NotedCall}
use Rattle.tbl_fakes.specs.declared.notes.NotedCall.TheVariants.{Read, Write}

-- the calls, the newest first, for how many more there is room and for how many bytes of writes, and whether one was
-- left out
pub record Noting : Type 0 where
  pub calls : List BankCall
  pub left : ℕ
  pub room : ℕ
  pub missed : Bool

-- no call yet, and room for so many, with so many bytes of writes in all
abbrev pub nothing_noted : ℕ → ℕ → Noting
nothing_noted calls room = record { calls = []; left = calls; room = room; missed = false }

-- how many bytes of room a call takes
abbrev pub room_of : BankCall → ℕ
room_of (read at count) = 0
room_of (write at bytes) = length bytes

abbrev pub has_room_for : ℕ → Noting → Bool
has_room_for size notes = nat_lt 0 notes.left && nat_le size notes.room

abbrev pub with_call : BankCall → ℕ → Noting → Noting
with_call call size notes = record notes { calls = call ∷ notes.calls; left = notes.left - 1; room = notes.room - size }

-- one call more, which is left out if there is no room for it
abbrev pub noted : BankCall → Noting → Noting
noted call notes = if has_room_for (room_of call) notes then with_call call (room_of call) notes else record notes { missed = true }

-- how many bytes of a call are kept
abbrev pub kept_of : NotedCall → ℕ
kept_of (Read at count) = 0
kept_of (Write at count) = count

-- as many bytes are kept as the writes have
abbrev pub AllKept : List NotedCall → List ℕ → Type 0
AllKept calls bytes = length bytes ≡ sum_by kept_of calls

abbrev pub call_of : NotedCall → List ℕ → BankCall
call_of (Read at count) bytes = read at count
call_of (Write at count) bytes = write at (take count bytes)

-- the calls that are kept, oldest first, with the bytes of the writes one after the other, on top of earlier ones
abbrev pub told : List NotedCall → List ℕ → List BankCall → List BankCall
told [] bytes past = past
told (call ∷ calls) bytes past = told calls (drop (kept_of call) bytes) (call_of call bytes ∷ past)
