-- What contracts see of a bank in memory, and what a reset may leave of it.
use mathlib.Core.Logic.{inl, inr}
use Rattle.std.specs.Prelude.{◌≡◌, ◌⊎◌, ℕ, ◌+◌, ◌-◌, ◌≤◌, Bool, false, ◌&&◌, nat_lt, nat_le, IsTrue, List, [], ◌∷◌, ◌++◌, length, drop, Result, OnOk, OnErr, is_err}
use Rattle.tbl_kinds.specs.Numbers.{piece, patched}
use Rattle.tbl_outside.specs.Bank.{Torn, LeavesOnly}
use Rattle.tbl_outside.specs.BankCalls.{BankCall, read as to_read, write as to_write}
use Rattle.tbl_outside.specs.Counts.{Counted}
use Rattle.tbl_outside.specs.declared.bank.Written.{Written}
use Rattle.tbl_outside.specs.declared.bank.Written.TheVariants.{Failed}
use Rattle.tbl_fakes.specs.Notes.{Noting, nothing_noted, noted}
use Rattle.tbl_fakes.specs.Past.{Passed}
use Rattle.tbl_fakes.specs.Troubles.{Trouble, next_break, is_bad_read, front_of, how_ends, one_write, one_read, one_fault, one_end}

-- its bytes, its writes so far, how many more its record has room for and with how many bytes, what it notes of its
-- calls, and what goes wrong
pub record Banking : Type 0 where
  pub bytes : List ℕ
  pub past : List Passed
  pub writes_left : ℕ
  pub room : ℕ
  pub notes : Noting
  pub trouble : Trouble

-- how often it failed, and how often it was stopped
abbrev pub faults_of : Banking → ℕ
faults_of bank = bank.trouble.faults

abbrev pub stops_of : Banking → ℕ
stops_of bank = bank.trouble.stops

-- there is room in its record for one more write, and for so many bytes
abbrev pub has_room : Banking → ℕ → Bool
has_room bank count = nat_lt 0 bank.writes_left && nat_le count bank.room

-- a new bank of these bytes, whose record has room for so many writes with so many bytes in all, and for 4,096 reads
abbrev pub unused : List ℕ → Trouble → ℕ → ℕ → Banking
unused bytes trouble writes room = record {
  bytes = bytes;
  past = [];
  writes_left = writes;
  room = room;
  notes = nothing_noted (writes + 4096) room;
  trouble = trouble;
}

-- it got this call, and this is what went wrong by then
abbrev pub after_call : BankCall → Trouble → Banking → Banking
after_call call trouble bank = record bank { notes = noted call bank.notes; trouble = trouble }

-- a write over these bytes, of so many from a place on
abbrev pub written_over : Banking → ℕ → ℕ → Passed
written_over bank at count = record { before = bank.bytes; span = record { at = at; length = count } }

-- a write for which it had room: a front of the piece stands as far as its number says, and it joins the record
abbrev pub written_to : ℕ → List ℕ → Banking → Banking
written_to at bytes bank = record {
  bytes = patched bank.bytes at (front_of (next_break bank.trouble) bytes);
  past = bank.past ++ written_over bank at (length bytes) ∷ [];
  writes_left = bank.writes_left - 1;
  room = bank.room - length bytes;
  notes = noted (to_write at bytes) bank.notes;
  trouble = one_end (next_break bank.trouble) (one_write bank.trouble);
}

-- what each call keeps: the size, counts that don't fall, and the calls as long as it tells them
pub record Keeps (call : BankCall) (old new : Banking) : Type 0 where
  pub size : length new.bytes ≡ length old.bytes
  pub fault_count : old.trouble.faults ≤ new.trouble.faults
  pub stop_count : old.trouble.stops ≤ new.trouble.stops
  pub told : new.notes.missed ≡ false → old.notes.missed ≡ false
  pub bank_calls : new.notes.missed ≡ false → new.notes.calls ≡ call ∷ old.notes.calls

-- a reset inside one of these writes may have left this image
abbrev pub IsFromInside : List Passed → List ℕ → Type 0
IsFromInside [] image = ⊥
IsFromInside (write ∷ past) image = Torn write.span.at write.span.length write.before image ⊎ IsFromInside past image

-- the moment is the number of writes
abbrev pub moment : Banking → ℕ
moment bank = length bank.past

-- Since a moment, a reset may have left the bytes as they are, or an image from inside a write since. What is there between two writes is
-- an image from inside the second.
abbrev pub MayHaveLeft : Banking → ℕ → List ℕ → Type 0
MayHaveLeft bank since image = (image ≡ bank.bytes) ⊎ IsFromInside (drop since bank.past) image

none_since : (past : List Passed) (image : List ℕ) → IsFromInside (drop (length past) past) image → ⊥
none_since [] image inside = inside
none_since (write ∷ past) image inside = none_since past image inside

-- since this moment there is nothing but the bytes as they are
pub only_bytes : (bank : Banking) (image : List ℕ) → MayHaveLeft bank (moment bank) image → image ≡ bank.bytes
only_bytes bank image left = elim left [ inl now ↦ now | inr inside ↦ absurd (none_since bank.past image inside) ]

-- a read into a piece fails exactly if its number is listed, and then moves nothing. It notes the call if it has room
pub record ReadsBank {V : Type 0} {E : Type 0} (at : ℕ) (into filled : List ℕ) (old new : Banking) (result : Result V E) : Type 0 where
  pub read : OnOk result (filled ≡ piece at (length into) old.bytes)
  pub moments : LeavesOnly moment MayHaveLeft old new (λ image. image ≡ old.bytes)
  pub keeps : Keeps (to_read at (length into)) old new
  pub fails : is_err result ≡ is_bad_read old.trouble
  pub unmoved : OnErr result (filled ≡ into)
  pub ok : OnOk result (new ≡ after_call (to_read at (length into)) (one_read old.trouble) old)
  pub err : OnErr result (new ≡ after_call (to_read at (length into)) (one_fault (one_read old.trouble)) old)

-- a write for which it has room ends as its number says, and each image from inside it is shown. Without room it fails and writes nothing
pub record WritesBank (at : ℕ) (bytes : List ℕ) (old new : Banking) (ended : Written) : Type 0 where
  pub moments : LeavesOnly moment MayHaveLeft old new (Torn at (length bytes) old.bytes)
  pub counted : Counted faults_of stops_of old new ended
  pub keeps : Keeps (to_write at bytes) old new
  pub ends : IsTrue (has_room old (length bytes)) → ended ≡ how_ends (next_break old.trouble)
  pub written : IsTrue (has_room old (length bytes)) → new ≡ written_to at bytes old
  pub inside : IsTrue (has_room old (length bytes)) → (image : List ℕ) → Torn at (length bytes) old.bytes image → MayHaveLeft new (moment old) image
  pub full : has_room old (length bytes) ≡ false → ended ≡ Failed
  pub unwritten : has_room old (length bytes) ≡ false → new ≡ after_call (to_write at bytes) (one_fault (one_write old.trouble)) old
