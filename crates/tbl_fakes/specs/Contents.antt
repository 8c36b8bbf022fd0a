-- What contracts see of a source and of a sink in memory.
use Rattle.std.specs.Prelude.{◌≡◌, ℕ, ◌-◌, ◌≤◌, ◌==◌, ◌||◌, nat_lt, nat_le, if◌then◌else◌, List, [], ◌++◌, length, take, drop, Bool, true, false, Option, Some, None, min, Result, IfOk, OnErr, is_err}
use Rattle.std.specs.Io.KnownBytes.{prepend_known}
use Rattle.tbl_outside.specs.Streams.{after_read, TakesFront}
use Rattle.tbl_outside.specs.declared.stream.HowFar.TheVariants.{Going}
use Rattle.tbl_outside.specs.declared.stream.HowFar.{HowFar}
use Rattle.tbl_fakes.specs.Calls.{Calls, none_made, is_listed, passed, failed}

-- the bytes that are still to come, the reads, how many bytes come before each read fails, if that is so, and how far it was read
pub record Reading : Type 0 where
  pub left : List ℕ
  pub calls : Calls
  pub cut : Option ℕ
  pub how_far : HowFar

-- a source of these bytes, of which nothing was read yet
abbrev pub unread : List ℕ → Calls → Option ℕ → Reading
unread bytes calls cut = record { left = bytes; calls = calls; cut = cut; how_far = Going }

-- each read fails from here on
abbrev pub is_cut : Option ℕ → Bool
is_cut None = false
is_cut (Some bytes) = bytes == 0

-- of so many bytes those that come before the cut
abbrev pub before_cut : Option ℕ → ℕ → ℕ
before_cut None len = len
before_cut (Some bytes) len = min len bytes

-- the cut, so many bytes further
abbrev pub cut_after : Option ℕ → ℕ → Option ℕ
cut_after None len = None
cut_after (Some bytes) len = Some (bytes - len)

-- so many bytes were moved, as far as the cut lets them
abbrev pub moved : ℕ → Reading → Reading
moved count reading = record reading { left = drop count reading.left; cut = cut_after reading.cut count }

-- a read that gave so many bytes, and one that failed
abbrev pub given : ℕ → Reading → Reading
given count reading = record (moved count reading) { calls = passed reading.calls; how_far = after_read count reading.how_far }

abbrev pub refused : Reading → Reading
refused reading = record reading { calls = failed (passed reading.calls); how_far = after_read 0 reading.how_far }

-- the bytes that were taken, the room that is left, and the writes
pub record Writing : Type 0 where
  pub taken : List ℕ
  pub room : ℕ
  pub calls : Calls

-- a sink that took nothing yet
abbrev pub untaken : ℕ → List ℕ → Writing
untaken room fails = record { taken = []; room = room; calls = none_made fails }

-- as much of a piece is taken as there is room for
abbrev pub filled : List ℕ → Writing → Writing
filled bytes writing = record writing { taken = writing.taken ++ take writing.room bytes; room = writing.room - length bytes }

-- a write that takes all, one that takes what there is room for, and one that is listed
abbrev pub after_write : Bool → List ℕ → Writing → Writing
after_write true bytes writing = record writing { calls = failed (passed writing.calls) }
after_write false bytes writing = record (filled bytes writing) { calls = if nat_lt writing.room (length bytes) then failed (passed writing.calls) else passed writing.calls }

-- as many bytes are moved to the front of a piece as there are, or as it has, and no more than this many
pub record Moves (limit : ℕ) (into filled old new : List ℕ) (count : ℕ) : Type 0 where
  pub most : count ≡ min (min (length into) (length old)) limit
  pub moved : filled ≡ take count old ++ drop count into
  pub left : new ≡ drop count old

-- as many are moved as there are, or as the piece has, and none after the cut
pub record Fills (into filled : List ℕ) (old new : Reading) (count : ℕ) : Type 0 where
  pub most : count ≡ before_cut old.cut (min (length into) (length old.left))
  pub front : filled ≡ take count old.left ++ drop count into
  pub new_is : new ≡ moved count old

-- A read fails exactly if its number is listed or as many bytes were taken as come before the cut, and else moves as much as it can, up to
-- the cut.
pub record ReadsOn {E : Type 0} (into filled : List ℕ) (old new : Reading) (result : Result ℕ E) : Type 0 where
  pub count : old.calls.faults ≤ new.calls.faults
  pub moved : IfOk result (λ n. Some old.left ≡ prepend_known (take n filled) (Some new.left))
  pub fails : is_err result ≡ (is_listed old.calls || is_cut old.cut)
  pub most : IfOk result (λ n. n ≡ before_cut old.cut (min (length into) (length old.left)))
  pub rest : IfOk result (λ n. drop n filled ≡ drop n into)
  pub ok : IfOk result (λ n. new ≡ given n old)
  pub err : OnErr result (new ≡ refused old)

-- as much of a piece is taken as there is room for, and it is told whether that is all
pub record FillsRoom (bytes : List ℕ) (old new : Writing) (all : Bool) : Type 0 where
  pub whole : all ≡ nat_le (length bytes) old.room
  pub new_is : new ≡ filled bytes old

-- A write fails exactly if its number is listed, and then takes nothing, or if the room is too small, and then takes what there is room for.
pub record TakesOn {V : Type 0} {E : Type 0} (bytes : List ℕ) (old new : Writing) (result : Result V E) : Type 0 where
  pub front : OnErr result (TakesFront (Some old.taken) (Some new.taken) bytes)
  pub count : old.calls.faults ≤ new.calls.faults
  pub fails : is_err result ≡ (is_listed old.calls || nat_lt old.room (length bytes))
  pub new_is : new ≡ after_write (is_listed old.calls) bytes old
