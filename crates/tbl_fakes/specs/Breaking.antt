-- What contracts see of a bank whose writes break off, and which keeps no record.
use Rattle.std.specs.Prelude.{◌≡◌, ℕ, ◌≤◌, List, [], length, Option, None, Some, Result, IsOk}
use Rattle.tbl_kinds.specs.Numbers.{piece, patched}
use Rattle.tbl_outside.specs.Bank.{Torn}
use Rattle.tbl_outside.specs.declared.bank.Written.{Written}
use Rattle.tbl_fakes.specs.Troubles.{Trouble, none_yet, next_break, front_of, how_ends, one_write, one_end}
use Rattle.tbl_fakes.specs.declared.past.Span.{Span}
use Rattle.tbl_fakes.specs.declared.troubles.Break.{Break}

-- its bytes, what goes wrong, and the range of the last write that broke off
pub record Breaking : Type 0 where
  pub bytes : List ℕ
  pub trouble : Trouble
  pub broken : Option Span

-- how often it failed, and how often it was stopped
abbrev pub faults_of : Breaking → ℕ
faults_of bank = bank.trouble.faults

abbrev pub stops_of : Breaking → ℕ
stops_of bank = bank.trouble.stops

-- the range of the last write that broke off: this one, if it breaks off, or the one before
abbrev pub last_of : Option Break → Span → Option Span → Option Span
last_of None span before = before
last_of (Some planned) span before = Some span

-- a write: a front of the piece stands as far as its number says
abbrev pub written_to : ℕ → List ℕ → Breaking → Breaking
written_to at bytes bank = record {
  bytes = patched bank.bytes at (front_of (next_break bank.trouble) bytes);
  trouble = one_end (next_break bank.trouble) (one_write bank.trouble);
  broken = last_of (next_break bank.trouble) (record { at = at; length = length bytes }) bank.broken;
}

-- a new bank of these bytes, of which these writes break off
abbrev pub unbroken : List ℕ → List Break → Breaking
unbroken bytes breaks = record { bytes = bytes; trouble = none_yet breaks []; broken = None }

-- a read that never fails moves a piece of the bytes, and leaves the bank as it is
pub record ReadsWell {B : Type 0} {V : Type 0} {E : Type 0} (at : ℕ) (into filled bytes : List ℕ) (old new : B) (result : Result V E) : Type 0 where
  pub ok : IsOk result
  pub read : filled ≡ piece at (length into) bytes
  pub kept : new ≡ old

-- a write ends as its number says, with a front of the piece of which the number says how long it is
pub record BreaksOff (at : ℕ) (bytes : List ℕ) (old new : Breaking) (ended : Written) : Type 0 where
  pub torn : Torn at (length bytes) old.bytes new.bytes
  pub fault_count : old.trouble.faults ≤ new.trouble.faults
  pub stop_count : old.trouble.stops ≤ new.trouble.stops
  pub ends : ended ≡ how_ends (next_break old.trouble)
  pub written : new ≡ written_to at bytes old
