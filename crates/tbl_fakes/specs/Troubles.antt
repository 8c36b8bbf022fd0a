-- Writes that break off and reads that fail, by their numbers, which count from 1.
use Rattle.std.specs.Prelude.{◌≡◌, ℕ, ◌≤◌, min, Bool, List, length, take, Option, None, Some, find, ◌==◌, if◌then◌else◌}
use Rattle.std.specs.List.{list_any}
use Rattle.tbl_outside.specs.Counts.{risen}
use Rattle.tbl_outside.specs.declared.bank.Written.{Written}
use Rattle.tbl_outside.specs.declared.bank.Written.TheVariants.{Done, Failed, Stopped}
use Rattle.tbl_fakes.specs.declared.troubles.Break.{Break}

-- what goes wrong, how many writes and reads were made, and how often the bank failed and was stopped
pub record Trouble : Type 0 where
  pub breaks : List Break
  pub bad_reads : List ℕ
  pub writes : ℕ
  pub reads : ℕ
  pub faults : ℕ
  pub stops : ℕ

-- no call was made yet
abbrev pub none_yet : List Break → List ℕ → Trouble
none_yet breaks bad_reads = record {
  breaks = breaks;
  bad_reads = bad_reads;
  writes = 0;
  reads = 0;
  faults = 0;
  stops = 0;
}

-- how the next write breaks off
abbrev pub next_break : Trouble → Option Break
next_break trouble = find (λ broken. broken.write == risen trouble.writes) trouble.breaks

-- whether the next read fails
abbrev pub is_bad_read : Trouble → Bool
is_bad_read trouble = list_any (λ number. number == risen trouble.reads) trouble.bad_reads

-- one more of each
abbrev pub one_write : Trouble → Trouble
one_write trouble = record trouble { writes = risen trouble.writes }

abbrev pub one_read : Trouble → Trouble
one_read trouble = record trouble { reads = risen trouble.reads }

abbrev pub one_fault : Trouble → Trouble
one_fault trouble = record trouble { faults = risen trouble.faults }

abbrev pub one_stop : Trouble → Trouble
one_stop trouble = record trouble { stops = risen trouble.stops }

-- how many bytes of a piece a write takes
abbrev pub reach_of : Option Break → ℕ → ℕ
reach_of None count = count
reach_of (Some broken) count = min broken.after count

-- the front of a piece that it takes
abbrev pub front_of : Option Break → List ℕ → List ℕ
front_of planned piece = take (reach_of planned (length piece)) piece

-- how a write ends
abbrev pub how_ends : Option Break → Written
how_ends None = Done
how_ends (Some broken) = if broken.stop then Stopped else Failed

-- what is counted if it ends so
abbrev pub one_end : Option Break → Trouble → Trouble
one_end None trouble = trouble
one_end (Some broken) trouble = if broken.stop then one_stop trouble else one_fault trouble

-- a write ends so, and that is counted
pub record EndsWrite (planned : Option Break) (old new : Trouble) (ended : Written) : Type 0 where
  pub ends : ended ≡ how_ends planned
  pub counted : new ≡ one_end planned old
  pub faults : old.faults ≤ new.faults
  pub stops : old.stops ≤ new.stops
