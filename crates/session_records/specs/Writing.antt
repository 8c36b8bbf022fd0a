-- What is written after a head.
use Rattle.std.specs.Prelude.{◌≡◌, ◌++◌, Result, OnOk, OnErr}
use Rattle.tbl_kinds.specs.Buffers.{Buffer}
use Rattle.tbl_kinds.specs.Records.{Pair, IsRecord, IsSized, body_of, spelling}
use Rattle.tbl_kinds.specs.declared.request.Request.{Request}
use Rattle.tbl_kinds.specs.declared.request.Request.TheVariants as ask

-- the requests whose body begins with a handle, or with the slot of a block
abbrev pub BeginsWithHandle : Request → Type 0
BeginsWithHandle (ask.Unregister handle) = Unit {0}
BeginsWithHandle (ask.LoadImage handle image) = Unit {0}
BeginsWithHandle (ask.LoadFile handle name) = Unit {0}
BeginsWithHandle (ask.Update handle) = Unit {0}
BeginsWithHandle (ask.Validate handle) = Unit {0}
BeginsWithHandle (ask.Manage handle) = Unit {0}
BeginsWithHandle (ask.DumpToBuffer handle) = Unit {0}
BeginsWithHandle (ask.Edit handle offset bytes) = Unit {0}
BeginsWithHandle (ask.Get handle) = Unit {0}
BeginsWithHandle (ask.Read handle offset len) = Unit {0}
BeginsWithHandle (ask.Release handle) = Unit {0}
BeginsWithHandle (ask.GetStatus handle) = Unit {0}
BeginsWithHandle (ask.Notify handle msg code parameter) = Unit {0}
BeginsWithHandle (ask.CdsCopy slot image) = Unit {0}
BeginsWithHandle (ask.CdsRestore slot) = Unit {0}
BeginsWithHandle (ask.CdsDelete slot) = Unit {0}
BeginsWithHandle _ = ⊥

-- the body of this request was put after what was there
pub record Appends (request : Request) (old new : Buffer) : Type 0 where
  pub bytes : new.list ≡ old.list ++ body_of request
  -- its names and numbers fit their fields
  pub sized : IsSized request

-- a record's one spelling was put after the bytes; or memory ran out, and nothing is changed
pub record WritesRecord {V : Type 0} {E : Type 0} (pair : Pair) (old new : Buffer) (result : Result V E) : Type 0 where
  pub ok : OnOk result (new.list ≡ old.list ++ spelling pair)
  pub is_record : OnOk result (IsRecord pair)
  pub err : OnErr result (new ≡ old)
