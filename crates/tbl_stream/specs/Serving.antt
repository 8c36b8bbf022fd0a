-- A service from its start to its end, as it is seen from outside: what was read, what it made of that, and what the status and the
-- transcript say.
use Rattle.std.specs.Prelude.{◌≡◌, ℕ, ◌<◌, List, ◌++◌, length, Option}
use Rattle.std.specs.List.{AllByRecursion}
use Rattle.std.proofs.Common.{ℤ}
use Rattle.std.specs.Io.KnownBytes.{prepend_known}
use Rattle.tbl_kinds.specs.Records.{IsRecord, joined}
use Rattle.tbl_kinds.specs.Transcript.{pairs_of}
use Rattle.tbl_kinds.specs.declared.entry.Entry.{Entry}
use Rattle.tbl_outside.specs.declared.bank.Bank.{Ghosts}
use Rattle.tbl_session.specs.Inputs.{rest_limit}
use Rattle.tbl_session.specs.Openings.{Opening}
use Rattle.tbl_session.specs.Served.{IsServed}
use Rattle.tbl_session.specs.Session.{Ran}
use Rattle.tbl_stream.specs.Limits.{and_more}
use Rattle.tbl_stream.specs.Reading.{Stops}
use Rattle.tbl_stream.specs.Reports.{Reports, LacksOne, ReadsLast, TellsFailures}

-- Whatever came in, and however much: what was served is one history whose every answer is the sequential service's (`IsServed`), of the
-- records of what was read, in their order, and no more than the limit, if there is one. The sink took the spellings of its entries, each
-- before the next record was looked for. Nobody keeps it.
pub record Lives {B C : Type 0} (limit : Option ℕ) (g : Ghosts B) (verdict : C → List ℕ → ℤ) (o : Opening B C) (r : Ran B) : Type 0 where
  -- what was read: records, and the rest after them
  pub read : List ℕ
  pub came : r.left ≡ prepend_known read r.left_then
  pub entries : List Entry
  pub rest : List ℕ
  pub parts : read ≡ joined (pairs_of entries) ++ rest
  pub each : AllByRecursion IsRecord (pairs_of entries)
  -- so many records could still follow
  pub left : Option ℕ
  pub few : limit ≡ and_more (length entries) left
  pub near : length rest < rest_limit
  pub stops : Stops limit read
  -- what was served
  pub served : IsServed g verdict o r.bank_then entries
  -- what is reported of it
  pub reports : Reports g o.bank r (record { read = read; count = length entries; left = left; rest = rest }) entries
  -- nothing was played after an entry that wasn't written whole, or after a read that failed
  pub lacks : LacksOne entries r.taken r.taken_then
  pub reads_last : ReadsLast r entries
  pub failures : TellsFailures r
