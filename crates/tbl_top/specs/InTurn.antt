-- A session that is played in order: each entry is written before the next record is played.
use Rattle.std.specs.Prelude.{ℕ, List}
use Rattle.std.proofs.Common.{ℤ}
use Rattle.tbl_kinds.specs.Records.{Pair}
use Rattle.tbl_outside.specs.declared.bank.Bank.{Ghosts}
use Rattle.tbl_session.specs.Openings.{Opening}
use Rattle.tbl_session.specs.Orders.{InOrder}
use Rattle.tbl_session.specs.Session.{Ran, Session}
use Rattle.tbl_stream.specs.Reports.{LacksOne, ReadsLast}
use Rattle.tbl_kinds.specs.declared.entry.Entry.{Entry}

-- the records were requested in order; nothing was played after an entry that wasn't written whole or after a read that failed
abbrev pub InTurn : {B : Type 0} → Ran B → ℕ → List Pair → List Entry → Type 0
InTurn r status pairs entries = InOrder status pairs entries × LacksOne entries r.taken r.taken_then × ReadsLast r entries

-- the session is played so
abbrev pub Plays : {B C : Type 0} → Ghosts B → (C → List ℕ → ℤ) → Opening B C → Ran B → Type 0
Plays g verdict o r = Session (InTurn r) g verdict o r
