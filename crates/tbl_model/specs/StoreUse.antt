-- Requests that call the store, once they have done what they do to tables: what the calls leave, and how the request ends by them.
use Rattle.std.specs.Prelude.{List, Option, Some, None, slice_get}
use Rattle.tbl_kinds.specs.Blocks.{Store}
use Rattle.tbl_kinds.specs.StoreCalls.{StoreCall, broken, after_first}
use Rattle.tbl_model.specs.Effects.{Effect}
use Rattle.tbl_model.specs.Boots.{stopped}
use Rattle.tbl_kinds.specs.declared.note.BankNote.{BankNote}
use Rattle.tbl_kinds.specs.declared.note.Outcome.{Outcome}
use Rattle.tbl_kinds.specs.declared.note.Outcome.TheVariants.{Untouched, Done, Failed, Stopped}

abbrev pub then_broken : BankNote → Option StoreCall → Store → Store
then_broken note None store = store
then_broken note (Some call) store = broken note.gate note.old call store

-- the blocks after the calls that are done, and after the next one, which broke off
abbrev pub left_by : List StoreCall → BankNote → Store → Store
left_by calls note store = then_broken note (slice_get calls note.done) (after_first note.done calls store)

-- the effect makes these calls too
abbrev pub with_calls : List StoreCall → BankNote → Effect → Effect
with_calls calls note e = record e { calls = calls; next = record e.next { store = left_by calls note e.next.store } }

abbrev pub by_outcome : Outcome → Effect → Effect → Effect → Effect
by_outcome Untouched done failed stopped = done
by_outcome Done done failed stopped = done
by_outcome Failed done failed stopped = failed
by_outcome Stopped done failed stopped = stopped

-- where all of them are done, that is all; where the bank failed in one, the effect becomes another; where one was stopped, so is the request
abbrev pub then_call : List StoreCall → BankNote → (Effect → Effect) → Effect → Effect
then_call calls note failed e =
    let left = with_calls calls note e in
    by_outcome note.outcome left (failed left) (stopped note left)
