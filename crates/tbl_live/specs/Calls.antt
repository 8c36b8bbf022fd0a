-- The calls of one actor, as a history has them.
use Rattle.std.specs.Prelude.{ℕ, suc, ◌==◌, if◌then◌else◌, List, [], ◌∷◌, drop}
use Rattle.tbl_kinds.specs.Records.{actor_number}
use Rattle.tbl_kinds.specs.declared.entry.Entry.{Entry}
use Rattle.tbl_kinds.specs.declared.request.Request.{Request}
use Rattle.tbl_kinds.specs.declared.status.Status.{Status}

-- the place of a call in the history, what it requested, and its reply
pub record Call : Type 0 where
  pub place : ℕ
  pub request : Request
  pub status : Status
  pub detail : ℕ
  pub bytes : List ℕ

-- an entry at this place, as its caller sees it
abbrev pub call_of : ℕ → Entry → Call
call_of place e = record { place = place; request = e.request; status = e.reply.status; detail = e.reply.detail; bytes = e.reply.bytes.list }

-- of entries, where the first has this place, those of this actor, by its number
abbrev pub own_from : ℕ → ℕ → List Entry → List Call
own_from place actor [] = []
own_from place actor (e ∷ es) = if actor_number e.actor == actor then call_of place e ∷ own_from (suc place) actor es else own_from (suc place) actor es

-- an actor's entries of a history, from the place `base` on
abbrev pub own : ℕ → ℕ → List Entry → List Call
own base actor entries = own_from base actor (drop base entries)
