-- An answer that reports the bank's trouble has its cause in the note: no other request gives it.
use Rattle.tbl_model.specs.State.{State}
use Rattle.tbl_model.specs.Given.{Given}
use Rattle.tbl_model.specs.BankCounts.{HasCause}
use Rattle.tbl_model.specs.Dispatch.{effect_of}
use Rattle.tbl_kinds.specs.declared.request.Actor.{Actor}
use Rattle.tbl_kinds.specs.declared.request.Request.{Request}
use Rattle.tbl_laws.proofs.Cases.{OfEffect, part}
use Rattle.tbl_laws.proofs.Kept.{told}

pub caused : (s : State) (given : Given) (actor : Actor) (request : Request) → OfEffect (λ e. HasCause e.status given.note) (effect_of s actor request given)
caused s given actor request = part (λ e tells. tells.caused) (effect_of s actor request given) (told s given actor request)
