-- An image that went active is copied, after what its request did.
use Rattle.std.specs.Prelude.{◌≡◌, ◌⊎◌, ℕ, suc, List, [], ◌∷◌, ◌++◌, None, true, Result, Ok, Err}
use Rattle.tbl_kinds.specs.Notes.{untouched}
use Rattle.tbl_model.specs.declared.telemetry.TelemetryEvent.{TelemetryEvent}
use Rattle.tbl_model.specs.declared.telemetry.TelemetryEvent.TheVariants.{CopyFailed}
use Rattle.tbl_model.specs.declared.telemetry.Shown.TheVariants.{Nothing}
use Rattle.cds_store.specs.StoreBlocks.{StoreParts, StandsFor}
use Rattle.cds_store.specs.declared.fault.BankFault.{BankFault}
use Rattle.cds_store.specs.declared.fault.BankFault.TheVariants.{Fault, Stopped as Cut}
use Rattle.tbl_kinds.specs.declared.note.Outcome.TheVariants.{Stopped}
use Rattle.tbl_kinds.specs.declared.status.TheConstants.Status.{INFO_STOPPED}
use Rattle.tbl_kinds.specs.Buffers.{Buffer}
use Rattle.tbl_kinds.specs.declared.entry.Reply.{Reply}
use Rattle.tbl_kinds.specs.declared.note.BankNote.{BankNote}
use Rattle.tbl_model.specs.Effects as model
use Rattle.store_requests.specs.Called.{NoBoot, Troubled, CallsAfter, call_note, done_first}
use Rattle.request_effects.specs.Reports.{Reported}
use Rattle.request_effects.specs.Effects.{Effect, IsEffect, IsWithin, HasRoom, reported_effect}
use Rattle.tbl_outside.specs.declared.bank.Bank.{Ghosts}

-- what the reply and the report tell, with this note
abbrev pub told_in : Reply → Reported → BankNote → Effect
told_in reply report note = reported_effect (record { status = reply.status; detail = reply.detail }) reply.bytes.list report note

-- if it was stopped, something else
abbrev pub unless_stopped : {X : Type 0} → Result Unit BankFault → X → X → X
unless_stopped (Ok x) told other = told
unless_stopped (Err (Fault gate old)) told other = told
unless_stopped (Err (Cut gate old)) told other = other

-- if the bank failed, that is reported too
abbrev pub with_failure : ℕ → ℕ → Result Unit BankFault → List TelemetryEvent → List TelemetryEvent
with_failure row slot (Ok x) events = events
with_failure row slot (Err (Fault gate old)) events = events ++ CopyFailed row slot ∷ []
with_failure row slot (Err (Cut gate old)) events = events

-- what becomes of an effect by how the copy ended
pub record IsCopied (row slot : ℕ) (ended : Result Unit BankFault) (before done : Effect) : Type 0 where
  pub answer : done.answer ≡ unless_stopped ended before.answer (record { status = INFO_STOPPED; detail = 0 })
  pub bytes : done.bytes ≡ unless_stopped ended before.bytes []
  pub table : done.table ≡ unless_stopped ended before.table None
  pub events : done.events ≡ with_failure row slot ended before.events
  pub shown : done.shown ≡ unless_stopped ended before.shown Nothing
  pub notice : done.notice ≡ unless_stopped ended before.notice None
  pub note : done.note ≡ call_note ended untouched
  pub verdicts : done.verdicts ≡ before.verdicts

-- the answer stays unless the copy was stopped, no more than one event is reported, and the note has its cause in the counts of the bank
pub record IsCopyCall {B : Type 0} (g : Ghosts B) (old new : StoreParts B) (before done : Effect) : Type 0 where
  pub within : (most : ℕ) → IsWithin most before → IsWithin (suc most) done
  pub verdicts : done.verdicts ≡ before.verdicts
  pub no_boot : NoBoot done.note
  pub stopped : done.note.outcome ≡ Stopped → done.answer.status ≡ INFO_STOPPED
  pub answer : (done.answer.status ≡ before.answer.status) ⊎ ((done.answer.status ≡ INFO_STOPPED) × (done.note.outcome ≡ Stopped))
  pub trouble : Troubled g old.bank new.bank done.note
  pub booted : new.booted ≡ true

-- a copy may have come after what a request did; if the bank shows its bytes, of such an effect it made this one, whatever a boot after it reports
pub record Copied {B : Type 0} (g : Ghosts B) (old new : StoreParts B) (before done : Effect) (Of : model.Effect → Type 0) (means : model.Effect → BankNote → model.Effect) : Type 0 where
  pub effect : g.tells → (e : model.Effect) → IsEffect before e.questions e.next e → Of e → StandsFor g.tells g.now old e.next.store → CallsAfter g old new (done_first e) done (means e)
  pub call : IsCopyCall g old new before done

-- with room for so many bytes of packets before it there is enough after it
abbrev pub KeepsRoom : ℕ → Effect → Effect → Type 0
KeepsRoom more before done = (packets : Buffer) → HasRoom more packets before → HasRoom 0 packets done
