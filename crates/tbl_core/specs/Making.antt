-- What a request does, before the boot after a stop of it.
use Rattle.std.specs.Prelude.{◌≡◌, ◌⊎◌, ℕ, suc, List, length, not, Option, Some, None, IsSome}
use Rattle.std.proofs.Common.{ℤ}
use Rattle.tbl_model.specs.State.{State}
use Rattle.tbl_model.specs.Tables.{table_at}
use Rattle.tbl_model.specs.Fit.{AreFit}
use Rattle.tbl_kinds.specs.Blocks.{Store as Blocks, empty_store}
use Rattle.tbl_kinds.specs.StoreCalls.{StoreCall}
use Rattle.tbl_kinds.specs.StoreSteps.{Shows as ShowsBlocks}
use Rattle.tbl_session.specs.Crashes.{DuringCalls, writes}
use Rattle.tbl_model.specs.Effects as model
use Rattle.tbl_model.specs.Dispatch.{effect_of}
use Rattle.tbl_outside.specs.declared.validator.KitEntry.{KitEntry}
use Rattle.tbl_kinds.specs.declared.request.Actor.{Actor}
use Rattle.tbl_kinds.specs.declared.request.Request.{Request}
use Rattle.tbl_core.specs.Pins.{HaveImages, PinsGoOn}
use Rattle.tbl_model.specs.Telemetry.{Question}
use Rattle.tbl_model.specs.BankCounts.{HasCause}
use Rattle.tbl_model.specs.StoreNotes.{Boots, IsNoteOf, boot_in}
use Rattle.tbl_model.specs.StoreUse.{left_by}
use Rattle.tbl_kinds.specs.declared.note.BankNote.{BankNote}
use Rattle.tbl_kinds.specs.declared.note.Outcome.TheVariants.{Untouched, Stopped}
use Rattle.tbl_kinds.specs.declared.request.Request.TheVariants as ask
use Rattle.tbl_kinds.specs.declared.request.ResetKind.TheVariants.{Processor, PowerOn}
use Rattle.tbl_kinds.specs.declared.status.TheConstants.Status.{INFO_STOPPED}
use Rattle.tbl_model.specs.Copies.{then_copy}
use Rattle.store_requests.specs.Called.{NoBoot, boots_after, Troubled, Leaving}
use Rattle.tbl_session.specs.Restores.{RestoresHeld}
use Rattle.tbl_core.specs.Ended.{Follows}
use Rattle.tbl_core.specs.BankAsked.{BankAsked}
use Rattle.tbl_core.specs.Owned.{owned_at, copied_at}
use Rattle.store_requests.specs.Copying.{Copied}
use Rattle.request_effects.specs.Reports.{most_events}
use Rattle.request_effects.specs.Effects.{Effect, IsEffect, IsWithin, uncalled, given_of}
use Rattle.tbl_kinds.specs.Notes.{untouched}
use Rattle.tbl_model.specs.Given.{Given}
use Rattle.tbl_core.specs.Verdicts.{Judged}
use Rattle.tbl_outside.specs.declared.bank.Bank.{Ghosts}
use Rattle.tbl_outside.specs.declared.validator.Validator.{Ghosts as ValidatorGhosts}
use Rattle.tbl_core.specs.Views.{PartsView}
use Rattle.tbl_core.specs.Standing.{IsStateOf, state_of, HoldsAll}

-- a request, with the parts before and after it
pub record Step (B C : Type 0) : Type 0 where
  pub old : PartsView B C
  pub new : PartsView B C
  pub request : Request

abbrev pub step_of : {B C : Type 0} → PartsView B C → PartsView B C → Request → Step B C
step_of old new request = record { old = old; new = new; request = request }

-- the request has this effect, and the parts represent the state that it leaves, over the same blocks
abbrev pub Leaves : {B C : Type 0} → Blocks → Effect → PartsView B C → Option model.Effect → Type 0
Leaves blocks done held None = ⊥
Leaves blocks done held (Some e) = IsEffect done e.questions e.next e × IsStateOf blocks held e.next

-- the kit was asked the questions of this effect, and gave these verdicts
abbrev pub IsJudged : {C : Type 0} → ValidatorGhosts C → List (Option (KitEntry C)) → List (Option (KitEntry C)) → List (Option ℤ) → Option model.Effect → Type 0
IsJudged v old new verdicts None = ⊥
IsJudged v old new verdicts (Some e) = Judged v old new e.questions verdicts

-- the request was done: this was its effect, the kit gave what it was asked for, no more events are reported, and the store wasn't called
pub record Does {B C : Type 0} (v : ValidatorGhosts C) (most : ℕ) (old new : PartsView B C) (means : State → Given → Option model.Effect) (done : Effect) : Type 0 where
  pub effect : (s : State) → IsStateOf s.store old s → Leaves s.store done new (means s (given_of done))
  pub judged : (s : State) → IsStateOf s.store old s → IsJudged v old.kit new.kit done.verdicts (means s (given_of done))
  pub store : new.store ≡ old.store
  pub note : done.note ≡ untouched
  pub two : length done.verdicts ≡ 2
  pub within : IsWithin most done

-- what the owner of the table in a row asks for it
abbrev pub owned_in : ℕ → Request → State → Given → Option model.Effect
owned_in row request s given = owned_at (table_at s.tables row) s row request given

-- an application requests this of the table in the row, as its owner
pub record LeadsTo {B C : Type 0} (held : PartsView B C) (actor : Actor) (request : Request) (row : ℕ) : Type 0 where
  pub table : IsSome (table_at held.tables row)
  pub means : (s : State) → IsStateOf s.store held s → (given : Given) → effect_of s actor request given ≡ copied_at request row given.note (owned_in row request s given)

-- the request was done to the table in this row, and an image that went active by it was copied
pub record DoesAndCopies {B C : Type 0} (g : Ghosts B) (v : ValidatorGhosts C) (old new : PartsView B C) (row : ℕ) (request : Request) (done : Effect) : Type 0 where
  pub before : Effect  -- the copy
  pub does : Does v 3 old (record new { store = old.store }) (owned_in row request) before
  pub copied : Copied g old.store new.store before done (λ e. e.next.tables ≡ new.tables) (λ e n. then_copy row n e)

-- its calls are under way; or it is a power-on, which empties the store
abbrev pub EndsIn : Request → List StoreCall → Blocks → Blocks → Type 0
EndsIn request calls store left = DuringCalls (writes calls) store left ⊎ ((request ≡ ask.Reset PowerOn) × ShowsBlocks empty_store left)

-- in this state it has this effect, if the service has this note after it
pub record HasEffect {B C : Type 0} (g : Ghosts B) (v : ValidatorGhosts C) (step : Step B C) (s : State) (done : Effect) (note : BankNote) (e : model.Effect) : Type 0 where
  pub before : State  -- the boot
  pub holds : HoldsAll g step.new before
  pub effect : IsEffect done e.questions (boots_after note.outcome note before) (uncalled e)
  pub judged : Judged v step.old.kit step.new.kit e.questions done.verdicts
  pub gave : RestoresHeld (g.now step.old.store.bank) e.calls s.store note
  pub left : note.outcome ≡ Stopped → before.store ≡ left_by e.calls note s.store
  pub writing : note.outcome ≡ Stopped → writes e.calls ≡ e.calls
  pub moments : Leaving g step.old.store step.new.store (EndsIn step.request e.calls s.store)
  pub noted : (note.outcome ≡ Stopped → Boots (Some Processor) before.store note) → IsNoteOf step.request e.calls s.store note
  pub asked : BankAsked g (boot_in step.request Untouched) step.old.store step.new.store e.calls s.store note

abbrev pub Has : {B C : Type 0} → Ghosts B → ValidatorGhosts C → Step B C → State → Effect → BankNote → Option model.Effect → Type 0
Has g v step s done note None = ⊥
Has g v step s done note (Some e) = HasEffect g v step s done note e

-- the request was made. This also holds over a bank that doesn't show its bytes
pub record Makes {B C : Type 0} (g : Ghosts B) (v : ValidatorGhosts C) (request : Request) (old new : PartsView B C) (done : Effect) : Type 0 where
  pub fit : (n : ℕ) → AreFit n (state_of old) → AreFit (suc n) (state_of new)
  pub judged : (questions : List Question) × Judged v old.kit new.kit questions done.verdicts
  pub two : length done.verdicts ≡ 2
  pub within : IsWithin most_events done
  pub booted : new.store.booted ≡ not new.ended
  pub ended : new.ended ≡ done.note.ended
  pub stopped : done.note.outcome ≡ Stopped → (done.answer.status ≡ INFO_STOPPED) × NoBoot done.note
  pub trouble : Troubled g old.store.bank new.store.bank done.note
  pub cause : HasCause done.answer.status done.note
  pub pins : HaveImages old.tables → HaveImages new.tables × PinsGoOn old.tables new.tables request done.answer.status

-- and this if the bank shows them: with any note to which a boot may have added, this was its effect
abbrev pub Meets : {B C : Type 0} → Ghosts B → ValidatorGhosts C → Step B C → (State → Given → Option model.Effect) → Effect → Type 0
Meets g v step means done = g.tells → (s : State) → HoldsAll g step.old s → (note : BankNote) → Follows done.note note
    → Has g v step s done note (means s (record { note = note; verdicts = done.verdicts }))
