-- A step whose boot was the last.
use Rattle.std.proofs.Common.{◌≡◌, [], ◌∷◌, true, false, Err, subst, Result}
use Rattle.tbl_core.specs.Engine.{Steps}
use Rattle.tbl_core.specs.Service.{EngineView, AddsOne, core_of}
use Rattle.tbl_core.specs.declared.service.StepFault.{StepFault}
use Rattle.tbl_core.specs.declared.service.StepFault.TheVariants.{BootFault, BootStopped}
use Rattle.tbl_kinds.specs.declared.entry.Entry.{Entry}
use Rattle.tbl_kinds.specs.declared.request.Actor.{Actor}
use Rattle.tbl_kinds.specs.declared.request.Request.{Request}
use Rattle.tbl_history.proofs.ServingLemmas.{adds_one}
use Rattle.tbl_history.proofs.TroubleLemmas.{ends_in_fault, ends_in_stop}
use Rattle.tbl_outside.specs.declared.bank.Bank.{Ghosts}
use Rattle.tbl_outside.specs.declared.validator.Validator.{Ghosts as ValidatorGhosts}
use Rattle.tbl_session.specs.Trouble.{EndsInBoot}
use Rattle.tbl_stream.specs.Playing.{IsEntryOf}

-- a step over an empty past adds its entry
adds : {B C : Type 0} (g : Ghosts B) (v : ValidatorGhosts C) (old new : EngineView B C) (asked : Actor × Request) (e : Entry) (result : Result Unit StepFault) → Steps g v old new asked e result
    → AddsOne g (core_of [] old) (core_of (e ∷ []) new) asked.0 asked.1 result
adds g v old new asked e result s = adds_one g v (core_of [] old) (core_of (e ∷ []) new) asked.0 asked.1 result (e, s.stepped [])

pub failed_step : {B C : Type 0} (g : Ghosts B) (v : ValidatorGhosts C) (old new : EngineView B C) (asked : Actor × Request) (e : Entry) (fault : StepFault) → fault ≡ BootFault → Steps g v old new asked e (Err fault)
    → EndsInBoot false (e ∷ [])
failed_step g v old new asked e fault is s =
    ends_in_fault g (core_of [] old) (core_of (e ∷ []) new) asked.0 asked.1 (subst (λ (f : StepFault). AddsOne g (core_of [] old) (core_of (e ∷ []) new) asked.0 asked.1 (Err f)) is (adds g v old new asked e (Err fault) s))

pub stopped_step : {B C : Type 0} (g : Ghosts B) (v : ValidatorGhosts C) (old new : EngineView B C) (asked : Actor × Request) (e : Entry) (fault : StepFault) → fault ≡ BootStopped → Steps g v old new asked e (Err fault)
    → EndsInBoot true (e ∷ [])
stopped_step g v old new asked e fault is s =
    ends_in_stop g (core_of [] old) (core_of (e ∷ []) new) asked.0 asked.1 (subst (λ (f : StepFault). AddsOne g (core_of [] old) (core_of (e ∷ []) new) asked.0 asked.1 (Err f)) is (adds g v old new asked e (Err fault) s))

-- its entry is of the request that was asked
pub entry_of : {B C : Type 0} (g : Ghosts B) (v : ValidatorGhosts C) (old new : EngineView B C) (asked : Actor × Request) (e : Entry) (result : Result Unit StepFault) → Steps g v old new asked e result
    → IsEntryOf asked.0 asked.1 e
entry_of g v old new asked e result s = let adds = (s.stepped []).adds in record { actor_is = adds.actor_is; request_is = adds.request_is; small = adds.small }
