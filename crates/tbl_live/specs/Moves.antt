-- What one turn of an actor may make of what the lock holds.
use Rattle.std.specs.Prelude.{◌≡◌, ◌⊎◌, ℕ, ◌≤◌, List, [], ◌∷◌, ◌++◌, length, Some}
use Rattle.std.specs.List.{AllByRecursion}
use Rattle.std.proofs.Common.{ℤ}
use Rattle.tbl_kinds.specs.Records.{actor_number}
use Rattle.tbl_kinds.specs.Requests.{Fits}
use Rattle.tbl_kinds.specs.declared.entry.Entry.{Entry}
use Rattle.tbl_outside.specs.declared.bank.Bank.{Ghosts}
use Rattle.tbl_history.specs.Serving.{Continues}
use Rattle.tbl_registry.specs.declared.pin.Pin.{Pin}
use Rattle.tbl_core.specs.Service.{IsOfPin}
use Rattle.tbl_core.specs.declared.service.StepFault.{StepFault}
use Rattle.tbl_live.specs.ServedView.{ServedView}

-- its request may come from its actor
abbrev pub IsFit : Entry → Type 0
IsFit e = Fits e.actor e.request

-- nothing, or one entry more, of this actor
abbrev pub Grows : ℕ → List Entry → List Entry → Type 0
Grows actor old new = (new ≡ old) ⊎ ((e : Entry) × (actor_number e.actor ≡ actor) × IsFit e × (new ≡ old ++ e ∷ []))

-- The core goes on from whatever it represented, the history grows by one entry at most, and a fault stays. What was lent is still lent.
pub record Moves {B C : Type 0} (g : Ghosts B) (verdict : C → List ℕ → ℤ) (old : ServedView B C) (actor : ℕ) (new : ServedView B C) : Type 0 where
  pub continues : Continues g verdict old.core new.core
  pub base : new.base ≡ old.base
  pub past : old.base ≤ length old.core.entries
  pub grows : Grows actor old.core.entries new.core.entries
  pub fault : (fault : StepFault) → old.fault ≡ Some fault → new.fault ≡ Some fault
  pub pins : (pin : Pin) → IsOfPin pin old.core → IsOfPin pin new.core

-- a history begins with this one, and each entry after it is of an actor from which its request may come
pub record Extends (old new : List Entry) : Type 0 where
  pub more : List Entry
  pub parts : new ≡ old ++ more
  pub fit : AllByRecursion IsFit more
