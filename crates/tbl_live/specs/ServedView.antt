-- What the lock of a service holds: the core, the fault that a step answered, and how long the history was as the service opened.
use Rattle.std.specs.Prelude.{◌≡◌, ℕ, ◌<◌, ◌≤◌, List, length, Option, Some, None, true, false}
use Rattle.tbl_kinds.specs.declared.entry.Entry.{Entry}
use Rattle.tbl_session.specs.Trouble.{EndsInBoot}
use Rattle.tbl_core.specs.Service.{CoreView}
use Rattle.tbl_core.specs.declared.service.StepFault.{StepFault}
use Rattle.tbl_core.specs.declared.service.StepFault.TheVariants.{Memory, BootFault, BootStopped}

pub record ServedView (B C : Type 0) : Type 0 where
  pub core : CoreView B C
  pub fault : Option StepFault
  pub base : ℕ

abbrev pub served_view : {B C : Type 0} → CoreView B C → Option StepFault → ℕ → ServedView B C
served_view core fault base = record { core = core; fault = fault; base = base }

-- the last entry has the boot that a step answered so
abbrev pub EndsBy : StepFault → List Entry → Type 0
EndsBy Memory entries = ⊥
EndsBy BootFault entries = EndsInBoot false entries
EndsBy BootStopped entries = EndsInBoot true entries

-- a step after the first `base` entries answered this fault, and the service has ended
pub record HasEnded {B C : Type 0} (fault : StepFault) (base : ℕ) (core : CoreView B C) : Type 0 where
  pub ended : core.state.ended ≡ true
  pub boot : EndsBy fault core.entries
  pub later : base < length core.entries

-- the kept fault is the one that a step answered; without one the service goes on
abbrev pub TellsFault : {B C : Type 0} → Option StepFault → ℕ → CoreView B C → Type 0
TellsFault None base core = core.state.ended ≡ false
TellsFault (Some fault) base core = HasEnded fault base core

-- and no entry was added past the most that there may be
pub record IsServed {B C : Type 0} (limit : ℕ) (s : ServedView B C) : Type 0 where
  pub tells : TellsFault s.fault s.base s.core
  pub past : s.base ≤ length s.core.entries
  pub few : s.base ≤ limit → length s.core.entries ≤ limit
