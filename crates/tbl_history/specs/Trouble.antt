-- What went wrong at the bank of a core.
use Rattle.std.specs.Prelude.{◌≡◌, ◌≤◌, List, [], ◌∷◌, ◌++◌}
use Rattle.tbl_outside.specs.declared.bank.Bank.{Ghosts}
use Rattle.tbl_session.specs.Trouble.{Rises, HaveCauses}
use Rattle.tbl_core.specs.Service.{CoreView}
use Rattle.tbl_kinds.specs.declared.entry.Entry.{Entry}

-- of a core that began with this bank: the counts didn't fall, they rose by at least what the entries say, each answer that reports trouble
-- has its cause, and the service has ended if the last entry says so
pub record IsCaused {B C : Type 0} (g : Ghosts B) (bank : B) (core : CoreView B C) : Type 0 where
  pub fault_up : g.faults bank ≤ g.faults core.state.store.bank
  pub stop_up : g.stops bank ≤ g.stops core.state.store.bank
  pub trouble : Rises g bank core.state.store.bank core.entries
  pub causes : HaveCauses core.entries
  pub ended : (before : List Entry) (last : Entry) → core.entries ≡ before ++ last ∷ [] → core.state.ended ≡ last.given.note.ended
