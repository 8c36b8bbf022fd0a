-- What went wrong at the bank, as a history reports it.
use Rattle.std.specs.Prelude.{◌≡◌, List, [], ◌∷◌, ◌++◌, Bool, true}
use Rattle.std.specs.List.{AllByRecursion}
use Rattle.tbl_model.specs.BankCounts.{HasCause, fault_count, stop_count}
use Rattle.tbl_outside.specs.Counts.{RoseBy}
use Rattle.tbl_outside.specs.declared.bank.Bank.{Ghosts}
use Rattle.tbl_kinds.specs.declared.entry.Entry.{Entry}

-- the counts of the bank rose by at least as many faults and stops as these entries report
pub record Rises {B : Type 0} (g : Ghosts B) (bank bank_then : B) (entries : List Entry) : Type 0 where
  pub fault : RoseBy (fault_count entries) (g.faults bank) (g.faults bank_then)
  pub stop : RoseBy (stop_count entries) (g.stops bank) (g.stops bank_then)

-- each answer that reports trouble has its cause in its note
abbrev pub HaveCauses : List Entry → Type 0
HaveCauses entries = AllByRecursion (λ (e : Entry). HasCause e.reply.status e.given.note) entries

-- the last entry says that a boot ended the service: the bank failed in it, or a reset came into it
abbrev pub EndsInBoot : Bool → List Entry → Type 0
EndsInBoot stopped entries = (before : List Entry) × (last : Entry) × (entries ≡ before ++ last ∷ []) × (last.given.note.ended ≡ true) × (last.given.note.stopped ≡ stopped)
