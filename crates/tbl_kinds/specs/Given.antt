-- What the outside gives in a request.
use Rattle.std.specs.Prelude.{List, [], ◌∷◌, Bool, true, false, Option, Some, None}
use Rattle.std.proofs.Common.{ℤ}
use Rattle.tbl_kinds.specs.Notes.{untouched}
use Rattle.tbl_kinds.specs.declared.note.BankNote.{BankNote}

-- how the calls of the store went, and the verdicts of validation functions
pub record Given : Type 0 where
  pub note : BankNote
  pub verdicts : List (Option ℤ)

abbrev pub nothing_given : Given
nothing_given = record { note = untouched; verdicts = None ∷ None ∷ [] }

-- a verdict that is there, or isn't
abbrev pub judged : Bool → ℤ → Option ℤ
judged true verdict = Some verdict
judged false verdict = None
