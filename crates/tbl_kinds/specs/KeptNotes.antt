-- Notes as they are kept.
use Rattle.tbl_kinds.specs.Notes.{untouched, all_done}
use Rattle.tbl_kinds.specs.declared.note.BankNote.{BankNote}
use Rattle.tbl_kinds.specs.declared.note.Kept.{Kept}
use Rattle.tbl_kinds.specs.declared.note.Kept.TheVariants.{Untouched, Done, Whole}

abbrev pub note_in : Kept → BankNote
note_in Untouched = untouched
note_in (Done count) = all_done count
note_in (Whole outside) = outside.value.note
