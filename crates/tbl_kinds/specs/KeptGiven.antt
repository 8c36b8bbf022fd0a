-- What the outside gave, as it is kept.
use Rattle.tbl_kinds.specs.Given.{Given}
use Rattle.tbl_kinds.specs.Notes.{untouched, all_done}
use Rattle.tbl_kinds.specs.declared.given.Parts.{Parts}
use Rattle.tbl_kinds.specs.declared.given.Parts.TheVariants.{Untouched, Done, Whole}

abbrev pub given_in : Parts → Given
given_in (Untouched verdicts) = record { note = untouched; verdicts = verdicts }
given_in (Done count verdicts) = record { note = all_done count; verdicts = verdicts }
given_in (Whole outside) = record { note = outside.value.note; verdicts = outside.value.verdicts }
