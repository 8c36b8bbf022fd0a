use Rattle.std.proofs.Common.{◌≡◌, take}
use Rattle.tbl_kinds.specs.Transcript.{offset_of}
use Rattle.tbl_top.proofs.telling.offset_of.Given as goal

abbrev pub invariant-entries : goal.invariant-entries
invariant-entries l = l.offset ≡ offset_of (take l.entry-index l.entries)
