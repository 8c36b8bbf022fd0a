-- The name of a right block fits its field.
use Rattle.std.proofs.Common.{◌≡◌, ℕ, ◌-◌, length, replicate, nat_lt, true, arith, length-append}
use Rattle.std.specs.List.{list_all}
use Rattle.std.proofs.lemmas.Bool.{and_parts}
use Rattle.std.proofs.lemmas.List.{length-replicate}
use Rattle.tbl_kinds.specs.Names.{is_printable_byte, name_field}
use Rattle.tbl_kinds.specs.Records.{FitsField}
use Rattle.tbl_kinds.proofs.Names.{printable_no_zero}
use Rattle.tbl_kinds.specs.declared.block.Block.{Block}
use Rattle.cds_layout.specs.Entries.{entry_tail, is_right}
use Rattle.cds_layout.proofs.EntryLaws.{right-parts}

-- so long is the entry of a name that isn't cut off
pub fits_field : (b : Block) → is_right b ≡ true → length (entry_tail b) ≡ 63 → FitsField 40 b.name
unfolding entry_tail
fits_field b right long = record {
  within = omega (arith, long, length-append (name_field 40 b.name) (replicate 12 0), length-append b.name (replicate (40 - length b.name) 0), length-replicate {A = ℕ} (40 - length b.name) 0);
  no_zero = printable_no_zero b.name (and_parts (nat_lt 0 (length b.name)) (list_all is_printable_byte b.name) (right-parts b right).named).1;
}
