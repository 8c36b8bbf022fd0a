-- What a written name field reads as.
use Rattle.std.proofs.Common.{ℕ, ◌≤◌, List, length}
use Rattle.tbl_kinds.specs.Names.{name_field, HasNoZero}
use Rattle.tbl_kinds.specs.Fields.{ReadsAs}
use Rattle.tbl_kinds.specs.Records.{FitsField}
use Rattle.tbl_kinds.proofs.NameFields.{length-name_field, name_in-name_field}

pub reads-name_field : (width : ℕ) (name : List ℕ) → length name ≤ width → HasNoZero name → ReadsAs width name (name_field width name)
reads-name_field width name fits none =
    let both : FitsField width name = record { within = fits; no_zero = none } in
    record { len = length-name_field width name both; reads = name_in-name_field width name both }
