-- A file after the field of its name.
use Rattle.std.proofs.Common.{◌≡◌, ℕ, List, ◌++◌, drop, sym, ap, ◌∙◌}
use Rattle.std.proofs.Math.Seq.{drop-append_seam}
use Rattle.tbl_kinds.specs.Names.{name_field}
use Rattle.tbl_kinds.specs.Records.{FitsField}
use Rattle.tbl_kinds.proofs.NameFields.{length-name_field}

pub behind_field : (name bytes spelling : List ℕ) → FitsField 64 name → spelling ≡ name_field 64 name ++ bytes → drop 64 spelling ≡ bytes
behind_field name bytes spelling fits is =
    ap (λ (s : List ℕ). drop 64 s) is
    ∙ ap (λ n. drop n (name_field 64 name ++ bytes)) (sym (length-name_field 64 name fits))
    ∙ drop-append_seam (name_field 64 name) bytes
