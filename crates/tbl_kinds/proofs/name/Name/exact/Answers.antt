use Rattle.std.proofs.Common.{ap, sym, ◌∙◌, drop, length}
use Rattle.std.specs.List.{list_all}
use Rattle.tbl_kinds.specs.Names.{is_zero}
use Rattle.tbl_kinds.proofs.NameFields.{whole_field}
use Rattle.tbl_kinds.proofs.name.Name.exact.Goals as goal

pub invariant_of-result : goal.invariant_of-result
invariant_of-result g c =
    let name = c.read_name-len in
    let own = c.copy_from_slice.ensures.after in
    let zeros = ap (λ field. list_all is_zero (drop (length name.result.now) field)) (sym own) ∙ sym c.ends_in_zeros.ensures ∙ c.if-not-ends_in_zeros.false in
    rw own (whole_field g.row.N c.args.field.now name.result.now name.ensures.name c.requires.len zeros)
