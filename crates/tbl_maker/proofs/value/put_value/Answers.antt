use Rattle.std.proofs.Common.{◌≡◌, ℕ, List, ◌++◌, length, sym, ap, ◌∙◌, subst, rules, arith, true}
use Rattle.std.specs.Prelude.{FitsSigned, OnOk}
use Rattle.std.specs.Int.{w64}
use Rattle.std.specs.Fmt.{signed_decimal}
use Rattle.std.specs.List.{flat_map}
use Rattle.std.proofs.lemmas.Int.{to_z-of_z}
use mir.Val.{to_z, of_z}
use Rattle.tbl_maker.specs.Types.{size_of}
use Rattle.tbl_maker.specs.Values.{hex_pair}
use Rattle.tbl_maker.specs.Shapes.{is_type}
use Rattle.tbl_maker.specs.Parts.{PutsValue}
use Rattle.tbl_maker.proofs.Numbers.{on_ok}
use Rattle.tbl_maker.proofs.Puts.{puts_number, puts_hex}
use Rattle.tbl_maker.specs.declared.field_type.FieldType.TheVariants.{Number, Hex}
use Rattle.tbl_maker.proofs.value.put_value.Goals as goal

pub returns-in-Number : goal.returns-in-Number
returns-in-Number c =
    let out = c.args.out.now.list in
    let new = c.put_number.new.out.list in
    let bytes = c.args.bytes.now in
    let sign = c.in-Number.sign in
    let width = c.in-Number.width in
    let z = c.number_of.result in
    let fits : FitsSigned w64 z = search rules in
    let text = ap signed_decimal (to_z-of_z w64 z fits) in
    subst (λ kind. OnOk c.put_number.result (PutsValue kind bytes out new)) (sym c.in-Number.is)
    (on_ok c.put_number.result (new ≡ out ++ signed_decimal (to_z w64 (of_z w64 z))) (PutsValue (Number sign width) bytes out new)
    (λ put. puts_number sign width z bytes out new c.number_of.ensures.in_range c.number_of.ensures.bytes (put ∙ ap (λ (l : List ℕ). out ++ l) text))
    c.put_number.ensures)

pub returns-in-Hex : goal.returns-in-Hex
returns-in-Hex c =
    let out = c.args.out.now.list in
    let new = c.put_hex.new.out.list in
    let bytes = c.args.bytes.now in
    let len = c.in-Hex.length in
    let good : is_type (Hex len) ≡ true = ap is_type (sym c.in-Hex.is) ∙ c.requires.kind in
    let same : length bytes ≡ len = c.requires.len ∙ ap size_of c.in-Hex.is in
    subst (λ kind. OnOk c.put_hex.result (PutsValue kind bytes out new)) (sym c.in-Hex.is)
    (on_ok c.put_hex.result (new ≡ out ++ flat_map hex_pair bytes) (PutsValue (Hex len) bytes out new)
    (puts_hex len bytes out new good same (λ i. omega (arith, c.type_inv.bytes i)))
    c.put_hex.ensures)
