use Rattle.std.proofs.Common.{◌≡◌, sym, ◌∙◌, subst, rules}
use Rattle.std.specs.Prelude.{FitsSigned}
use Rattle.std.specs.Int.{w64}
use mir.Val.{to_z, of_z}
use Rattle.std.proofs.lemmas.Int.{to_z-of_z}
use Rattle.std.proofs.lemmas.Fmt.{signed_decimal_injective}
use Rattle.tbl_maker.specs.Values.{IsInRange}
use Rattle.tbl_maker.proofs.Values.{in_range_moderate, mag_small}
use Rattle.tbl_maker.proofs.Numbers.{fits_mag, refused}
use Rattle.tbl_maker.proofs.number.number_bytes.Goals as goal

pub returns-then-not-is_in_range-clause-none : goal.returns-then-not-is_in_range-clause-none
returns-then-not-is_in_range-clause-none c z h e =
    let number = c.in_ok-number.number in
    let fits : FitsSigned w64 number = search rules in
    let same : number ≡ z = signed_decimal_injective number z (fits_mag number fits) (mag_small z (in_range_moderate c.args.sign c.args.width z h)) (sym c.in_ok-number.ensures.some ∙ e) in
    let in_range : IsInRange c.args.sign c.args.width (to_z w64 (of_z w64 number)) = subst (IsInRange c.args.sign c.args.width) (sym (to_z-of_z w64 number fits ∙ same)) h in
    refused c.is_in_range.result c.if-not-is_in_range.true (c.is_in_range.ensures.1 in_range)
