use Rattle.std.proofs.Common.{◌≡◌, ◌<◌, ◌^◌, sym, ◌∙◌, subst, arith, rules, pos}
use Rattle.std.specs.Prelude.{FitsSigned, ◌≤ℤ◌, ◌<ℤ◌}
use Rattle.std.specs.Int.{w64}
use Rattle.std.proofs.lemmas.Int.{to_z-of_z}
use Rattle.std.proofs.lemmas.Fmt.{signed_decimal_injective}
use Rattle.tbl_maker.specs.Parts.{IsNoCount}
use Rattle.tbl_maker.proofs.Numbers.{if_none, fits_mag, refused, below_is}
use Rattle.tbl_maker.proofs.number.count_in.Goals as goal

pub returns-in_err-number-clause-none : goal.returns-in_err-number-clause-none
returns-in_err-number-clause-none c =
    let none : IsNoCount c.args.text.now c.args.limit = λ n small e. let within : n < 2 ^ 63 = omega (arith, small, c.ranges.limit) in c.in_err-number.ensures.none (pos n) within e in
    if_none c.from_residual.result (IsNoCount c.args.text.now c.args.limit) none

pub returns-then-not-is_below-clause-none : goal.returns-then-not-is_below-clause-none
returns-then-not-is_below-clause-none c n small e =
    let number = c.in_ok-number.number in
    let within : n < 2 ^ 63 = omega (arith, small, c.ranges.limit) in
    let fits : FitsSigned w64 number = search rules in
    let same : number ≡ pos n = signed_decimal_injective number (pos n) (fits_mag number fits) within (sym c.in_ok-number.ensures.some ∙ e) in
    let below = subst (λ z. (pos 0 ≤ℤ z) × (z <ℤ pos c.args.limit)) (sym (to_z-of_z w64 number fits ∙ same)) (below_is n c.args.limit small) in
    refused c.is_below.result c.if-not-is_below.true (c.is_below.ensures.1 below)
