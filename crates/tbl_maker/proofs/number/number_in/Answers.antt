use Rattle.std.proofs.Common.{◌≡◌, sym, ap, ◌∙◌, subst, rules}
use Rattle.std.specs.Prelude.{FitsSigned}
use Rattle.std.specs.Result.{result_ok}
use Rattle.std.specs.Cmp.Lexicographic.{other_text}
use Rattle.std.proofs.lemmas.Int.{to_z-of_z}
use Rattle.std.specs.Str.{IsUtf8}
use Rattle.std.specs.Int.{w64}
use Rattle.std.specs.Fmt.{signed_decimal}
use Rattle.std.proofs.lemmas.Fmt.{parse-signed_decimal}
use Rattle.tbl_maker.specs.Parts.{IsNoNumber}
use Rattle.tbl_maker.proofs.Values.{mag_small}
use Rattle.tbl_maker.proofs.Numbers.{if_none, err_part, ok_part, some_none, some_one, moderate_fits, signed_utf8}
use Rattle.tbl_maker.proofs.number.number_in.Goals as goal

pub returns-in_err-ok-clause-none : goal.returns-in_err-ok-clause-none
returns-in_err-ok-clause-none c =
    let text = c.args.text.now in
    let none : IsNoNumber text = λ z small e.
    err_part c.from_utf8.result _ _ ⊥ c.from_utf8.ensures.cases (sym c.ok.ensures.value ∙ c.in_err-ok.was) (λ fault no. no.0 (subst IsUtf8 (sym e) (signed_utf8 z small))) in
    if_none c.from_residual.result (IsNoNumber text) none

pub returns-in_err-number-clause-none : goal.returns-in_err-number-clause-none
returns-in_err-number-clause-none c =
    let text = c.args.text.now in
    let same : c.in_ok-ok.field-0.now ≡ text = (ok_part c.from_utf8.result _ _ c.in_ok-ok.field-0 c.from_utf8.ensures.cases (sym c.ok.ensures.value ∙ c.in_ok-ok.was)).0 in
    let none : IsNoNumber text = λ z small e.
    let read = parse-signed_decimal w64 z c.in_ok-ok.field-0.now c.parse.result (moderate_fits z small) (mag_small z small) (same ∙ e) c.parse.ensures.value.0 in
    some_none c.ok-2.result z c.in_err-number.was (c.ok-2.ensures.value ∙ ap result_ok read) in
    if_none c.from_residual-in_err-number.result (IsNoNumber text) none

pub returns-else-eq-clause-none : goal.returns-else-eq-clause-none
returns-else-eq-clause-none c z small e =
    let same : c.in_ok-ok.field-0.now ≡ c.args.text.now = (ok_part c.from_utf8.result _ _ c.in_ok-ok.field-0 c.from_utf8.ensures.cases (sym c.ok.ensures.value ∙ c.in_ok-ok.was)).0 in
    let read = parse-signed_decimal w64 z c.in_ok-ok.field-0.now c.parse.result (moderate_fits z small) (mag_small z small) (same ∙ e) c.parse.ensures.value.0 in
    let number : c.in_ok-number.number ≡ z = some_one c.ok-2.result c.in_ok-number.number z c.in_ok-number.was (c.ok-2.ensures.value ∙ ap result_ok read) in
    let fits : FitsSigned w64 c.in_ok-number.number = search rules in
    let texts : c.format.result.now ≡ signed_decimal c.in_ok-number.number = c.format.ensures.text ∙ ap signed_decimal (to_z-of_z w64 c.in_ok-number.number fits) in
    other_text c.as_bytes.result.now c.args.text.now (sym c.if-eq.false ∙ c.eq.ensures) (c.as_bytes.ensures.value ∙ texts ∙ ap signed_decimal number ∙ sym e)
