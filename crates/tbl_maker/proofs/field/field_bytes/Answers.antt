use Rattle.std.proofs.Common.{sym, ◌∙◌}
use Rattle.tbl_maker.specs.Parts.{IsNoField, IsNoValue, ReadsField, ReadsValue}
use Rattle.tbl_maker.proofs.Numbers.{if_none, if_none_map, if_some_map}
use Rattle.tbl_maker.proofs.Fields.{reads_field, no_space, no_second_space, no_name, no_value}
use Rattle.tbl_maker.proofs.field.field_bytes.Goals as goal

pub returns-in_err-word-clause-none : goal.returns-in_err-word-clause-none
returns-in_err-word-clause-none c = if_none c.from_residual.result (IsNoField c.args.line.now) (no_space c.args.line.now c.in_err-word.ensures.none)

pub returns-in_err-name-clause-none : goal.returns-in_err-name-clause-none
returns-in_err-name-clause-none c =
    if_none c.from_residual-in_err-name.result (IsNoField c.args.line.now)
    (no_second_space c.args.line.now c.in_ok-word.word.now c.in_ok-word.rest.now c.in_ok-word.ensures.found c.in_err-name.ensures.none)

pub returns-then-not-is_field_name-clause-none : goal.returns-then-not-is_field_name-clause-none
returns-then-not-is_field_name-clause-none c =
    no_name c.args.line.now c.in_ok-word.word.now c.in_ok-word.rest.now c.in_ok-name.name.now c.in_ok-name.text.now c.in_ok-word.ensures.found c.in_ok-name.ensures.found (sym c.is_field_name.ensures ∙ c.if-not-is_field_name.true)

pub returns-clause-some : goal.returns-clause-some
returns-clause-some c =
    let word = c.in_ok-word.word.now in
    let text = c.in_ok-name.text.now in
    if_some_map c.value_bytes.result (λ bytes. ReadsValue word text bytes.items) (λ bytes. ReadsField c.args.line.now bytes.items)
    (λ bytes read. reads_field c.args.line.now word c.in_ok-word.rest.now c.in_ok-name.name.now text bytes.items c.in_ok-word.ensures.found c.in_ok-name.ensures.found (sym c.is_field_name.ensures ∙ c.if-not-is_field_name.false) read)
    c.value_bytes.ensures.some

pub returns-clause-none : goal.returns-clause-none
returns-clause-none c =
    let word = c.in_ok-word.word.now in
    let text = c.in_ok-name.text.now in
    if_none_map c.value_bytes.result (IsNoValue word text) (IsNoField c.args.line.now)
    (no_value c.args.line.now word c.in_ok-word.rest.now c.in_ok-name.name.now text c.in_ok-word.ensures.found c.in_ok-name.ensures.found)
    c.value_bytes.ensures.none
