use Rattle.std.proofs.Common.{◌≡◌, true, sym, ap, ◌∙◌, ◌∷◌, ◌++◌, ℕ, List}
use Rattle.std.proofs.lemmas.Bool.{and_from}
use Rattle.tbl_maker.specs.Names.{is_field_name}
use Rattle.tbl_maker.specs.Types.{sized_word}
use Rattle.tbl_maker.specs.Shapes.{is_type}
use Rattle.tbl_maker.specs.Words.{IsNoForm}
use Rattle.tbl_maker.proofs.Numbers.{if_none}
use Rattle.tbl_maker.proofs.Fields.{field_reads}
use Rattle.tbl_maker.proofs.Shapes.{no_colon, no_kind, no_name}
use Rattle.tbl_maker.proofs.shape.form_in.Goals as goal

pub returns-in_err-kind-clause-none : goal.returns-in_err-kind-clause-none
returns-in_err-kind-clause-none c = if_none c.from_residual.result (IsNoForm c.args.word.now) (no_colon c.args.word.now c.in_err-kind.ensures.none)

pub returns-in_err-kind-2-clause-none : goal.returns-in_err-kind-2-clause-none
returns-in_err-kind-2-clause-none c =
    if_none c.from_residual-in_err-kind-2.result (IsNoForm c.args.word.now)
    (no_kind c.args.word.now c.in_ok-kind.kind.now c.in_ok-kind.name.now c.in_ok-kind.ensures.found c.in_err-kind-2.ensures.none)

pub returns-then-not-is_field_name-clause-none : goal.returns-then-not-is_field_name-clause-none
returns-then-not-is_field_name-clause-none c =
    no_name c.args.word.now c.in_ok-kind.kind.now c.in_ok-kind.name.now c.in_ok-kind.ensures.found (sym c.is_field_name.ensures ∙ c.if-not-is_field_name.true)

pub returns-clause-some : goal.returns-clause-some
returns-clause-some c =
    let name = c.in_ok-kind.name.now in
    let good : is_field_name name ≡ true = sym c.is_field_name.ensures ∙ c.if-not-is_field_name.false in
    let reads = c.of.ensures ∙ field_reads name good in
    c.in_ok-kind.ensures.found.parts ∙ ap (λ (l : List ℕ). l ++ 58 ∷ name) c.in_ok-kind-2.ensures.some ∙ ap (λ (l : List ℕ). sized_word c.in_ok-kind-2.kind ++ 58 ∷ l) (sym reads)

pub returns-clause-right : goal.returns-clause-right
returns-clause-right c =
    let name = c.in_ok-kind.name.now in
    let good : is_field_name name ≡ true = sym c.is_field_name.ensures ∙ c.if-not-is_field_name.false in
    let reads = c.of.ensures ∙ field_reads name good in
    and_from (is_type c.in_ok-kind-2.kind) _ c.in_ok-kind-2.ensures.right (ap is_field_name reads ∙ good)
