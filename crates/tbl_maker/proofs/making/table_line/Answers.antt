use Rattle.std.proofs.Common.{◌≡◌, ℕ, List, ◌∷◌, ◌++◌, true, sym, ap, ◌∙◌}
use Rattle.std.specs.Prelude.{codes}
use Rattle.tbl_maker.specs.Names.{is_full_name}
use Rattle.tbl_maker.specs.Descriptions.{table_line}
use Rattle.tbl_maker.specs.Parts.{IsNoTable}
use Rattle.tbl_maker.proofs.Parting.{one_split, no_split, strip_is}
use Rattle.tbl_maker.proofs.Numbers.{if_none, refused}
use Rattle.tbl_maker.proofs.FullNames.{full_reads}
use Rattle.tbl_maker.proofs.Makes.{table_line_lacks, table_name}
use Rattle.tbl_maker.proofs.making.table_line.Goals as goal

pub returns-in_err-line-clause-none : goal.returns-in_err-line-clause-none
returns-in_err-line-clause-none c =
    let text = c.args.text.now in
    let none : IsNoTable text = λ name rest good e. no_split 10 text (table_line name) rest c.in_err-line.ensures.none e in
    if_none c.from_residual.result (IsNoTable text) none

pub returns-then-not-is_full_name-clause-none : goal.returns-then-not-is_full_name-clause-none
returns-then-not-is_full_name-clause-none c name rest good e =
    let line = c.in_ok-line.line.now in
    let found = c.in_ok-line.ensures.found in
    let cut = one_split 10 line (table_line name) c.in_ok-line.rest.now rest found.first (table_line_lacks name good) (sym found.parts ∙ e) in
    let stripped = strip_is line (codes "table ") c.in_ok-name.name.now c.in_ok-name.ensures.cases.0 c.in_ok-name.ensures.cases.1 in
    let same : c.in_ok-name.name.now ≡ name = table_name c.in_ok-name.name.now name (sym stripped ∙ cut.0) in
    refused c.is_full_name.result c.if-not-is_full_name.true (c.is_full_name.ensures ∙ ap is_full_name same ∙ good)

pub returns-clause-some : goal.returns-clause-some
returns-clause-some c =
    let line = c.in_ok-line.line.now in
    let found = c.in_ok-line.ensures.found in
    let name = c.in_ok-name.name.now in
    let stripped = strip_is line (codes "table ") name c.in_ok-name.ensures.cases.0 c.in_ok-name.ensures.cases.1 in
    let good : is_full_name name ≡ true = sym c.is_full_name.ensures ∙ c.if-not-is_full_name.false in
    let reads = c.of.ensures ∙ full_reads name good in
    record {
      is_name = ap is_full_name reads ∙ good;
      text_is = found.parts ∙ ap (λ (l : List ℕ). l ++ 10 ∷ c.in_ok-line.rest.now) (stripped ∙ ap table_line (sym reads));
    }
