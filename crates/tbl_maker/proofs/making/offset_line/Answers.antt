use Rattle.std.proofs.Common.{ℕ, List, ◌∷◌, ◌++◌, sym, ap, ◌∙◌}
use Rattle.std.specs.Prelude.{codes}
use Rattle.std.specs.Fmt.{decimal}
use Rattle.tbl_maker.specs.Descriptions.{offset_line}
use Rattle.tbl_maker.specs.Parts.{IsNoOffset}
use Rattle.tbl_maker.proofs.Parting.{one_split, no_split, strip_is}
use Rattle.tbl_maker.proofs.Numbers.{if_none}
use Rattle.tbl_maker.proofs.Makes.{offset_line_lacks, offset_digits}
use Rattle.tbl_maker.proofs.making.offset_line.Goals as goal

pub returns-in_err-line-clause-none : goal.returns-in_err-line-clause-none
returns-in_err-line-clause-none c =
    let text = c.args.text.now in
    let none : IsNoOffset text = λ offset rest small e. no_split 10 text (offset_line offset) rest c.in_err-line.ensures.none e in
    if_none c.from_residual.result (IsNoOffset text) none

pub returns-in_err-offset-clause-none : goal.returns-in_err-offset-clause-none
returns-in_err-offset-clause-none c =
    let text = c.args.text.now in
    let line = c.in_ok-line.line.now in
    let found = c.in_ok-line.ensures.found in
    let digits = c.in_ok-digits.digits.now in
    let stripped = strip_is line (codes "offset ") digits c.in_ok-digits.ensures.cases.0 c.in_ok-digits.ensures.cases.1 in
    let none : IsNoOffset text = λ offset rest small e.
    let cut = one_split 10 line (offset_line offset) c.in_ok-line.rest.now rest found.first (offset_line_lacks offset small) (sym found.parts ∙ e) in
    c.in_err-offset.ensures.none offset small (offset_digits digits (decimal offset) (sym stripped ∙ cut.0)) in
    if_none c.from_residual-in_err-offset.result (IsNoOffset text) none

pub returns-clause-some : goal.returns-clause-some
returns-clause-some c =
    let line = c.in_ok-line.line.now in
    let found = c.in_ok-line.ensures.found in
    let digits = c.in_ok-digits.digits.now in
    let stripped = strip_is line (codes "offset ") digits c.in_ok-digits.ensures.cases.0 c.in_ok-digits.ensures.cases.1 in
    record {
      fits = c.in_ok-offset.ensures.below;
      text_is = found.parts ∙ ap (λ (l : List ℕ). l ++ 10 ∷ c.in_ok-line.rest.now) (stripped ∙ ap (λ (l : List ℕ). codes "offset " ++ l) c.in_ok-offset.ensures.some);
    }
