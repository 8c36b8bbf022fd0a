use Rattle.std.proofs.Common.{ap, ◌∙◌}
use Rattle.std.specs.Prelude.{codes}
use Rattle.std.specs.Fmt.{decimal}
use Rattle.tbl_maker.specs.Words.{IsNoType}
use Rattle.tbl_maker.proofs.Parting.{strip_is}
use Rattle.tbl_maker.proofs.Numbers.{if_none}
use Rattle.tbl_maker.proofs.Shapes.{no_hex_type, zero_hex}
use Rattle.tbl_maker.proofs.shape.type_in.Goals as goal

pub returns-in_err-length-clause-none : goal.returns-in_err-length-clause-none
returns-in_err-length-clause-none c =
    let word = c.args.word.now in
    let digits = c.in-Some.digits.now in
    let is = strip_is word (codes "hex") digits c.in-Some.ensures.cases.0 c.in-Some.ensures.cases.1 in
    if_none c.from_residual-in_err-length.result (IsNoType word) (no_hex_type word digits is c.in_err-length.ensures.none)

pub returns-then-length-eq0-clause-none : goal.returns-then-length-eq0-clause-none
returns-then-length-eq0-clause-none c =
    let digits = c.in-Some.digits.now in
    let is = strip_is c.args.word.now (codes "hex") digits c.in-Some.ensures.cases.0 c.in-Some.ensures.cases.1 in
    zero_hex c.args.word.now digits is (c.in_ok-length.ensures.some ∙ ap decimal c.if-length-eq0.true)
