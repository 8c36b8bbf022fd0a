use Rattle.std.proofs.Common.{◌≡◌, List, Option, rules, subst}
use Rattle.std.specs.Prelude.{IfSome, true}
use Rattle.tbl_maker.specs.Shapes.{is_shape, shape_word}
use Rattle.tbl_maker.specs.declared.form.Form.{Form}
use Rattle.tbl_top.proofs.WordsLemmas.{of_shape}
use Rattle.tbl_top.proofs.words.two_words.Goals as goal

pub returns-in-Some-clause-told : goal.returns-in-Some-clause-told
returns-in-Some-clause-told c =
    let shaped = subst (λ (o : Option (List Form)). IfSome o (λ shape. c.args.shape.now ≡ shape_word shape)) c.in-Some.is c.in_ok-shape.ensures.some in
    let right = subst (λ (o : Option (List Form)). IfSome o (λ shape. is_shape shape ≡ true)) c.in-Some.is c.in_ok-shape.ensures.shape in
    rw c.all.ensures (of_shape c.args.word.now c.args.shape.now c.in-Some.shape (search rules) shaped right)
