use Rattle.std.proofs.Common.{ℕ, List, [], ◌∷◌, ◌++◌, refl, sym, ap, ◌∙◌, append_assoc, arith}
use Rattle.std.proofs.lemmas.Grind.{common_steps}
use Rattle.tbl_maker.specs.Shapes.{form_word, shape_word}
use Rattle.tbl_maker.specs.Words.{AddsForm, AddsNoForm}
use Rattle.tbl_maker.proofs.Parting.{joined}
use Rattle.tbl_maker.proofs.Shapes.{stops, join_last}
use Rattle.tbl_maker.proofs.shape.read_shape.Goals as goal

pub returns-in_default-2 : goal.returns-in_default-2
returns-in_default-2 c =
    let so_far = c.loop-piece.invariant in
    let split = c.in-Some.ensures.found in
    let none : AddsNoForm c.in-Some.piece.now c.loop-piece.room = rw c.in_default-2.is at c.in_ok-left.ensures.none in
    let bad = stops c.args.word.now c.loop-piece.forms.items c.loop-piece.rest.now c.in-Some.piece.now (c.in-Some.after.now ++ 44 ∷ []) c.loop-piece.room so_far.are_forms so_far.word_is so_far.room_is (ap (λ (l : List ℕ). l ++ 44 ∷ []) split.parts ∙ append_assoc c.in-Some.piece.now (44 ∷ c.in-Some.after.now) (44 ∷ [])) split.first none in
    record { some = tt; shape = tt; none = bad }

pub returns-in-Some-3 : goal.returns-in-Some-3
returns-in-Some-3 c =
    let so_far = c.loop-piece.invariant in
    let added : AddsForm c.loop-piece.rest.now c.loop-piece.forms.items c.add_form-2.new.forms.items c.loop-piece.room c.in-Some-3.field-0 = rw c.in-Some-3.is at c.in_ok-add_form.ensures.some in
    let some = so_far.word_is ∙ ap (λ (l : List ℕ). joined 44 form_word c.loop-piece.forms.items ++ l) added.word_is ∙ join_last c.loop-piece.forms.items added.form ∙ ap shape_word (sym added.forms_are) in
    record { some = some; shape = grind (arith, common_steps, added.is_form, added.forms_are, added.left_is); none = tt }

pub returns-in-None : goal.returns-in-None
returns-in-None c =
    let so_far = c.loop-piece.invariant in
    let none : AddsNoForm c.loop-piece.rest.now c.loop-piece.room = rw c.in-None.is at c.in_ok-add_form.ensures.none in
    let bad = stops c.args.word.now c.loop-piece.forms.items c.loop-piece.rest.now c.loop-piece.rest.now [] c.loop-piece.room so_far.are_forms so_far.word_is so_far.room_is refl c.in_default.ensures.none none in
    record { some = tt; shape = tt; none = bad }
