use Rattle.std.proofs.Common.{[], ◌∷◌, refl, rules}
use Rattle.tbl_stream.proofs.GoingLemmas.{goes_on, full_of}
use Rattle.tbl_stream.proofs.stepping.answer.Goals as goal

pub returns-in-Ok-step-clause-answers : goal.returns-in-Ok-step-clause-answers
returns-in-Ok-step-clause-answers g c =
    let answers = c.in-Ok-step.ensures.answers in
    record {
      entry = search rules;
      goes = goes_on g.B.Bank g.C.Validator.verdict c.args.engine.now c.make_room-has_room.new.engine c.step.new.engine [] (c.step.new.entry ∷ []) c.make_room-has_room.ensures.goes answers.goes;
      ending = answers.ending;
      boot = answers.boot;
    }

pub returns-then-not-has_room-clause-refuses : goal.returns-then-not-has_room-clause-refuses
returns-then-not-has_room-clause-refuses g c = record {
  refusal = tt;
  full = full_of c.make_room-has_room.new.engine (c.if-not-has_room.ensures.full refl) c.in-Ok.ensures.few;
  goes = c.make_room-has_room.ensures.goes;
  ended = c.make_room-has_room.ensures.ended;
}
