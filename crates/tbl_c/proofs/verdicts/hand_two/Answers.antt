use Rattle.std.proofs.Common.{rules, [], ◌∙◌, ap, subst, w32}
use Rattle.std.proofs.lemmas.Int.{to_z-of_z}
use Rattle.handed_kit.specs.Answering.{Spoken, one_verdict, two_verdicts}
use Rattle.desk.specs.Questions.{question_of}
use Rattle.validation.specs.Kits.{Hands}
use Rattle.tbl_c.proofs.Stepping.{will_say_two}
use Rattle.tbl_c.proofs.verdicts.hand_two.Goals as goal

pub returns : goal.returns
returns c =
    let v = to_z-of_z w32 c.args.verdict c.ranges.verdict in
    let w = to_z-of_z w32 c.args.other c.ranges.other in
    let old = c.args.engine.now.state.kit in
    let mid = c.hand.new.self.state.kit in
    let new = c.hand-2.new.self.state.kit in
    record {
      on = search rules;
      images = search rules;
      will = will_say_two (question_of c.args.first) (question_of c.args.second) c.args.verdict c.args.other [] old mid new
          (subst (λ (check : Spoken). Hands c.args.second.number check old mid) (c.one.ensures ∙ ap one_verdict w) c.hand.ensures.hands.kit)
          (subst (λ (check : Spoken). Hands c.args.first.number check mid new) (c.two.ensures ∙ (λ i. two_verdicts c.args.first.image.list (v i) (w i))) c.hand-2.ensures.hands.kit);
    }
