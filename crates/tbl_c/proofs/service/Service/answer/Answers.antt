use Rattle.std.proofs.Common.{List, refl, inl, subst}
use Rattle.tbl_model.specs.Telemetry.{Question}
use Rattle.desk.specs.Questions.{all_asked}
use Rattle.validation.specs.Asked.{GivesEach}
use Rattle.handed_kit.specs.Answering.{answer_of}
use Rattle.tbl_fakes.specs.contracts.breaking_bank.BreakingBankBank.TheImpl.{ghosts}
use Rattle.tbl_core.specs.Asking.{StandsOn}
use Rattle.tbl_c.specs.Serving.{Serving}
use Rattle.tbl_c.proofs.Stepping.{on_on, asked_before, will_have_said}
use Rattle.tbl_c.proofs.service.Service.answer.Goals as goal

pub returns-in-Ok-play : goal.returns-in-Ok-play
returns-in-Ok-play c =
    let old = c.self.inside.engine in
    let mid = c.make_room.new.self in
    let handed = c.hand_in.new.engine in
    let questions = all_asked c.in-Ok.questions in
    let asks = asked_before ghosts old mid c.args.actor c.args.request questions c.make_room.ensures.on c.in-Ok.ensures.asks in
    let on = on_on ghosts old mid handed c.make_room.ensures.on (subst (λ (s : Serving). StandsOn ghosts s handed) c.asks.ensures.same c.hand_in.ensures.on) in
    let played = c.in-Ok-play.ensures.played in
    rw (← c.self.view_is) (inl (record {
      questions = questions;
      asks = asks;
      enough = c.in_default-open_question.ensures.none refl;
      handed = handed;
      on = on;
      played = played;
      said = λ may told opening past stands.
          let judged = (played.steps.stepped past).judged told opening (on.stands opening past stands) in
          let same = asks.owners may told opening past stands played.entry (played.steps.stepped past).adds.actor_is (played.steps.stepped past).adds.request_is in
          will_have_said handed.state.kit questions c.args.verdicts.now played.entry.given.verdicts c.hand_in.ensures.will
          (subst (λ (qs : List Question). GivesEach answer_of handed.state.kit qs played.entry.given.verdicts) same judged.gives);
    }))
