use Rattle.std.proofs.Common.{None, Err, refl, sym, subst}
use Rattle.std.specs.Prelude.{IfSome}
use Rattle.tbl_live.specs.Answers.{Answered}
use Rattle.tbl_live.specs.Cores.{asked, IsTaken}
use Rattle.tbl_live.specs.ServedView.{ServedView, IsServed, served_view}
use Rattle.tbl_live.proofs.StepLemmas.{lives, refused_answer, some_entry, served_on, played_answer}
use Rattle.tbl_live.proofs.served.answer_fields.Goals as goal

pub returns-in-Some : goal.returns-in-Some
returns-in-Some g c =
    let bound = g.K.ServiceCore.bound in
    let same = c.refusal.ensures.same in
    let call = asked c.args.actor c.args.request c.args.taken in
    let old : ServedView g.row.B.Denot g.row.C.Denot = served_view (g.K.ServiceCore.core c.refusal.new.core) c.args.fault.now c.args.base in
    let served : IsServed bound.limit old = subst (λ core. IsServed bound.limit (served_view core c.args.fault.now c.args.base)) (sym same) c.requires.served in
    record {
      served = served;
      answered = subst (λ core. Answered g.B.Bank g.C.Validator.verdict bound call (served_view core c.args.fault.now c.args.base, c.args.out.now) (old, c.args.out.now) (Err c.in-Some.cause, None)) same
          (refused_answer g.B.Bank g.C.Validator.verdict bound old old served call c.args.out.now c.in-Some.cause c.in-Some.ensures.refusal);
    }

pub play-done-requires : goal.play-done-requires
play-done-requires g c =
    let same = c.refusal.ensures.same in
    let old : ServedView g.row.B.Denot g.row.C.Denot = served_view (g.K.ServiceCore.core c.refusal.new.core) c.args.fault.now c.args.base in
    let served : IsServed g.K.ServiceCore.bound.limit old = subst (λ core. IsServed g.K.ServiceCore.bound.limit (served_view core c.args.fault.now c.args.base)) (sym same) c.requires.served in
    record {
      fits = c.requires.call.fits;
      live = lives g.K.ServiceCore.bound.limit old served c.in_default.ensures.refusal.0.went;
      room = c.in_default.ensures.refusal.1;
      taken = subst (λ core. IfSome c.args.taken (IsTaken c.args.request core)) (sym same) c.requires.call.taken;
    }

pub outcome-requires-clause-some : goal.outcome-requires-clause-some
outcome-requires-clause-some g c =
    some_entry g.B.Bank (g.K.ServiceCore.core c.refusal.new.core) (g.K.ServiceCore.core c.play-done.new.self) c.args.actor c.args.request c.play-done.result c.play-done.ensures.adds

pub returns : goal.returns
returns g c =
    let bound = g.K.ServiceCore.bound in
    let same = c.refusal.ensures.same in
    let call = asked c.args.actor c.args.request c.args.taken in
    let old : ServedView g.row.B.Denot g.row.C.Denot = served_view (g.K.ServiceCore.core c.refusal.new.core) c.args.fault.now c.args.base in
    let new : ServedView g.row.B.Denot g.row.C.Denot = served_view (g.K.ServiceCore.core c.play-done.new.self) c.kept.result c.args.base in
    let served : IsServed bound.limit old = subst (λ core. IsServed bound.limit (served_view core c.args.fault.now c.args.base)) (sym same) c.requires.served in
    let may = c.in_default.ensures.refusal.0 in
    let plays = c.play-done.ensures in
    record {
      served = served_on g.B.Bank g.C.Validator.verdict bound old new served may refl c.args.actor c.args.request c.play-done.result c.kept.ensures plays.adds plays.live plays.err;
      answered = subst (λ core. Answered g.B.Bank g.C.Validator.verdict bound call (served_view core c.args.fault.now c.args.base, c.args.out.now) (new, c.outcome.new.out) c.outcome.result) same
          (played_answer g.B.Bank g.C.Validator.verdict bound old new served may refl call c.play-done.result c.args.out.now c.outcome.new.out c.outcome.result c.requires.call.fits c.kept.ensures plays c.outcome.ensures);
    }
