use Rattle.std.proofs.Common.{sym, ◌∙◌}
use Rattle.tbl_history.proofs.Laws.{Laws}
use Rattle.tbl_crew.proofs.LendingLemmas.{pins_last}
use Rattle.tbl_crew.proofs.TakingLemmas.{turn_fits, turned, turned_goes_on, broken, broken_goes_on}
use Rattle.tbl_crew.proofs.TurnLemmas.{was_none}
use Rattle.tbl_crew.proofs.held.turn_fields.Goals as goal

pub step-requires-clause-fits : goal.step-requires-clause-fits
step-requires-clause-fits g c =
    rw c.actor_of.ensures
    (turn_fits g.B.Bank c.args.core.now c.args.core.now c.args.fault.now c.args.left.now c.next.new.self c.args.actor c.in-Some.request c.requires.goes_on c.requires.actor c.in-Some.ensures.0 c.in-Some.ensures.1)

pub played-requires : goal.played-requires
played-requires g c = record { pins = pins_last c.args.core.now c.step.new.self c.in-Ok.ensures.stepped.0 c.in-Ok.ensures.stepped.1.adds.added c.in-Ok.ensures.pins }

pub returns-in-Ok-clause-turn : goal.returns-in-Ok-clause-turn
returns-in-Ok-clause-turn g c =
    let laws : Laws g.B.Bank = record { tells_both = g.met.B.Bank.tells_both; leaves_now = g.met.B.Bank.leaves_now; leaves_only_now = g.met.B.Bank.leaves_only_now; counts_now = g.met.B.Bank.counts_now } in
    let went = was_none c.args.fault.now (sym c.is_some.ensures ∙ c.if-is_some.false) in
    turned g.B.Bank c.args.core.now c.step.new.self c.args.fault.now c.args.left.now c.next.new.self c.args.actor c.in-Some.request c.requires.goes_on c.requires.actor c.in-Some.ensures.0 c.in-Some.ensures.1
    laws g.C.Validator went (rw (← c.actor_of.ensures) c.in-Ok.ensures.stepped) c.played.result c.in-Ok.ensures.pins c.played.ensures

pub returns-in-Ok-clause-goes_on : goal.returns-in-Ok-clause-goes_on
returns-in-Ok-clause-goes_on g c =
    let laws : Laws g.B.Bank = record { tells_both = g.met.B.Bank.tells_both; leaves_now = g.met.B.Bank.leaves_now; leaves_only_now = g.met.B.Bank.leaves_only_now; counts_now = g.met.B.Bank.counts_now } in
    let went = was_none c.args.fault.now (sym c.is_some.ensures ∙ c.if-is_some.false) in
    turned_goes_on g.B.Bank c.args.core.now c.step.new.self c.args.fault.now c.args.left.now c.next.new.self c.args.actor c.in-Some.request c.requires.goes_on c.requires.actor c.in-Some.ensures.0 c.in-Some.ensures.1
    laws g.C.Validator went (rw (← c.actor_of.ensures) c.in-Ok.ensures.stepped) c.in-Ok.ensures.live

pub returns-in-Err-clause-turn : goal.returns-in-Err-clause-turn
returns-in-Err-clause-turn g c =
    let laws : Laws g.B.Bank = record { tells_both = g.met.B.Bank.tells_both; leaves_now = g.met.B.Bank.leaves_now; leaves_only_now = g.met.B.Bank.leaves_only_now; counts_now = g.met.B.Bank.counts_now } in
    let went = was_none c.args.fault.now (sym c.is_some.ensures ∙ c.if-is_some.false) in
    broken g.B.Bank c.args.core.now c.step.new.self c.args.fault.now c.args.left.now c.next.new.self c.args.actor c.in-Some.request c.requires.goes_on c.requires.actor c.in-Some.ensures.0 c.in-Some.ensures.1
    laws g.C.Validator went c.in-Err.cause (rw (← c.actor_of.ensures) c.in-Err.ensures.stepped) c.in-Err.ensures.err c.in-Err.ensures.pins

pub returns-in-Err-clause-goes_on : goal.returns-in-Err-clause-goes_on
returns-in-Err-clause-goes_on g c =
    let laws : Laws g.B.Bank = record { tells_both = g.met.B.Bank.tells_both; leaves_now = g.met.B.Bank.leaves_now; leaves_only_now = g.met.B.Bank.leaves_only_now; counts_now = g.met.B.Bank.counts_now } in
    let went = was_none c.args.fault.now (sym c.is_some.ensures ∙ c.if-is_some.false) in
    broken_goes_on g.B.Bank c.args.core.now c.step.new.self c.args.fault.now c.args.left.now c.next.new.self c.args.actor c.in-Some.request c.requires.goes_on c.requires.actor c.in-Some.ensures.0 c.in-Some.ensures.1
    laws g.C.Validator went c.in-Err.cause (rw (← c.actor_of.ensures) c.in-Err.ensures.stepped) c.in-Err.ensures.err
