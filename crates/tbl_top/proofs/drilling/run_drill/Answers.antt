use Rattle.std.proofs.Common.{◌≡◌, List, ◌++◌, refl, sym, ap, ◌∙◌}
use Rattle.tbl_kinds.specs.Transcript.{pairs_of}
use Rattle.tbl_kinds.specs.declared.entry.Entry.{Entry}
use Rattle.tbl_core.proofs.Starting.{stays_shown}
use Rattle.tbl_core.specs.declared.service.StartFault.TheVariants.{Memory as NoMemory}
use Rattle.tbl_history.proofs.Laws.{Laws}
use Rattle.tbl_history.proofs.ServingLemmas.{serves_on}
use Rattle.tbl_stream.specs.Opening.{opening_by}
use Rattle.tbl_top.specs.Drilling.{unread}
use Rattle.tbl_top.proofs.DrillLemmas.{drilled, undrilled}
use Rattle.tbl_history.proofs.Openings.{first_opening}
use Rattle.tbl_top.proofs.drilling.run_drill.Goals as goal

-- out of memory before the service began, nothing was asked of the bank
pub returns-in_default-clause-drill : goal.returns-in_default-clause-drill
returns-in_default-clause-drill g c = λ left faults.
    let b = g.B.Bank in
    let service = c.args.service in
    let laws : Laws b = record { tells_both = g.met.B.Bank.tells_both; leaves_now = g.met.B.Bank.leaves_now; leaves_only_now = g.met.B.Bank.leaves_only_now; counts_now = g.met.B.Bank.counts_now } in
    undrilled c.args.seed c.args.rounds b laws g.C.Validator.verdict (opening_by b service c.args.admit) (first_opening (b.now service.bank) service.kit.items c.args.admit)
    (unread g.K.Sink left faults c.args.sink.now c.args.sink.now (1, c.args.service.bank))
    (stays_shown b g.met.B.Bank.leaves_only_now g.met.B.Bank.only_now c.args.service.bank) refl refl NoMemory (refl, refl) refl

pub returns-in-Err-clause-drill : goal.returns-in-Err-clause-drill
returns-in-Err-clause-drill g c = λ left faults.
    let b = g.B.Bank in
    let service = c.args.service in
    let laws : Laws b = record { tells_both = g.met.B.Bank.tells_both; leaves_now = g.met.B.Bank.leaves_now; leaves_only_now = g.met.B.Bank.leaves_only_now; counts_now = g.met.B.Bank.counts_now } in
    undrilled c.args.seed c.args.rounds b laws g.C.Validator.verdict (opening_by b service c.args.admit) (first_opening (b.now service.bank) service.kit.items c.args.admit)
    (unread g.K.Sink left faults c.args.sink.now c.args.sink.now (c.unbegun_status.result, c.in-Err.field-0.bank))
    c.in-Err.ensures.crash_err refl refl c.in-Err.field-0.cause c.in-Err.ensures.cause c.unbegun_status.ensures

pub returns-clause-drill : goal.returns-clause-drill
returns-clause-drill g c = λ left faults.
    let b = g.B.Bank in
    let o = opening_by b c.args.service c.args.admit in
    let core = c.play_script-standing.new.core in
    let played = c.play_script-standing.ensures in
    let told = c.tell_summary-status.ensures in
    let before : pairs_of c.in-Ok-start.core.entries ++ c.in-Ok.script ≡ c.in-Ok.script = ap (λ (entries : List Entry). pairs_of entries ++ c.in-Ok.script) c.in-Ok-start.ensures.empty in
    drilled c.args.seed c.args.rounds b g.C.Validator.verdict o core c.play_script-standing.result c.in-Ok.script played.plays.0
    (unread g.K.Sink left faults c.args.sink.now c.tell_summary-status.new.sink (c.tell_summary-status.result, c.end.result))
    c.end.ensures.bank (serves_on b g.C.Validator.verdict o c.in-Ok-start.core core played.continues c.in-Ok-start.ensures.serves)
    c.in-Ok.ensures.session (sym before ∙ played.plays.1) played.plays.2 played.boot told.told played.known told.played told.ended
