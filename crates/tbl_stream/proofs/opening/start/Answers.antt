use Rattle.tbl_core.specs.Service.{FollowsFrom, core_of}
use Rattle.tbl_core.proofs.Functions.{seldom_asked}
use Rattle.tbl_core.proofs.Vouching.{vouch_first}
use Rattle.std.proofs.Common.{◌∙◌, refl, [], rules}
use Rattle.tbl_session.specs.Session.{given_of, state_from}
use Rattle.tbl_history.proofs.Laws.{Laws}
use Rattle.tbl_history.proofs.TroubleLemmas.{caused_at_first}
use Rattle.tbl_history.proofs.Openings.{first_opening}
use Rattle.tbl_history.proofs.CrashLemmas.{survives_at_first}
use Rattle.tbl_core.proofs.Starting.{stays_shown}
use Rattle.tbl_stream.proofs.opening.start.Goals as goal

pub start-requires-clause-asked : goal.start-requires-clause-asked
start-requires-clause-asked g c = rw c.in-Ok.ensures (seldom_asked g.C.Validator.asked 4611686018427387904 c.args.service.kit.items c.requires.asked)

pub returns-clause-ok : goal.returns-clause-ok
returns-clause-ok g c =
    let b = g.B.Bank in
    let kit = c.args.service.kit.items in
    let started = c.in_ok-start.ensures in
    let core = core_of [] c.in_ok-start.field-0 in
    let laws : Laws b = record { tells_both = g.met.B.Bank.tells_both; leaves_now = g.met.B.Bank.leaves_now; leaves_only_now = g.met.B.Bank.leaves_only_now; counts_now = g.met.B.Bank.counts_now } in
    let stands : FollowsFrom b (state_from (b.now c.args.service.bank) kit c.args.admit) core = rw (← c.in-Ok.ensures) started.stands in
    record {
      live = search rules;
      after = search rules;
      serves = record {
        first = first_opening (b.now c.args.service.bank) kit c.args.admit;
        vouches = vouch_first g.C.Validator.verdict b (given_of kit) (state_from (b.now c.args.service.bank) kit c.args.admit) core refl (started.kit ∙ c.in-Ok.ensures) stands;
        survives = survives_at_first b laws (state_from (b.now c.args.service.bank) kit c.args.admit) c.args.service.bank core refl started.live stands started.crash;
        caused = caused_at_first b c.args.service.bank core refl started.counts;
      };
      counts = search rules;
      crash = search rules;
    }

-- out of memory before the service began, nothing was asked of the bank
pub returns-in_default-clause-err : goal.returns-in_default-clause-err
returns-in_default-clause-err g c =
    let b = g.B.Bank in
    record {
      crash = stays_shown b g.met.B.Bank.leaves_only_now g.met.B.Bank.only_now c.args.service.bank;
      counted = search rules;
      room = search rules;
    }
