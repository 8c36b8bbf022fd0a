use Rattle.tbl_core.specs.Service.{FollowsFrom}
use Rattle.tbl_core.proofs.Functions.{seldom_asked}
use Rattle.tbl_core.proofs.Vouching.{vouch_first}
use Rattle.std.proofs.Common.{◌∙◌, refl, rules}
use Rattle.tbl_session.specs.Session.{given_of, state_from}
use Rattle.tbl_history.proofs.Laws.{Laws}
use Rattle.tbl_history.proofs.TroubleLemmas.{caused_at_first}
use Rattle.tbl_history.proofs.Openings.{first_opening}
use Rattle.tbl_history.proofs.CrashLemmas.{survives_at_first}
use Rattle.tbl_core.proofs.Starting.{stays_shown}
use Rattle.tbl_history.proofs.opening.start.Goals as goal

pub start-requires-clause-asked : goal.start-requires-clause-asked
start-requires-clause-asked g c = rw c.in-Ok.ensures (seldom_asked g.C.Validator.asked 4611686018427387904 c.args.kit.items c.requires.asked)

pub returns : goal.returns
returns g c =
    let b = g.B.Bank in
    let kit = c.args.kit.items in
    let started = c.in_ok-start.ensures in
    let laws : Laws b = record { tells_both = g.met.B.Bank.tells_both; leaves_now = g.met.B.Bank.leaves_now; leaves_only_now = g.met.B.Bank.leaves_only_now; counts_now = g.met.B.Bank.counts_now } in
    let stands : FollowsFrom b (state_from (b.now c.args.bank) kit c.args.admit) c.in_ok-start.field-0 = rw (← c.in-Ok.ensures) started.stands in
    record {
      empty = started.empty;
      live = started.live;
      serves = record {
        first = first_opening (b.now c.args.bank) kit c.args.admit;
        vouches = vouch_first g.C.Validator.verdict b (given_of kit) (state_from (b.now c.args.bank) kit c.args.admit) c.in_ok-start.field-0 started.empty (started.kit ∙ c.in-Ok.ensures) stands;
        survives = survives_at_first b laws (state_from (b.now c.args.bank) kit c.args.admit) c.args.bank c.in_ok-start.field-0 started.empty started.live stands started.crash;
        caused = caused_at_first b c.args.bank c.in_ok-start.field-0 started.empty started.counts;
      };
      counts = started.counts;
      crash = started.crash;
    }

-- out of memory before the service began, nothing was asked of the bank
pub returns-in_default : goal.returns-in_default
returns-in_default g c =
    let b = g.B.Bank in
    record {
      crash_err = stays_shown b g.met.B.Bank.leaves_only_now g.met.B.Bank.only_now c.args.bank;
      cause = search rules;
      asked_err = λ other. absurd (other refl);
      memory = λ _. refl;
      room_err = c.requires.room;
    }
