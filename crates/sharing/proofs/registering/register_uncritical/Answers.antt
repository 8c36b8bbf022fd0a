use Rattle.std.proofs.Common.{◌≡◌, sym, Some}
use Rattle.tbl_kinds.specs.Free.{least_free}
use Rattle.tbl_laws.proofs.Ordinary.{free_place}
use Rattle.sharing.specs.Registering.{planned}
use Rattle.sharing.proofs.Uncritical.{uncritical_added}
use Rattle.sharing.proofs.registering.register_uncritical.Goals as goal

pub returns : goal.returns
returns c =
    let free : least_free c.args.tables.now.rows ≡ Some c.in-Some.row = sym c.in-Some.ensures in
    let within = (free_place c.args.tables.now.rows c.in-Some.row free).0 in record {
      answer = c.register-answer.ensures.answer;
      tables = rw (c.not_critical.ensures, c.register-answer.ensures.tables, c.requires.begins, free)
          (uncritical_added c.in-Some.row (planned c.args.tables.now c.args.app c.args.plan) c.args.tables.now within);
    }
