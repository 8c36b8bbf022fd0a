use Rattle.std.proofs.Common.{length}
use Rattle.std.proofs.lemmas.Result.{IfOk-weaker}
use Rattle.bank_mirror.specs.Pairs.{is_stale}
use Rattle.bank_mirror.specs.Openings.{Opens, OpenFails}
use Rattle.bank_mirror.proofs.Made.{is_mirror, made_ok, made_err, made_as_one}
use Rattle.bank_mirror.proofs.mirror.Mirror.open.Goals as goal

pub made-requires : goal.made-requires
made-requires g c =
    IfOk-weaker c.open-opened.result _ _ (λ o opens. is_mirror g.A.Bank g.B.Bank c.make-banks.result c.open-opened.new.self c.args.first c.args.second c.make-banks.ensures o c.open-opened.ensures.holds.goes_on opens.held opens.excuse) c.open-opened.ensures.opened

pub returns : goal.returns
returns g c =
    let a = g.A.Bank in
    let b = g.B.Bank in
    let made = c.open-opened in
    record {
      opens = record {
        ends = made_as_one a b c.make-banks.result made.new.self c.args.first c.args.second c.make-banks.ensures made.result c.made.result c.made.ensures made.ensures.holds;
        opened = made_ok a b c.make-banks.result made.new.self c.args.first c.args.second c.make-banks.ensures made.result c.made.result c.made.ensures
            (λ opening m. Opens a b (is_stale (length (a.now opening.0)) (b.now opening.1)) opening m.pair m.in_use m.mark_failed) made.ensures.opened;
        failed = made_err a b c.make-banks.result made.new.self c.args.first c.args.second c.make-banks.ensures made.result c.made.result c.made.ensures (OpenFails a b) made.ensures.failed;
      };
    }
