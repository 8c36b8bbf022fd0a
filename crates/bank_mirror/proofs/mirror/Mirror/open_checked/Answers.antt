use Rattle.std.proofs.Common.{◌≡◌, false, length}
use Rattle.std.proofs.lemmas.Result.{IfOk-weaker}
use Rattle.bank_mirror.specs.Pairs.{BothTell, is_stale}
use Rattle.bank_mirror.specs.Checks.{loses_store}
use Rattle.bank_mirror.specs.Openings.{Opens, CheckFails}
use Rattle.bank_mirror.proofs.Made.{is_mirror, made_ok, made_err, made_as_one}
use Rattle.bank_mirror.proofs.mirror.Mirror.open_checked.Goals as goal

pub made-requires : goal.made-requires
made-requires g c =
    let ends = c.open_checked-opened.ensures.ends in
    IfOk-weaker c.open_checked-opened.result _ _ (λ o opens. is_mirror g.A.Bank g.B.Bank c.make-banks.result c.open_checked-opened.new.self c.args.first c.args.second c.make-banks.ensures o ends.holds.goes_on opens.held opens.excuse) ends.opened

pub returns : goal.returns
returns g c =
    let a = g.A.Bank in
    let b = g.B.Bank in
    let made = c.open_checked-opened in
    record {
      opens = record {
        ends = made_as_one a b c.make-banks.result made.new.self c.args.first c.args.second c.make-banks.ensures made.result c.made.result c.made.ensures made.ensures.ends.holds;
        opened = made_ok a b c.make-banks.result made.new.self c.args.first c.args.second c.make-banks.ensures made.result c.made.result c.made.ensures
            (λ opening m. Opens a b (is_stale (length (a.now opening.0)) (b.now opening.1)) opening m.pair m.in_use m.mark_failed) made.ensures.ends.opened;
        keeps = made_ok a b c.make-banks.result made.new.self c.args.first c.args.second c.make-banks.ensures made.result c.made.result c.made.ensures
            (λ opening m. BothTell a b → loses_store c.args.live_mark.now (a.now opening.0) (b.now opening.1) ≡ false) made.ensures.keeps;
        failed = made_err a b c.make-banks.result made.new.self c.args.first c.args.second c.make-banks.ensures made.result c.made.result c.made.ensures (CheckFails a b c.args.live_mark.now) made.ensures.ends.failed;
      };
    }
