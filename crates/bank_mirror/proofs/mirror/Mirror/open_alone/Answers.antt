use Rattle.std.proofs.lemmas.Result.{IfOk-weaker}
use Rattle.bank_mirror.specs.Openings.{OpensAlone, AloneFails}
use Rattle.bank_mirror.proofs.Made.{is_mirror, made_ok, made_err, made_as_of}
use Rattle.bank_mirror.proofs.Opened.{alone_excuse}
use Rattle.bank_mirror.proofs.mirror.Mirror.open_alone.Goals as goal

pub made-requires : goal.made-requires
made-requires g c =
    let ends = c.leave_out-opened.ensures in
    IfOk-weaker c.leave_out-opened.result _ _ (λ o opens. is_mirror g.A.Bank g.B.Bank c.make-banks.result c.leave_out-opened.new.self c.args.first c.args.second c.make-banks.ensures o ends.takes.holds.goes_on opens.held
    (alone_excuse g.A.Bank g.B.Bank c.args.alone (c.make-banks.result.first, c.make-banks.result.second) c.leave_out-opened.new.self o.in_use o.mark_failed opens.out opens.mark)) ends.opened

pub returns : goal.returns
returns g c =
    let a = g.A.Bank in
    let b = g.B.Bank in
    let made = c.leave_out-opened in
    record {
      goes = record {
        ends = made_as_of a b c.make-banks.result made.new.self c.args.first c.args.second c.make-banks.ensures made.result c.made.result c.made.ensures c.args.alone made.ensures.takes;
        opened = made_ok a b c.make-banks.result made.new.self c.args.first c.args.second c.make-banks.ensures made.result c.made.result c.made.ensures (λ opening m. OpensAlone a b c.args.alone opening m.pair m.in_use m.mark_failed) made.ensures.opened;
        failed = made_err a b c.make-banks.result made.new.self c.args.first c.args.second c.make-banks.ensures made.result c.made.result c.made.ensures (AloneFails a b c.args.alone) made.ensures.failed;
      };
    }
