use Rattle.std.proofs.Common.{true}
use Rattle.std.proofs.lemmas.Result.{IfOk-weaker}
use Rattle.bank_mirror.specs.declared.in_use.Alone.TheVariants.{Second}
use Rattle.bank_mirror.specs.Openings.{Opens, OpenCounted}
use Rattle.bank_mirror.proofs.Made.{is_mirror, made_ok, made_err, made_as_of}
use Rattle.bank_mirror.proofs.mirror.Mirror.take_second.Goals as goal

pub made-requires : goal.made-requires
made-requires g c =
    let ends = c.open_second-opened.ensures in
    IfOk-weaker c.open_second-opened.result _ _ (λ o opens. is_mirror g.A.Bank g.B.Bank c.make-banks.result c.open_second-opened.new.self c.args.first c.args.second c.make-banks.ensures o ends.takes.holds.goes_on opens.held opens.excuse) ends.opened

pub returns : goal.returns
returns g c =
    let a = g.A.Bank in
    let b = g.B.Bank in
    let made = c.open_second-opened in
    record {
      takes = record {
        ends = made_as_of a b c.make-banks.result made.new.self c.args.first c.args.second c.make-banks.ensures made.result c.made.result c.made.ensures Second made.ensures.takes;
        opened = made_ok a b c.make-banks.result made.new.self c.args.first c.args.second c.make-banks.ensures made.result c.made.result c.made.ensures (λ opening m. Opens a b true opening m.pair m.in_use m.mark_failed) made.ensures.opened;
        counted = made_err a b c.make-banks.result made.new.self c.args.first c.args.second c.make-banks.ensures made.result c.made.result c.made.ensures (OpenCounted a b) made.ensures.counted;
      };
    }
