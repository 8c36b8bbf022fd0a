use Rattle.std.proofs.Common.{length, ◌∙◌, ap, subst, sym, refl}
use Rattle.std.specs.Prelude.{IsErr}
use Rattle.std.proofs.lemmas.Result.{on_ok_weaker}
use Rattle.tbl_kinds.specs.Numbers.{piece}
use Rattle.bank_mirror.specs.declared.in_use.InUse.TheVariants.{Unread}
use Rattle.bank_mirror.specs.Kept.{LeavesInUse}
use Rattle.bank_mirror.proofs.GoodOne.{alone_again, unread_still}
use Rattle.bank_mirror.proofs.Calling.{same_bytes, keeps_twice}
use Rattle.bank_mirror.proofs.banks.Banks.read_unread.Goals as goal

pub returns-in-Ok : goal.returns-in-Ok
returns-in-Ok g c =
    let a = g.A.Bank in
    let b = g.B.Bank in
    let old = c.args.self.now in
    let reads = c.good_one.ensures in
    let after = c.read_alone.ensures in
    record {
      piece = record {
        read = on_ok_weaker c.read_alone.result (λ read told. read told ∙ ap (piece c.args.at (length c.args.into.now)) (same_bytes a b old c.good_one.new.self reads.keeps told)) after.piece.read;
        stops = (after.piece.stops.0 ∙ reads.stops.0, after.piece.stops.1 ∙ reads.stops.1);
        keeps = keeps_twice a b (λ told. (g.met.A.Bank.tells_both told.0, g.met.B.Bank.tells_both told.1)) old c.good_one.new.self c.read_alone.new.self reads.keeps after.piece.keeps;
      };
      in_use = subst (LeavesInUse a b Unread old c.read_alone.new.self (IsErr c.read_alone.result)) (sym c.in_use.ensures)
          (alone_again a b c.in-Ok.good old c.good_one.new.self c.read_alone.new.self c.good_one.result (IsErr c.read_alone.result) reads after.piece.keeps.goes_on after.in_use);
      stays = λ is. absurd (is refl);
    }

pub returns-in-Err : goal.returns-in-Err
returns-in-Err g c =
    let reads = c.in-Err.ensures in
    record {
      piece = record { read = tt; stops = reads.stops; keeps = reads.keeps };
      in_use = unread_still g.A.Bank g.B.Bank c.args.self.now c.good_one.new.self _ reads.keeps reads.failed reads.last;
      stays = λ is. absurd (is refl);
    }
