use Rattle.std.proofs.Common.{rules, ◌≡◌}
use Rattle.tbl_kinds.specs.Numbers.{piece}
use Rattle.cds_layout.specs.Images.{place_at, data_in}
use Rattle.cds_layout.proofs.Restored.{WasRead, whole, torn}
use Rattle.cds_layout.proofs.blocks.read_place.Goals as goal

pub returns-clause-tells : goal.returns-clause-tells
returns-clause-tells g c =
    let bytes = g.B.Bank.now c.args.bank.now in
    let b = c.args.block.now in
    let head_is : g.B.Bank.tells → c.read_at.new.into ≡ piece (place_at b c.args.place) 8 bytes = search rules in
    let data_is : g.B.Bank.tells → c.read_at-2.new.into ≡ data_in bytes b c.args.place = search rules in
    let read : g.B.Bank.tells → WasRead bytes b c.args.place c.read_at.new.into c.read_at-2.new.into = λ told. record { head_is = head_is told; data_is = data_is told } in
    record {
      whole = whole bytes b c.args.place c.read_at.new.into c.read_at-2.new.into read _ (search rules);
      torn = torn bytes b c.args.place c.read_at.new.into c.read_at-2.new.into read _ (search rules);
      why = search rules;
    }
