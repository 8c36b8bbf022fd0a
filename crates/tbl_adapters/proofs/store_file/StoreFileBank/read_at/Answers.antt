use Rattle.std.proofs.Common.{◌≡◌, length, ap, subst, arith}
use Rattle.tbl_kinds.specs.Numbers.{piece}
use Rattle.tbl_adapters.specs.Files.{padded}
use Rattle.tbl_adapters.specs.StoreFile.{StoreFileParts}
use Rattle.tbl_adapters.proofs.Padding.{bank_read}
use Rattle.tbl_adapters.proofs.store_file.StoreFileBank.read_at.Goals as goal

pub returns-in-Ok-clause-read : goal.returns-in-Ok-clause-read
returns-in-Ok-clause-read g c = λ told.
    subst (λ (s : StoreFileParts _). c.read_all.new.into ≡ piece c.args.at (length c.args.into.now) (padded s.size (g.F.RandomAccess.content s.file))) c.self.view_is
    (bank_read c.args.at c.from.result (length c.args.into.now) c.self.inside.size (g.F.RandomAccess.content c.self.inside.file) c.read_all.new.into
    c.from.ensures (omega (arith, c.requires, ap (λ (s : StoreFileParts _). s.size) c.self.view_is)) c.read_all.auto.into (c.in-Ok.ensures.read told))
