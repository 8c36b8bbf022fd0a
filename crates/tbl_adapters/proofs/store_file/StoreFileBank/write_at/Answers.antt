use Rattle.std.proofs.Common.{◌≡◌, length, ap, sym, subst, arith}
use Rattle.tbl_kinds.specs.Numbers.{patched}
use Rattle.tbl_outside.specs.Bank.{Torn}
use Rattle.tbl_adapters.specs.Files.{padded}
use Rattle.tbl_adapters.specs.StoreFile.{StoreFileParts}
use Rattle.tbl_adapters.proofs.Padding.{bank_spoiled, bank_written, bank_torn}
use Rattle.tbl_adapters.proofs.store_file.StoreFileBank.write_at.Goals as goal

pub returns-in-Ok-clause-done : goal.returns-in-Ok-clause-done
returns-in-Ok-clause-done g c = λ is told.
    subst (λ (s : StoreFileParts _). padded c.self.inside.size (g.F.RandomAccess.content c.write_all.new.file) ≡ patched (padded s.size (g.F.RandomAccess.content s.file)) c.args.at c.args.bytes.now) c.self.view_is
    (bank_written c.args.at c.from.result c.self.inside.size (g.F.RandomAccess.content c.self.inside.file) (g.F.RandomAccess.content c.write_all.new.file) c.args.bytes.now
    c.from.ensures (omega (arith, c.requires, ap (λ (s : StoreFileParts _). s.size) c.self.view_is)) (c.in-Ok.ensures.written told))

pub returns-in-Ok-clause-torn : goal.returns-in-Ok-clause-torn
returns-in-Ok-clause-torn g c = λ told.
    subst (λ (s : StoreFileParts _). Torn c.args.at (length c.args.bytes.now) (padded s.size (g.F.RandomAccess.content s.file)) (padded c.self.inside.size (g.F.RandomAccess.content c.write_all.new.file))) c.self.view_is
    (bank_torn c.args.at c.from.result c.self.inside.size (g.F.RandomAccess.content c.self.inside.file) (g.F.RandomAccess.content c.write_all.new.file) c.args.bytes.now
    c.from.ensures (omega (arith, c.requires, ap (λ (s : StoreFileParts _). s.size) c.self.view_is)) (c.in-Ok.ensures.written told))

pub returns-in-Err-clause-torn : goal.returns-in-Err-clause-torn
returns-in-Err-clause-torn g c = λ told.
    subst (λ (s : StoreFileParts _). Torn c.args.at (length c.args.bytes.now) (padded c.args.self.now.size (g.F.RandomAccess.content c.args.self.now.file)) (padded s.size (g.F.RandomAccess.content s.file))) (sym c.fault.ensures.counted)
    (subst (λ (s : StoreFileParts _). Torn c.args.at (length c.args.bytes.now) (padded s.size (g.F.RandomAccess.content s.file)) (padded c.self.inside.size (g.F.RandomAccess.content c.write_all.new.file))) c.self.view_is
    (bank_spoiled c.args.at c.from.result (length c.args.bytes.now) c.self.inside.size (g.F.RandomAccess.content c.self.inside.file) (g.F.RandomAccess.content c.write_all.new.file)
    c.from.ensures (omega (arith, c.requires, ap (λ (s : StoreFileParts _). s.size) c.self.view_is)) (c.in-Err.ensures.failed told)))
