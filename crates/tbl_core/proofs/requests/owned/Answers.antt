use Rattle.std.proofs.Common.{arith, refl}
use Rattle.tbl_core.proofs.Served.{owned_so}
use Rattle.tbl_core.proofs.requests.owned.Goals as goal

pub returns-in-LoadImage-clause-served : goal.returns-in-LoadImage-clause-served
returns-in-LoadImage-clause-served g c = rw c.in-LoadImage.is (owned_so g.C.Validator c.args.desk.now _ _ c.args.row _ _ 2 c.load_image.result (omega arith) (λ s given t. refl) c.load_image.ensures.served)

pub returns-in-LoadFile-clause-served : goal.returns-in-LoadFile-clause-served
returns-in-LoadFile-clause-served g c = rw (c.in-LoadFile.is, ← c.name.ensures) (owned_so g.C.Validator c.args.desk.now _ _ c.args.row _ _ 2 c.load_file.result (omega arith) (λ s given t. refl) c.load_file.ensures.served)

pub returns-in-Update-clause-served : goal.returns-in-Update-clause-served
returns-in-Update-clause-served g c = rw c.in-Update.is (owned_so g.C.Validator c.args.desk.now _ _ c.args.row _ _ 1 c.update.result (omega arith) (λ s given t. refl) c.update.ensures.served)

pub returns-in-Manage-clause-served : goal.returns-in-Manage-clause-served
returns-in-Manage-clause-served g c = rw c.in-Manage.is (owned_so g.C.Validator c.args.desk.now _ _ c.args.row _ _ 3 c.manage.result (omega arith) (λ s given t. refl) c.manage.ensures.served)
