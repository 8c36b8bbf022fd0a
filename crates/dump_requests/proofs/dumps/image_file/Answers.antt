use Rattle.std.proofs.Common.{◌≡◌, sym, false, rules}
use Rattle.tbl_registry.specs.Views.{has_image}
use Rattle.tbl_model.specs.Dumps.{dump_file}
use Rattle.desk.specs.Desk.{state_at}
use Rattle.dump_requests.proofs.Asking.{is_there, not_there}
use Rattle.dump_requests.proofs.dumps.image_file.Goals as goal

pub returns-in_default-clause-comes_to : goal.returns-in_default-clause-comes_to
returns-in_default-clause-comes_to g c = λ rest name t there.
    let missing : has_image t c.args.active ≡ false = sym (c.in_default.ensures.there t there) in
    rw c.missing_status.ensures (not_there (state_at rest c.args.desk.now) name c.args.row t c.args.active missing)

pub returns-clause-comes_to : goal.returns-clause-comes_to
returns-clause-comes_to g c = λ rest name t there.
    let s = state_at rest c.args.desk.now in
    let bytes : c.write_image.new.out.list ≡ dump_file s t.name c.in-Some.image.now = search rules in
    rw (bytes, c.in-Some.ensures.image t there) (is_there s name c.args.row t c.args.active (sym (c.in-Some.ensures.there t there)))
