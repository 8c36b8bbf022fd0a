use Rattle.std.proofs.Common.{◌≡◌, ◌∙◌, [], Some, None, length, ap, refl, arith}
use Rattle.tbl_model.specs.Tables.{table_at}
use Rattle.tbl_model.specs.Refusals.{load_refusal}
use Rattle.tbl_model.specs.GroundLoads.{load_into, load_file_effect, load_effect}
use Rattle.table_files.specs.Files.{with_image}
use Rattle.validation.proofs.Ready.{some_is}
use Rattle.desk.specs.Desk.{state_at}
use Rattle.load_requests.proofs.Commanded.{load_by}
use Rattle.desk.proofs.Quiet.{quietly, refused_at_once}
use Rattle.load_requests.proofs.ground_loads.load.Goals as goal

pub returns-in-Err : goal.returns-in-Err
unfolding load_effect
returns-in-Err g c = record {
  served = refused_at_once c.requires.empty (omega arith)
      (λ rest given. let s = state_at rest c.args.desk.now in ap Some (c.in-Err.ensures.err s (load_file_effect s c.args.file.now) refl refl));
}

pub returns-in_default : goal.returns-in_default
unfolding load_effect load_file_effect
returns-in_default g c =
    let file = with_image c.in-Ok.read.0 c.in-Ok.read.1.now in
    record {
      served = refused_at_once c.requires.empty (omega arith)
          (λ rest given. let s = state_at rest c.args.desk.now in rw (c.plain.ensures.status, c.plain.ensures.detail)
          (ap Some (c.in-Ok.ensures.ok s (load_file_effect s c.args.file.now) refl refl ∙ c.in_default.ensures.missing s (load_into s c.args.file.now file) refl)));
    }

pub returns-in-Some-load_refusal : goal.returns-in-Some-load_refusal
returns-in-Some-load_refusal g c =
    let t = some_is (table_at c.args.desk.now.tables c.in-Some.table.row) c.in-Some.ensures.table in
    let file = with_image c.in-Ok.read.0 c.in-Ok.read.1.now in
    let why : Some c.in-Some-load_refusal.answer ≡ load_refusal c.args.desk.now.tables c.in-Some.table.row t.0 file.offset (length file.image) = rw c.in-Ok.ensures.count (c.in-Some-load_refusal.ensures t.0 t.1) in
    record {
      served = quietly c.put_users.new.bytes.list (Some c.in-Some.table)
          (λ rest given. let s = state_at rest c.args.desk.now in rw c.put_users.ensures.bytes
          (ap Some (load_by s c.in-Some.table t.0 t.1 c.args.file.now file (λ effect. c.in-Ok.ensures.ok s effect refl refl) (λ effect. c.in-Some.ensures.found s effect refl) (Some c.in-Some-load_refusal.answer) why)))
          refl refl (rw (c.name_table.ensures, c.requires.empty.report) refl) c.put_users.ensures.len c.requires.empty.packets c.requires.empty.event;
    }

pub returns : goal.returns
returns g c =
    let t = some_is (table_at c.args.desk.now.tables c.in-Some.table.row) c.in-Some.ensures.table in
    let file = with_image c.in-Ok.read.0 c.in-Ok.read.1.now in
    let why : None ≡ load_refusal c.args.desk.now.tables c.in-Some.table.row t.0 file.offset (length file.image) = rw c.in-Ok.ensures.count (c.in_default-load_refusal.ensures t.0 t.1) in
    record {
      served = quietly [] (Some c.in-Some.table)
          (λ rest given. let s = state_at rest c.args.desk.now in rw (c.set_file.ensures, c.in_ok-fill.ensures.ok)
          (ap Some (load_by s c.in-Some.table t.0 t.1 c.args.file.now file (λ effect. c.in-Ok.ensures.ok s effect refl refl) (λ effect. c.in-Some.ensures.found s effect refl) None why)))
          refl (c.in_ok-reserve.ensures.bytes ∙ c.requires.empty.bytes) (rw (c.name_table-2.ensures, c.requires.empty.report) refl) (omega arith) c.requires.empty.packets c.requires.empty.event;
    }
