use Rattle.std.proofs.Common.{Some, None, sym, ap, refl, arith}
use Rattle.tbl_model.specs.Tables.{table_at, is_critical_in}
use Rattle.tbl_model.proofs.RefusalLaws.{may_take}
use Rattle.table_files.specs.Files.{with_image}
use Rattle.validation.proofs.Ready.{some_is}
use Rattle.desk.specs.Desk.{state_at}
use Rattle.desk.specs.Rooms.{copy_room}
use Rattle.desk.proofs.Serving.{serves_so}
use Rattle.load_requests.proofs.Uplinked.{looked_for, file_refused, file_admitted, file_taken}
use Rattle.desk.proofs.Quiet.{quietly, refused_at_once, one_event}
use Rattle.load_requests.proofs.owner_loads.load_file.Goals as goal

pub returns-in-Err : goal.returns-in-Err
returns-in-Err g c =
    let t = some_is (table_at c.args.desk.now.tables c.args.row) c.requires.table in
    record {
      served = refused_at_once c.requires.empty (one_event (is_critical_in (table_at c.args.desk.now.tables c.args.row)))
          (λ rest given. let s = state_at rest c.args.desk.now in
          rw t.1 (ap Some (looked_for s c.args.file.now given c.args.row t.0 (c.in_default.ensures t.0 t.1) _ (c.in-Err.ensures.err s _ refl refl))));
    }

pub returns-in-Some-file_refusal : goal.returns-in-Some-file_refusal
returns-in-Some-file_refusal g c =
    let t = some_is (table_at c.args.desk.now.tables c.args.row) c.requires.table in
    let copy = ap copy_room t.1 in
    let room = c.in_ok-take_room.ensures.room t.0 t.1 in
    record {
      served = quietly c.put_users.new.bytes.list None
          (λ rest given. let s = state_at rest c.args.desk.now in
          rw (t.1, c.put_users.ensures.bytes) (ap Some (file_refused s c.args.file.now given c.args.row t.0 (c.in_default.ensures t.0 t.1) (with_image c.in-Ok.read.0 c.in-Ok.read.1.now) (λ effect. c.in-Ok.ensures.ok s effect refl refl)
          c.in-Some-file_refusal.answer (c.in-Some-file_refusal.ensures c.in-Ok.read.1.now c.in-Ok.ensures.count t.0 t.1))))
          refl refl c.requires.empty.report c.put_users.ensures.len c.in_ok-take_room.ensures.packets (omega (arith, copy, room));
    }

pub patched-requires-clause-within : goal.patched-requires-clause-within
patched-requires-clause-within g c = λ t there.
    (file_taken c.args.desk.now.tables c.args.row t (with_image c.in-Ok.read.0 c.in-Ok.read.1.now) (sym (c.in_default-file_refusal.ensures c.in-Ok.read.1.now c.in-Ok.ensures.count t there))).within

pub admit-requires-clause-fits : goal.admit-requires-clause-fits
admit-requires-clause-fits g c = rw c.patched.ensures.same (λ t there.
    let is = file_taken c.args.desk.now.tables c.args.row t (with_image c.in-Ok.read.0 c.in-Ok.read.1.now) (sym (c.in_default-file_refusal.ensures c.in-Ok.read.1.now c.in-Ok.ensures.count t there)) in
    record { unlocked = is.unlocked; no_load = (may_take t (sym (c.in_default.ensures t there))).1; size = c.in_ok-image.ensures.size t there })

pub returns : goal.returns
returns g c =
    let t = some_is (table_at c.args.desk.now.tables c.args.row) c.requires.table in
    record {
      served = serves_so g.C.Validator c.args.row _ _ _ _ c.args.desk.now _ _ _ t.0 t.1
          (λ rest given. file_admitted (state_at rest c.args.desk.now) c.args.file.now given c.args.row t.0 (c.in_default.ensures t.0 t.1) (with_image c.in-Ok.read.0 c.in-Ok.read.1.now) (λ effect. c.in-Ok.ensures.ok _ effect refl refl)
          (c.in_default-file_refusal.ensures c.in-Ok.read.1.now c.in-Ok.ensures.count t.0 t.1) c.in_ok-image.image (c.in_ok-image.ensures.image t.0 t.1))
          ((rw c.patched.ensures.same at c.admit.ensures.made) _ c.in_ok-take_room.ensures);
    }
