use Rattle.std.proofs.Common.{Some, ap, refl, rules}
use Rattle.store_requests.proofs.Both.{both}
use Rattle.validation.proofs.Ready.{some_is}
use Rattle.tbl_kinds.specs.declared.request.Request.TheVariants as ask
use Rattle.tbl_model.specs.Tables.{table_at}
use Rattle.tbl_model.specs.Effects.{Effect}
use Rattle.tbl_core.proofs.Owners.{owner_answered, owner_refused}
use Rattle.tbl_core.proofs.parts.Parts.owner_user.Goals as goal

pub returns-in-Err : goal.returns-in-Err
returns-in-Err g c = record {
  does =
      owner_refused g.C.Validator _ c.args.app c.args.handle c.args.request.now c.requires.owners c.in-Err.status c.plain.result c.plain.ensures.status c.plain.ensures.detail
      (λ s stood effect. c.in-Err.ensures.err s effect stood.tables stood.apps);
  err = tt;
}

pub returns-in-DumpToBuffer : goal.returns-in-DumpToBuffer
returns-in-DumpToBuffer g c = record {
  does =
      let row = c.in-Ok.row in
      let t = some_is (table_at c.args.self.now.desk.tables row) c.in-Ok.ensures.table in
      let owners = rw c.in-DumpToBuffer.is at c.requires.owners in
      rw (c.in-DumpToBuffer.is) (owner_answered g.C.Validator _ _ c.args.app c.args.handle row (ask.DumpToBuffer c.in-DumpToBuffer.handle) owners refl t.0 t.1
      (λ s stood effect. c.in-Ok.ensures.ok s effect stood.tables stood.apps) c.dump_to_buffer.result (λ s. record s { tables = c.dump_to_buffer.new.tables })
      (λ s stood. ap (λ (e : Effect). Some e) (c.dump_to_buffer.ensures s stood.tables t.0 t.1))
      (λ s stood. record { tables = refl; pending = stood.pending; store = refl; drawer = stood.drawer; apps = stood.apps; kit = stood.kit; admit = stood.admit; seconds = stood.seconds; sub = stood.sub; ended = stood.ended }) refl refl);
  err = tt;
}

pub returns-in-Edit : goal.returns-in-Edit
returns-in-Edit g c = record {
  does =
      let row = c.in-Ok.row in
      let t = some_is (table_at c.args.self.now.desk.tables row) c.in-Ok.ensures.table in
      let owners = rw c.in-Edit.is at c.requires.owners in
      rw (c.in-Edit.is) (both c.edit.result _ _ _ c.edit.ensures.effect c.edit.ensures.effect (λ answer done also. (owner_answered g.C.Validator _ _ c.args.app c.args.handle row (ask.Edit c.in-Edit.handle c.in-Edit.offset c.in-Edit.bytes) owners refl t.0 t.1
      (λ s stood effect. c.in-Ok.ensures.ok s effect stood.tables stood.apps) answer (λ s. record s { tables = c.edit.new.tables })
      (λ s stood. rw (← c.bytes.ensures) (ap (λ (e : Effect). Some e) (done s stood.tables t.0 t.1)))
      (λ s stood. record { tables = refl; pending = stood.pending; store = refl; drawer = stood.drawer; apps = stood.apps; kit = stood.kit; admit = stood.admit; seconds = stood.seconds; sub = stood.sub; ended = stood.ended }) refl refl)));
  err = search rules;
}

pub returns-in-Notify : goal.returns-in-Notify
returns-in-Notify g c = record {
  does =
      let row = c.in-Ok.row in
      let t = some_is (table_at c.args.self.now.desk.tables row) c.in-Ok.ensures.table in
      let owners = rw c.in-Notify.is at c.requires.owners in
      rw (c.in-Notify.is) (owner_answered g.C.Validator _ _ c.args.app c.args.handle row (ask.Notify c.in-Notify.handle c.in-Notify.msg c.in-Notify.code c.in-Notify.parameter) owners refl t.0 t.1
      (λ s stood effect. c.in-Ok.ensures.ok s effect stood.tables stood.apps) c.notify.result (λ s. record s { tables = c.notify.new.tables })
      (λ s stood. ap (λ (e : Effect). Some e) (c.notify.ensures s stood.tables))
      (λ s stood. record { tables = refl; pending = stood.pending; store = refl; drawer = stood.drawer; apps = stood.apps; kit = stood.kit; admit = stood.admit; seconds = stood.seconds; sub = stood.sub; ended = stood.ended }) refl refl);
  err = tt;
}
