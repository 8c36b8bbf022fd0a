use Rattle.std.proofs.Common.{◌≡◌, ◌∙◌, [], rules, sym, ap, subst, refl}
use Rattle.std.specs.List.{fold}
use Rattle.tbl_model.specs.Tables.{in_use}
use Rattle.tbl_model.specs.Dumps.{housekeeping_effect}
use Rattle.tbl_model.specs.declared.telemetry.Shown.TheVariants.{Housekeeping}
use Rattle.request_effects.specs.Effects.{told_effect}
use Rattle.request_effects.specs.Reports.{Reported, nothing_reported}
use Rattle.desk.specs.Desk.{state_at, output}
use Rattle.desk.specs.Requests.{Made, command}
use Rattle.desk.specs.Rows.{rows_in}
use Rattle.desk.specs.declared.desk.Desk.{Desk}
use Rattle.desk.proofs.Buffers.{rows_in_padded}
use Rattle.desk.proofs.Serving.{made_so}
use Rattle.dump_requests.specs.Housekeeping.{written, then_write, then_finish}
use Rattle.dump_requests.proofs.Dumping.{all_ended}
use Rattle.dump_requests.proofs.Unasked.{does_unasked}
use Rattle.dump_requests.proofs.filled_dumps.housekeeping.Goals as goal

pub returns : goal.returns
returns g c =
    let old = c.args.desk.now in
    let w = written c.write_all.new.desk.drawer c.write_all.new.out.list c.write_all.new.report.events in
    let new = record old { tables = c.end_all.new.tables; drawer = w.drawer } in
    let report = record nothing_reported { events = w.events; shown = Housekeeping } in
    let rows : rows_in c.in_use-places.result ≡ in_use old.tables = ap rows_in c.in_use-places.ensures.rows ∙ rows_in_padded (in_use old.tables) in
    let start : written old.drawer [] [] ≡ written old.drawer c.args.reply.now.bytes.list c.args.report.now.events =
    λ i. written old.drawer (sym c.requires.empty.bytes i) (sym c.requires.empty.report i).events in
    let tables : c.write_all.new.desk.tables ≡ old.tables = ap (λ (d : Desk g.row.C.Denot). d.tables) c.in_ok-write_all.ensures.drawer in
    let left : c.end_all.new.tables ≡ fold then_finish old.tables (in_use old.tables) = c.end_all.ensures ∙ (λ i. fold then_finish (tables i) (rows i)) in
    let out = output (record c.args.reply.now { bytes = c.write_all.new.out; packets = c.reserve.new.self }) c.show.new.self in
    record {
      served = subst (λ (d : Desk g.row.C.Denot). Made g.C.Validator (command housekeeping_effect 4) old d out c.plain.result)
          (sym (ap (λ (d : Desk g.row.C.Denot). record d { tables = c.end_all.new.tables }) c.in_ok-write_all.ensures.drawer))
          (made_so g.C.Validator (command housekeeping_effect 4) old new out c.plain.result w.bytes report refl
          (c.show.ensures ∙ ap (λ (r : Reported). record r { shown = Housekeeping }) (c.in_ok-write_all.ensures.alone ∙ ap (λ (r : Reported). record r { events = w.events }) c.requires.empty.report))
          (λ rest.
          let s = state_at rest old in
          let all = all_ended s w c.end_all.new.tables ((λ i. fold (then_write s) (start i) (sym rows i)) ∙ c.in_ok-write_all.ensures.effect s refl refl refl) left in
          does_unasked g.C.Validator rest old new (told_effect c.plain.result w.bytes report) (housekeeping_effect s) refl refl (rw all (search rules)))
          refl (search rules) (search rules));
    }
