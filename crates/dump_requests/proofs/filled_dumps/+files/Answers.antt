use Rattle.std.proofs.Common.{◌≡◌, ◌++◌, ◌∙◌, ap, length, Some, true, false, sym, rules}
use Rattle.tbl_model.specs.State.{Tables}
use Rattle.tbl_model.specs.Tables.{table_at}
use Rattle.tbl_kinds.specs.Drawer.{is_full_for}
use Rattle.dump_requests.specs.Images.{filled_name, filled_file}
use Rattle.dump_requests.proofs.Dumping.{is_written, is_dropped}
use Rattle.dump_requests.proofs.Filing.{files_after, filed_after, one_event}
use Rattle.dump_requests.proofs.filled_dumps.+files.Goals as goal

pub write_row-returns-in-Ok-write_all : goal.write_row-returns-in-Ok-write_all
write_row-returns-in-Ok-write_all g t c = files_after c.args.row c.args.further.now _ _ _ (record {
  effect = λ s tables seconds sub.
      let x = table_at c.args.desk.now.tables c.args.row in
      let one : c.write_filled.new.out.list ≡ filled_file s x = search rules in
      let two : c.write_filled-in-Ok.new.out.list ≡ c.args.out.now.list ++ filled_file s x = search rules in
      let of_len : length (filled_file s x) ≡ c.in-Some.len = search rules in
      let name : filled_name x ≡ Some c.in-Some-write_filled.name = search rules in
      let room : is_full_for c.args.desk.now.drawer c.in-Some-write_filled.name ≡ false = search rules in
      is_written s (record { drawer = c.args.desk.now.drawer; bytes = c.args.out.now.list; events = c.args.report.now.events }) c.args.row c.in-Some.len c.in-Some-write_filled.name x (ap (λ (t : Tables). table_at t c.args.row) tables) name of_len room
      ∙ search rules;
  events = rw c.add_event-in-Ok.ensures (one_event _ _ _ (sym c.in-Some.ensures.filled));
  bytes = search rules;
  alone = search rules;
  drawer = search rules;
}) c.in-Ok-write_all.ensures

pub write_row-returns-in-Err-Full : goal.write_row-returns-in-Err-Full
write_row-returns-in-Err-Full g t c = filed_after c.args.row c.args.further.now _ _ _ c.write_all-in-Err-Full.result (search rules) (record {
  effect = λ s tables seconds sub.
      let x = table_at c.args.desk.now.tables c.args.row in
      let name : filled_name x ≡ Some c.in-Some-write_filled.name = search rules in
      let full : is_full_for c.args.desk.now.drawer c.in-Some-write_filled.name ≡ true = search rules in
      is_dropped s (record { drawer = c.args.desk.now.drawer; bytes = c.args.out.now.list; events = c.args.report.now.events }) c.args.row c.in-Some-write_filled.name x (ap (λ (t : Tables). table_at t c.args.row) tables) name full
      ∙ search rules;
  events = rw c.add_event.ensures (one_event _ _ _ (sym c.in-Some.ensures.filled));
  bytes = search rules;
  alone = search rules;
  drawer = search rules;
}) c.write_all-in-Err-Full.ensures
