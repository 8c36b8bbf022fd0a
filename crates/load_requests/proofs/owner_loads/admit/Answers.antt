use Rattle.std.proofs.Common.{[], ◌∷◌, Some, None, refl, option_copied, arith}
use Rattle.std.proofs.lemmas.List.{append-nil}
use Rattle.tbl_model.specs.Tables.{table_at}
use Rattle.tbl_model.specs.TableSteps.{put, set_time}
use Rattle.tbl_model.specs.Telemetry.{activated}
use Rattle.validation.proofs.Ready.{some_is}
use Rattle.load_requests.specs.Loads.{with_file, verdict_events}
use Rattle.load_requests.proofs.Admission.{admitted}
use Rattle.load_requests.proofs.owner_loads.admit.Goals as goal

pub returns-in-Some : goal.returns-in-Some
returns-in-Some g c =
    let t = some_is (table_at c.args.desk.now.tables c.args.row) c.requires.table in
    record {
      made = λ reply roomy. admitted g.C.Validator c.args.desk.now _ _ c.args.row t.0 c.args.image (option_copied c.args.file) c.judge-verdict.result t.1 (c.judge-verdict.ensures.judged t.0 t.1).told (c.judge-verdict.ensures.judged t.0 t.1).asked reply roomy
          c.in-Some.answer _ c.args.desk.now.tables None [] [] (λ rest. rw (← c.in-Some.ensures) refl) c.judge-verdict.ensures.same
          (rw (append-nil (verdict_events c.args.row c.judge-verdict.result)) c.tell_verdict.ensures) (omega arith);
    }

pub returns : goal.returns
returns g c =
    let t = some_is (table_at c.args.desk.now.tables c.args.row) c.requires.table in
    record {
      made = λ reply roomy. admitted g.C.Validator c.args.desk.now _ _ c.args.row t.0 c.args.image (option_copied c.args.file) c.judge-verdict.result t.1 (c.judge-verdict.ensures.judged t.0 t.1).told (c.judge-verdict.ensures.judged t.0 t.1).asked reply roomy
          c.plain.result _ (with_file c.args.row (option_copied c.args.file) (set_time c.args.row c.args.desk.now.clock.seconds c.args.desk.now.clock.sub (put c.args.row c.args.image c.args.desk.now.tables)))
          (Some (record { row = c.args.row; name = t.0.name })) (activated c.args.row t.0 ∷ []) (Some c.args.image ∷ [])
          (λ rest. rw (← c.in_default.ensures, c.plain.ensures.status, c.plain.ensures.detail) refl) (rw c.judge-verdict.ensures.same at c.activate.ensures)
          (rw (c.add_event.ensures, c.name_table.ensures, c.tell_verdict.ensures, c.activated-active.ensures t.0 t.1, c.named-table.ensures t.0 t.1) refl) (omega arith);
    }
