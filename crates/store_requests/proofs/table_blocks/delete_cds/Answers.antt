use Rattle.std.proofs.Common.{◌≡◌, ◌∙◌, [], Option, sym, ap, subst, is_some, refl}
use Rattle.tbl_kinds.specs.declared.block.BlockKind.TheVariants.{Table}
use Rattle.tbl_model.specs.State.{State, first_state}
use Rattle.tbl_kinds.specs.Admitted.{all_admitted}
use Rattle.tbl_kinds.specs.declared.note.BankNote.{BankNote}
use Rattle.tbl_model.specs.TableSteps.{find}
use Rattle.tbl_model.specs.Effects.{named}
use Rattle.tbl_model.specs.AppBlocks.{any_of, delete_table_block, delete_cds_effect}
use Rattle.tbl_model.specs.declared.telemetry.Named.{Named}
use Rattle.request_effects.specs.Effects.{Effect}
use Rattle.request_effects.specs.Reports.{Reported, nothing_reported}
use Rattle.store_requests.specs.BankCalls.{asks_delete_named}
use Rattle.store_requests.specs.Called.{IsCall, Calls}
use Rattle.store_requests.specs.Requests.{alone, at_desk}
use Rattle.store_requests.proofs.Calls.{calls_about, silent_beside}
use Rattle.store_requests.proofs.OwnBlocks.{subject_is, some_named}
use Rattle.store_requests.proofs.Promised.{of_served, kept_served}
use Rattle.store_requests.proofs.table_blocks.delete_cds.Goals as goal

pub returns : goal.returns
unfolding delete_cds_effect
returns g c =
    let b = g.B.Bank in
    let desk = c.args.desk.now in
    let name = c.args.name.now in
    let old = c.args.store.now in
    let new = c.delete_table_block.new.store in
    let report = c.tell_table-is_registered.new.report in
    let reported = c.tell_table-is_registered.ensures.report in
    let table = c.subject.result in
    let row = find name desk.tables in
    let to = (at_desk desk old).state in
    let at : named name row ≡ table = subject_is (record (first_state [] [] all_admitted) { tables = desk.tables }) desk.tables name table refl c.subject.ensures.found c.subject.ensures.missing in
    let registered : is_some row ≡ c.tell_table-is_registered.result = sym (some_named name row) ∙ ap is_some at ∙ sym c.tell_table-is_registered.ensures.is in
    let means = λ (s : State) (n : BankNote). delete_table_block s n (any_of Table name s.store) row in
    let r = c.delete_table_block.result in
    let served = c.delete_table_block.ensures.served row registered in record {
      made = of_served b (alone old) (alone new) means (asks_delete_named name) r _ (λ done it. record {
        effect = λ tells s stands. subst (λ (e : Effect). Calls b old new (to s) e (delete_cds_effect (to s) name)) (silent_beside done report table it.silent reported)
            (calls_about b old new (to s) done table (named name row) (means (to s)) at (it.made.effect tells (to s) stands));
        call = subst (λ (e : Effect). IsCall b old new e) (silent_beside done report table it.silent reported) (let call = it.made.call in
            record { within = record { events = call.within.events; notice = call.within.notice; bytes = call.within.bytes }; verdicts = call.verdicts; no_boot = call.no_boot; stopped = call.stopped; cause = call.cause; trouble = call.trouble; booted = call.booted });
      }) served;
      bank_calls = of_served b (alone old) (alone new) means (asks_delete_named name) r _ (λ done it. it.bank_calls) served;
      report = of_served b (alone old) (alone new) means (asks_delete_named name) r _ (λ done it. reported ∙ ap (λ (t : Option Named). record nothing_reported { table = t }) (sym (ap (λ (r : Reported). r.table) reported))) served;
      err = kept_served b (alone old) (alone new) means (asks_delete_named name) r served;
    }
