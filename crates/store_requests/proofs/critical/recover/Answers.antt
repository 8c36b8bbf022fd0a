use Rattle.std.proofs.Common.{rules, ◌∙◌, ℕ, List, refl, sym, subst}
use Rattle.std.specs.Arc.{arc_value}
use Rattle.sharing.specs.Registering.{planned}
use Rattle.cds_store.specs.Sound.{IsOpenOf}
use Rattle.store_requests.specs.Entering.{EntersRestored}
use Rattle.store_requests.proofs.RestoreCalls.{block_there}
use Rattle.store_requests.proofs.Entries.{enters_restored, restored_outcome}
use Rattle.store_requests.proofs.EntryCalls.{restored_call}
use Rattle.std.specs.Prelude.{[]}
use Rattle.store_requests.proofs.Moments.{read_leaves}
use Rattle.store_requests.specs.BankCalls.{restore_at}
use Rattle.store_requests.proofs.BankCalls.{asked_one, bank_calls_restore}
use Rattle.store_requests.proofs.critical.recover.Goals as goal
use Rattle.tbl_model.specs.State.{State}

pub returns : goal.returns
returns g c =
    let b = g.B.Bank in
    let old = c.args.tables.now in
    let new = c.restored.new.tables in
    let store = c.args.store.now in
    let left = c.restore_into.new.store in
    let slot = c.args.slot in
    let size = c.args.plan.size in
    let t = planned old c.args.app c.args.plan in
    let done = c.restored.result in
    let ended = c.in-Some.ended in
    let image = (arc_value c.restore_into.new.room).items in
    let r = c.in-Some.ensures.restores in
    let enters : EntersRestored old new t done ended image = subst (λ (image : List ℕ). EntersRestored old new t done ended image) c.from_shared-image.ensures c.restored.ensures.enters in record {
      registered = record {
        made = record {
          effect = λ tells s0 stands.
              let s : State = record s0 { tables = old } in
              let asked = asked_one b store.bank left.bank done.note.outcome (restore_at (b.now store.bank) store.slots slot)
              (bank_calls_restore b store.bank left.bank store.slots slot size done.note ended c.requires.open_block (r.bank_calls tells) (restored_outcome b store left s done old new t refl refl ended image enters)) in
              enters_restored b store left s done old new t refl refl slot tells stands (read_leaves b store left [] s.store r.moments (stands.shows tells)) asked refl _ image ended r enters
              (λ x there. c.restore_into.ensures.sized ∙ c.in_ok-room.ensures ∙ sym (subst (IsOpenOf size) (block_there store.slots s.store slot x stands.slots there) c.requires.open_block).1);
          call = restored_call b store left old new t done r.booted ended image enters r.counted r.steady.fault_count r.steady.stop_count;
        };
        one = search rules;
      };
    }
