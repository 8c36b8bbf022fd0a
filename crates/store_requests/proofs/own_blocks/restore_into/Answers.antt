use Rattle.std.proofs.Common.{◌≡◌, length, ◌∙◌, ap, sym, subst, rules, []}
use Rattle.tbl_kinds.specs.declared.note.BankNote.{BankNote}
use Rattle.cds_layout.specs.Restores.{words}
use Rattle.cds_store.specs.Sound.{IsOpenOf}
use Rattle.store_requests.specs.BankCalls.{asks_restore, restore_at}
use Rattle.store_requests.proofs.BankCalls.{bank_calls_restore, read_outcome, ungiven_outcome, asked_one}
use Rattle.store_requests.proofs.RestoreCalls.{block_there, given_called, ungiven_called}
use Rattle.store_requests.proofs.EntryCalls.{ungiven_call, ungiven_silent}
use Rattle.store_requests.proofs.Moments.{read_leaves}
use Rattle.store_requests.proofs.own_blocks.restore_into.Goals as goal

pub returns-in-Ok : goal.returns-in-Ok
returns-in-Ok g c =
    let b = g.B.Bank in
    let old = c.args.store.now in
    let new = c.restore.new.self in
    let slot = c.args.slot in
    let image = c.restore.new.into in
    let call = c.restore.ensures.restores in
    let asked : asks_restore slot b old new c.given.result.note.outcome = λ told. bank_calls_restore b old.bank new.bank old.slots slot (length c.args.image.now) c.given.result.note c.restore.result c.requires.own (call.bank_calls told)
    (ap (λ (n : BankNote). n.outcome) c.given.ensures.noted.done ∙ sym (ap read_outcome c.in-Ok.is)) in record {
      served = record {
        made = record {
          effect = λ tells s stands. given_called b old new s c.given.result slot tells stands (read_leaves b old new [] s.store call.moments (stands.shows tells))
              (asked_one b old.bank new.bank c.given.result.note.outcome (restore_at (b.now old.bank) old.slots slot) (asked tells)) image (c.in-Ok.ensures.restores.image tells)
              (λ x there. let same : length image ≡ length c.args.image.now = search rules in same ∙ sym (subst (IsOpenOf (length c.args.image.now)) (block_there old.slots s.store slot x stands.slots there) c.requires.own).1)
              (c.in-Ok.ensures.restores.ok s.store stands) c.given.ensures;
          call = search rules;
        };
        silent = c.given.ensures.told.silent;
        bank_calls = asked;
      };
    }

pub returns-in-Err : goal.returns-in-Err
returns-in-Err g c =
    let b = g.B.Bank in
    let old = c.args.store.now in
    let new = c.restore.new.self in
    let slot = c.args.slot in
    let call = c.restore.ensures.restores in
    let kept = c.in-Err.ensures.restores in
    let told = c.not_given.ensures in
    let asked : asks_restore slot b old new c.not_given.result.note.outcome = λ told. bank_calls_restore b old.bank new.bank old.slots slot (length c.args.image.now) c.not_given.result.note c.restore.result c.requires.own (call.bank_calls told)
    (ungiven_outcome c.not_given.result (words c.in-Err.fault) c.not_given.ensures ∙ sym (ap read_outcome c.in-Err.is)) in record {
      served = record {
        made = record {
          effect = λ tells s stands. ungiven_called b old new s c.not_given.result slot tells stands (read_leaves b old new [] s.store call.moments (stands.shows tells))
              (asked_one b old.bank new.bank c.not_given.result.note.outcome (restore_at (b.now old.bank) old.slots slot) (asked tells)) c.in-Err.fault (kept.torn tells) kept.err told;
          call = ungiven_call b old new c.not_given.result c.in-Err.fault call.booted told kept.counted call.steady.fault_count call.steady.stop_count;
        };
        silent = ungiven_silent c.not_given.result (words c.in-Err.fault) told;
        bank_calls = asked;
      };
    }
