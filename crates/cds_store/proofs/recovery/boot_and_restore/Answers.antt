use Rattle.std.proofs.Common.{List, ℕ, true, false, sym, ◌∙◌, subst, inr, refl}
use Rattle.std.specs.Option.{option_map}
use Rattle.std.proofs.lemmas.Result.{IfOk-weaker, IfErr-weaker}
use Rattle.tbl_kinds.specs.Blocks.{Store as Blocks}
use Rattle.tbl_outside.specs.BankCalls.{Asks}
use Rattle.tbl_outside.proofs.BankCalls.{asks_then, asks_no_more}
use Rattle.tbl_outside.proofs.Moments.{goes_on, leaves_among}
use Rattle.cds_layout.specs.Images.{store_of}
use Rattle.cds_layout.specs.Order.{boot_calls}
use Rattle.tbl_kinds.specs.declared.request.ResetKind.TheVariants.{Processor}
use Rattle.cds_store.specs.Recovery.{RecoverCounted, open_reads}
use Rattle.cds_store.specs.Moments.{ShowsIn}
use Rattle.cds_store.specs.StoreBlocks.{StandsFor}
use Rattle.cds_store.proofs.Recovered.{booted_alike, counted_cause, counted_on, of_processor, shown_recovers}
use Rattle.cds_store.proofs.recovery.boot_and_restore.Goals as goal

pub returns-in-Ok-clause-recovered : goal.returns-in-Ok-clause-recovered
returns-in-Ok-clause-recovered g c =
    let b = g.B.Bank in
    let first = c.args.store.now.bank in
    let mid = c.boot.new.self.bank in
    let then = c.restore_open.new.store.bank in
    let bytes = b.now first in
    let stands = λ (told : b.tells). subst (λ (l : Blocks). StandsFor b.tells b.now c.boot.new.self l) (booted_alike bytes c.in-Ok._found) (c.in-Ok.ensures.boots.ok told (store_of bytes) (inr (told, refl))) in
    let still = c.in-Ok.ensures.boots.counted in
    IfOk-weaker c.restore_open.result _ _
    (λ image restored. record {
      image = λ told blocks shows. shown_recovers bytes blocks c.args.kind c.args.name.now (option_map (λ v. v.items) image) shows (restored.image told (store_of bytes) (stands told));
      none = λ told. restored.none (store_of bytes) (stands told);
      still = (restored.still.0 ∙ still.0, restored.still.1 ∙ still.1);
      bank_calls = λ told.
          asks_then b.tells_calls b.calls first mid then true (boot_calls Processor bytes) (open_reads c.args.kind c.args.name.now (store_of bytes) (b.now then))
          (c.in-Ok.ensures.boots.bank_calls told)
          (subst (λ (l : List ℕ). Asks b.tells_calls b.calls mid then true (open_reads c.args.kind c.args.name.now (store_of bytes) l)) (sym (c.restore_open.ensures.bytes told)) (restored.bank_calls told (store_of bytes) (stands told)));
    })
    c.restore_open.ensures.restored

pub returns-in-Ok-clause-not_recovered : goal.returns-in-Ok-clause-not_recovered
returns-in-Ok-clause-not_recovered g c =
    let b = g.B.Bank in
    let first = c.args.store.now.bank in
    let mid = c.boot.new.self.bank in
    let then = c.restore_open.new.store.bank in
    let bytes = b.now first in
    let stands = λ (told : b.tells). subst (λ (l : Blocks). StandsFor b.tells b.now c.boot.new.self l) (booted_alike bytes c.in-Ok._found) (c.in-Ok.ensures.boots.ok told (store_of bytes) (inr (told, refl))) in
    IfErr-weaker c.restore_open.result _ _
    (λ cause broke. record {
      fault = counted_on b.faults b.stops first mid then cause c.in-Ok.ensures.boots.counted broke.fault;
      bank_calls = λ other told.
          asks_then b.tells_calls b.calls first mid then false (boot_calls Processor bytes) (open_reads c.args.kind c.args.name.now (store_of bytes) (b.now then))
          (c.in-Ok.ensures.boots.bank_calls told)
          (subst (λ (l : List ℕ). Asks b.tells_calls b.calls mid then false (open_reads c.args.kind c.args.name.now (store_of bytes) l)) (sym (c.restore_open.ensures.bytes told)) (broke.bank_calls other told (store_of bytes) (stands told)));
    })
    c.restore_open.ensures.not_restored

pub returns-in-Ok-clause-shows : goal.returns-in-Ok-clause-shows
returns-in-Ok-clause-shows g c =
    let b = g.B.Bank in
    let blocks = store_of (b.now c.args.store.now.bank) in
    let boots = c.boot.ensures.boots in
    let left = λ (told : b.tells). of_processor blocks (b.now c.boot.new.self.bank) (boots.left told blocks (inr (told, refl))) in
    record {
      left = λ told. subst (ShowsIn blocks) (sym (c.restore_open.ensures.bytes told)) (left told);
      moments = λ m.
          let told = g.met.B.Bank.tells_both m in
          goes_on (leaves_among (boots.moments m blocks (inr (told, refl))) (of_processor blocks)) (c.restore_open.ensures.moments m) (λ image is. subst (ShowsIn blocks) (sym is) (left told));
    }

pub returns-in-Err-clause-shows : goal.returns-in-Err-clause-shows
returns-in-Err-clause-shows g c =
    let b = g.B.Bank in
    let blocks = store_of (b.now c.args.store.now.bank) in
    let boots = c.boot.ensures.boots in
    record {
      left = λ told. of_processor blocks (b.now c.boot.new.self.bank) (boots.left told blocks (inr (told, refl)));
      moments = λ m. leaves_among (boots.moments m blocks (inr (g.met.B.Bank.tells_both m, refl))) (of_processor blocks);
    }

pub returns-in-Err-clause-not_recovered : goal.returns-in-Err-clause-not_recovered
returns-in-Err-clause-not_recovered g c =
    let b = g.B.Bank in
    let mid = c.boot.new.self.bank in
    let bytes = b.now c.args.store.now.bank in
    record {
      fault = subst (RecoverCounted b.faults b.stops c.args.store.now.bank mid) (sym c.cause_of.ensures) (counted_cause b.faults b.stops c.args.store.now.bank mid c.in-Err.fault c.in-Err.ensures.boots.counted);
      bank_calls = λ other told. asks_no_more b.tells_calls b.calls c.args.store.now.bank mid (boot_calls Processor bytes) (open_reads c.args.kind c.args.name.now (store_of bytes) (b.now mid)) (c.in-Err.ensures.boots.bank_calls told);
    }
