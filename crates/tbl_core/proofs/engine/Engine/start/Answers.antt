use Rattle.std.proofs.Common.{◌≡◌, Bool, true, false, Some, ap, refl, sym, subst, inr, arith, rules}
use Rattle.std.specs.Prelude.{is_ok}
use Rattle.tbl_kinds.specs.declared.request.ResetKind.TheVariants.{Processor}
use Rattle.validation.specs.Kits.{entry_at}
use Rattle.cds_layout.specs.Images.{store_of}
use Rattle.cds_store.specs.StoreBlocks.{StandsFor as HasBlocks}
use Rattle.cds_store.proofs.Recovered.{booted_alike}
use Rattle.tbl_core.specs.BankAsked.{BootAsks}
use Rattle.tbl_core.specs.Service.{parts_view, works_view, state_of, StartCounted}
use Rattle.tbl_laws.proofs.Ordinary.{fit_at_first}
use Rattle.tbl_core.proofs.Nothing.{none_counted}
use Rattle.tbl_core.proofs.Pinning.{no_images, no_handle}
use Rattle.tbl_core.proofs.Starting.{stands_first, start_counted, start_leaves, stays_shown}
use Rattle.tbl_core.proofs.engine.Engine.start.Goals as goal

pub invariant_of-result : goal.invariant_of-result
invariant_of-result g c = record {
  fit = fit_at_first c.in-Ok.works.images (state_of (parts_view (record c.in-Ok.works.parts { store = c.boot.new.self }))) c.in-Ok.ensures.tables c.in-Ok.ensures.pending;
  few = omega (arith, c.in-Ok.ensures.images);
  booted = search rules;
  kit = λ number entry there.
      let low = c.requires.asked number entry (subst (λ kit. entry_at kit number ≡ Some entry) c.in-Ok.ensures.functions there) in
      omega (arith, low);
  images = no_images c.in-Ok.works.parts.desk.tables c.in-Ok.ensures.tables;
  numbers = rw c.in-Ok.ensures.counts none_counted;
  places = c.in-Ok.ensures.places;
}

pub returns-in-Ok-boot : goal.returns-in-Ok-boot
returns-in-Ok-boot g c =
    let b = g.B.Bank in
    let new = c.in-Ok.ensures in
    let store = c.in-Ok.works.parts.store in
    let booted = c.boot.new.self in
    let bytes = b.now c.args.bank in
    record {
      stands = stands_first b c.args.bank c.args.kit c.args.admit (store_of bytes) (works_view c.in-Ok.works) booted new
          (λ told. subst (HasBlocks b.tells b.now booted) (ap (λ bank. store_of (b.now bank)) new.held)
          (subst (HasBlocks b.tells b.now booted) (booted_alike (b.now store.bank) c.in-Ok-boot._found) (c.in-Ok-boot.ensures.boots.ok told (store_of (b.now store.bank)) (inr (told, refl)))));
      after = record { played = sym new.played; gets = λ handle h p within at pin. absurd (no_handle c.in-Ok.works.parts.desk.tables handle h new.tables at) };
      kit = new.functions;
      admit = new.lists;
      live = new.live;
      counts = search rules;
      crash = start_leaves b store booted c.args.bank new.held c.boot.ensures.boots.moments g.met.B.Bank.tells_both;
      asked = λ told. subst (λ (bank : g.row.B.Denot). BootAsks b (Some Processor) bank booted.bank true) new.held
          (subst (λ (done : Bool). BootAsks b (Some Processor) store.bank booted.bank done) (ap is_ok c.in-Ok-boot.is) (c.boot.ensures.boots.bank_calls told));
    }

pub returns-in-Err-boot : goal.returns-in-Err-boot
returns-in-Err-boot g c =
    let b = g.B.Bank in
    let new = c.in-Ok.ensures in
    let store = c.in-Ok.works.parts.store in
    let booted = c.boot.new.self in
    rw c.end.ensures.bank (record {
      crash_err = start_leaves b store booted c.args.bank new.held c.boot.ensures.boots.moments g.met.B.Bank.tells_both;
      cause = subst (λ bank. StartCounted b bank booted.bank c.from.result) new.held
          (rw c.from.ensures (start_counted b store.bank booted.bank c.boot.result c.in-Err-boot.fault c.in-Err-boot.is c.boot.ensures.boots.counted));
      asked_err = λ other told. subst (λ (bank : g.row.B.Denot). BootAsks b (Some Processor) bank booted.bank false) new.held
          (subst (λ (done : Bool). BootAsks b (Some Processor) store.bank booted.bank done) (ap is_ok c.in-Err-boot.is) (c.boot.ensures.boots.bank_calls told));
      memory = search rules;
      room_err = search rules;
    })

-- out of memory before the boot
pub returns-in-Err : goal.returns-in-Err
returns-in-Err g c =
    let b = g.B.Bank in
    rw c.in-Err.ensures (record {
      crash_err = stays_shown b g.met.B.Bank.leaves_only_now g.met.B.Bank.only_now c.args.bank;
      cause = search rules;
      asked_err = λ other. absurd (other refl);
      memory = λ _. refl;
      room_err = c.requires.room;
    })
