use Rattle.std.proofs.Common.{rules, sym, ◌∙◌, subst, is_ok}
use Rattle.std.proofs.lemmas.Result.{on_ok_weaker}
use Rattle.tbl_outside.specs.BankCalls.{Asks}
use Rattle.tbl_outside.proofs.Moments.{leaves_among}
use Rattle.cds_store.proofs.BankCalls.{live_writes, dead_writes}
use Rattle.cds_store.proofs.Emptied.{dead_clears, dead_tidy}
use Rattle.cds_store.proofs.Strays.{live_front}
use Rattle.cds_store.proofs.boot.tidy.Goals as goal

pub renew-requires-clause-live : goal.renew-requires-clause-live
renew-requires-clause-live g c told = sym (live_front c.args.front.now c.args.directory.now (g.B.Bank.now c.args.bank.now) (c.requires.front.is told)) ∙ sym c.is_live.ensures ∙ c.if-is_live.true

pub returns-then-is_live : goal.returns-then-is_live
returns-then-is_live g c =
    let b = g.B.Bank in
    let old = b.now c.args.bank.now in
    let renews = c.renew.ensures.changes in
    record {
      keeps = search rules;
      changes = record {
        done = renews.done;
        left = renews.left;
        moments = renews.moments;
        bank_calls = λ told.
            subst (Asks b.tells_calls b.calls c.args.bank.now c.renew.new.bank (is_ok c.renew.result)) (live_writes old (sym (live_front c.args.front.now c.args.directory.now old (c.requires.front.is told)) ∙ sym c.is_live.ensures ∙ c.if-is_live.true)) (renews.bank_calls told);
      };
    }

pub returns-else-is_live : goal.returns-else-is_live
returns-else-is_live g c =
    let b = g.B.Bank in
    let old = b.now c.args.bank.now in
    let clears = c.clear_all.ensures.changes in
    let dead = λ (told : b.tells). sym (live_front c.args.front.now c.args.directory.now old (c.requires.front.is told)) ∙ sym c.is_live.ensures ∙ c.if-is_live.false in
    record {
      keeps = search rules;
      changes = record {
        done = on_ok_weaker c.clear_all.result (λ done told. dead_tidy old (b.now c.clear_all.new.bank) (dead told) (done told)) clears.done;
        left = λ told. dead_clears old (b.now c.clear_all.new.bank) (dead told) (clears.left told);
        moments = λ m. leaves_among (clears.moments m) (λ image cleared. dead_clears old image (dead (g.met.B.Bank.tells_both m)) cleared);
        bank_calls = λ told. subst (Asks b.tells_calls b.calls c.args.bank.now c.clear_all.new.bank (is_ok c.clear_all.result)) (dead_writes old (dead told)) (clears.bank_calls told);
      };
    }
