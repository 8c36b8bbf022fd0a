use Rattle.std.proofs.Common.{rules, ◌++◌, arith, subst, is_ok, true, false}
use Rattle.tbl_outside.specs.BankCalls.{Asks}
use Rattle.tbl_outside.proofs.BankCalls.{asks_then, asks_no_more}
use Rattle.tbl_outside.proofs.Moments.{goes_on}
use Rattle.cds_layout.specs.Directory.{directory_of}
use Rattle.cds_layout.specs.Entries.{slot_count}
use Rattle.cds_layout.specs.Order.{strays_to, carry_calls}
use Rattle.cds_store.proofs.BankCalls.{strays_read}
use Rattle.cds_store.proofs.boot.renew.Goals as goal

pub returns-in_err-tidy_live : goal.returns-in_err-tidy_live
returns-in_err-tidy_live g c =
    let b = g.B.Bank in
    let old = b.now c.args.bank.now in
    let tidies = c.in_err-tidy_live.ensures.changes in
    record {
      keeps = search rules;
      changes = record {
        done = search rules;
        left = tidies.left;
        moments = tidies.moments;
        bank_calls = λ told.
            let broke : Asks b.tells_calls b.calls c.args.bank.now c.tidy_live.new.bank false (strays_to slot_count old (directory_of old) ++ carry_calls old) =
            asks_no_more b.tells_calls b.calls c.args.bank.now c.tidy_live.new.bank (strays_to slot_count old (directory_of old)) (carry_calls old)
            (subst (Asks b.tells_calls b.calls c.args.bank.now c.tidy_live.new.bank false) (strays_read c.args.front.now old c.args.directory.now (c.requires.front.is told) slot_count (omega arith)) (tidies.bank_calls told)) in
            search rules;
      };
    }

pub returns : goal.returns
returns g c =
    let b = g.B.Bank in
    let old = b.now c.args.bank.now in
    let tidies = c.in_ok-tidy_live.ensures.changes in
    let carries = c.carry.ensures.changes old c.requires.front.is tidies.done in
    record {
      keeps = search rules;
      changes = record {
        done = carries.done;
        left = carries.left;
        moments = λ m. goes_on (tidies.moments m) (carries.moments m) (λ image same. same);
        bank_calls = λ told.
            asks_then b.tells_calls b.calls c.args.bank.now c.tidy_live.new.bank c.carry.new.bank (is_ok c.carry.result) (strays_to slot_count old (directory_of old)) (carry_calls old)
            (subst (Asks b.tells_calls b.calls c.args.bank.now c.tidy_live.new.bank true) (strays_read c.args.front.now old c.args.directory.now (c.requires.front.is told) slot_count (omega arith)) (tidies.bank_calls told))
            (carries.bank_calls told);
      };
    }
