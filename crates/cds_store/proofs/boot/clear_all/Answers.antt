use Rattle.std.proofs.Common.{rules, ◌∙◌, subst, is_ok}
use Rattle.tbl_outside.specs.BankCalls.{Asks}
use Rattle.cds_store.proofs.BankCalls.{clear_calls_made}
use Rattle.cds_store.proofs.Emptied.{first_read}
use Rattle.cds_store.proofs.boot.clear_all.Goals as goal

pub clear-requires-clause-read : goal.clear-requires-clause-read
clear-requires-clause-read g c told = c.first_of-first.ensures ∙ first_read c.args.front.now (g.B.Bank.now c.args.bank.now) (c.requires.read told)

pub returns : goal.returns
returns g c =
    let b = g.B.Bank in
    let clears = c.clear.ensures.changes in
    record {
      keeps = search rules;
      changes = record {
        done = clears.done;
        left = clears.left;
        moments = clears.moments;
        bank_calls = λ told.
            subst (Asks b.tells_calls b.calls c.args.bank.now c.clear.new.bank (is_ok c.clear.result))
            (clear_calls_made c.first_of-first.result c.entries_of.result.now (b.now c.args.bank.now)
            (c.first_of-first.ensures ∙ first_read c.args.front.now (b.now c.args.bank.now) (c.requires.read told))
            c.entries_of.ensures.len (c.entries_of.ensures.zeros c.zero_all.ensures.zeros))
            (clears.bank_calls told);
      };
    }
