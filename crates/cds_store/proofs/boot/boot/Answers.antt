use Rattle.std.proofs.Common.{rules, List, ℕ, [], ◌∷◌, subst, is_ok}
use Rattle.std.proofs.lemmas.Result.{IfOk-weaker}
use Rattle.tbl_kinds.specs.Blocks.{Store as Blocks}
use Rattle.tbl_kinds.specs.StoreSteps.{booted}
use Rattle.tbl_outside.specs.BankCalls.{Asks, read}
use Rattle.tbl_outside.proofs.BankCalls.{asks_then}
use Rattle.tbl_outside.proofs.Moments.{goes_on, leaves_among}
use Rattle.cds_layout.specs.Directory.{directory_len}
use Rattle.cds_layout.specs.Order.{boot_writes}
use Rattle.cds_store.specs.Boots.{BeginsAt}
use Rattle.cds_store.specs.StoreBlocks.{StandsFor, kept}
use Rattle.cds_store.proofs.Booted.{begins_again, read_leaves}
use Rattle.cds_store.proofs.boot.boot.Goals as goal

pub returns-in_err-read_front-clause-boots : goal.returns-in_err-read_front-clause-boots
returns-in_err-read_front-clause-boots g c =
    let b = g.B.Bank in
    record {
      ok = search rules;
      found = search rules;
      left = λ told blocks begins. read_leaves b.tells b.now c.args.slots.now.items c.args.bank.now c.args.kind blocks told begins (b.now c.read_front.new.bank) (c.read_front.ensures.reads.kept told);
      moments = λ told blocks begins. leaves_among (c.read_front.ensures.reads.moments told) (read_leaves b.tells b.now c.args.slots.now.items c.args.bank.now c.args.kind blocks (g.met.B.Bank.tells_both told) begins);
      steady = search rules;
      counted = search rules;
      bank_calls = search rules;
      not_old = search rules;
    }

pub returns-clause-boots : goal.returns-clause-boots
returns-clause-boots g c =
    let b = g.B.Bank in
    record {
      ok =
          IfOk-weaker c.boot_as.result
          (λ found. b.tells → (blocks : Blocks) → BeginsAt b.tells b.now (kept c.args.slots.now.items c.read_front.new.bank) blocks → StandsFor b.tells b.now (kept c.boot_as.new.slots.items c.boot_as.new.bank) (booted c.args.kind found blocks)) _
          (λ found stands told blocks begins. stands told blocks (begins_again b.tells b.now c.args.slots.now.items c.args.bank.now c.read_front.new.bank blocks c.read_front.ensures.reads.kept begins))
          c.boot_as.ensures.boots.ok;
      found = search rules;
      left = λ told blocks begins. c.boot_as.ensures.boots.left told blocks (begins_again b.tells b.now c.args.slots.now.items c.args.bank.now c.read_front.new.bank blocks c.read_front.ensures.reads.kept begins);
      moments = λ told blocks begins.
          goes_on
          (leaves_among (c.read_front.ensures.reads.moments told) (read_leaves b.tells b.now c.args.slots.now.items c.args.bank.now c.args.kind blocks (g.met.B.Bank.tells_both told) begins))
          (c.boot_as.ensures.boots.moments told blocks (begins_again b.tells b.now c.args.slots.now.items c.args.bank.now c.read_front.new.bank blocks c.read_front.ensures.reads.kept begins))
          (λ image leaves. leaves);
      steady = search rules;
      counted = search rules;
      bank_calls = λ told.
          asks_then b.tells_calls b.calls c.args.bank.now c.read_front.new.bank c.boot_as.new.bank (is_ok c.boot_as.result) (read 0 directory_len ∷ []) (boot_writes c.args.kind (b.now c.args.bank.now))
          c.in_ok-read_front.ensures.bank_calls
          (subst (λ (l : List ℕ). Asks b.tells_calls b.calls c.read_front.new.bank c.boot_as.new.bank (is_ok c.boot_as.result) (boot_writes c.args.kind l))
          (c.read_front.ensures.reads.kept told) (c.boot_as.ensures.boots.bank_calls (told)));
      not_old = search rules;
    }
