use Rattle.std.proofs.Common.{◌≡◌, ◌∙◌, ◌||◌, List, None, true, false, refl, sym, subst, rules, ℕ}
use Rattle.std.specs.Prelude.{◌==◌, nat_lt}
use Rattle.std.proofs.lemmas.Option.{same_Some}
use Rattle.tbl_kinds.specs.Limits.{table_limit}
use Rattle.tbl_kinds.specs.Names.{is_name}
use Rattle.tbl_kinds.specs.StoreSteps.{open_of}
use Rattle.tbl_kinds.specs.declared.block.BlockKind.TheVariants.{App}
use Rattle.tbl_kinds.specs.declared.status.TheConstants.Status.{ERR_BAD_APP, ERR_INVALID_NAME, ERR_INVALID_SIZE}
use Rattle.tbl_model.specs.AppBlocks.{block_effect, cds_register_effect}
use Rattle.store_requests.specs.Requests.{at_desk}
use Rattle.sharing.specs.Apps.{app_name}
use Rattle.store_requests.specs.BankCalls.{asks_register, asks_register_for}
use Rattle.store_requests.proofs.BankCalls.{bank_calls_none}
use Rattle.store_requests.proofs.Promised.{asking_alone, served_as}
use Rattle.store_requests.proofs.Reserved.{registered_is, not_running, not_named, not_sized, all_right, size_zero, size_over, size_good}
use Rattle.store_requests.proofs.blocks.cds_register.Goals.{then-size-eq0-via-then-size-eq0, then-size-eq0-via-else-size-eq0+then-size-gt-BLOCK_LIMIT}
use Rattle.store_requests.proofs.blocks.cds_register.Goals as goal

pub returns-in_default : goal.returns-in_default
returns-in_default g c =
    let b = g.B.Bank in
    let store = c.args.store.now in
    let o = app_name c.args.desk.now.apps c.args.app in
    let short = c.args.short.now in record {
      served = asking_alone b g.met.B.Bank.leaves_only_now g.met.B.Bank.only_now store (at_desk c.args.desk.now c.args.store.now).state (λ s stands. stands) (λ s. cds_register_effect s c.args.app short c.args.size) (asks_register_for o short c.args.size)
          ERR_BAD_APP 0 c.plain.result c.plain.ensures
          (λ s stands n. let none : c.plan_name.result ≡ None = search rules in registered_is _ c.args.app short c.args.size n ∙ not_running _ short c.args.size n o (sym none ∙ c.plan_name.ensures.name)) (search rules)
          (λ name there blocks stands calls asked. bank_calls_none b store.bank store.bank calls c.plain.result.note refl c.plain.ensures.note_is);
    }

pub returns-then-not-is_name : goal.returns-then-not-is_name
returns-then-not-is_name g c =
    let b = g.B.Bank in
    let store = c.args.store.now in
    let o = app_name c.args.desk.now.apps c.args.app in
    let short = c.args.short.now in
    let bad : is_name short ≡ false = search rules in record {
      served = asking_alone b g.met.B.Bank.leaves_only_now g.met.B.Bank.only_now store (at_desk c.args.desk.now c.args.store.now).state (λ s stands. stands) (λ s. cds_register_effect s c.args.app short c.args.size) (asks_register_for o short c.args.size)
          ERR_INVALID_NAME 0 c.plain-then-not-is_name.result c.plain-then-not-is_name.ensures
          (λ s stands n. registered_is _ c.args.app short c.args.size n ∙ not_named _ short c.args.size n o c.in-Some.name c.in-Some.ensures.name bad) (search rules)
          (λ name there blocks stands calls asked. bank_calls_none b store.bank store.bank calls c.plain-then-not-is_name.result.note refl c.plain-then-not-is_name.ensures.note_is);
    }

pub returns-then-size-eq0 : goal.returns-then-size-eq0
returns-then-size-eq0 g c =
    let b = g.B.Bank in
    let store = c.args.store.now in
    let o = app_name c.args.desk.now.apps c.args.app in
    let short = c.args.short.now in
    let good : is_name short ≡ true = search rules in
    let bad : c.args.size == 0 || nat_lt table_limit c.args.size ≡ true = elim c.then-size-eq0.branch [
      | then-size-eq0-via-then-size-eq0 w ↦ size_zero c.args.size w.if-size-eq0.true
      | then-size-eq0-via-else-size-eq0+then-size-gt-BLOCK_LIMIT w ↦ size_over c.args.size w.if-size-gt-BLOCK_LIMIT.true
    ] in record {
      served = asking_alone b g.met.B.Bank.leaves_only_now g.met.B.Bank.only_now store (at_desk c.args.desk.now c.args.store.now).state (λ s stands. stands) (λ s. cds_register_effect s c.args.app short c.args.size) (asks_register_for o short c.args.size)
          ERR_INVALID_SIZE 0 c.plain-then-size-eq0.result c.plain-then-size-eq0.ensures
          (λ s stands n. registered_is _ c.args.app short c.args.size n ∙ not_sized _ short c.args.size n o c.in-Some.name c.in-Some.ensures.name good bad) (search rules)
          (λ name there blocks stands calls asked. bank_calls_none b store.bank store.bank calls c.plain-then-size-eq0.result.note refl c.plain-then-size-eq0.ensures.note_is);
    }

pub returns : goal.returns
returns g c =
    let b = g.B.Bank in
    let old = c.args.store.now in
    let new = c.register_block.new.store in
    let o = app_name c.args.desk.now.apps c.args.app in
    let short = c.args.short.now in
    let name = c.in-Some.name in
    let good : is_name short ≡ true = search rules in record {
      served = served_as b old new (at_desk c.args.desk.now c.args.store.now).state (λ s stands. stands)
          (λ s n. block_effect s name c.args.size n (open_of App name s.store)) (λ s. cds_register_effect s c.args.app short c.args.size)
          (λ s stands n. registered_is _ c.args.app short c.args.size n ∙ all_right _ short c.args.size n o name c.in-Some.ensures.name good (size_good c.args.size c.if-size-eq0.false c.if-size-gt-BLOCK_LIMIT.false))
          (asks_register name c.args.size) (asks_register_for o short c.args.size)
          (λ outcome asked full there. subst (λ (n : List ℕ). asks_register n c.args.size b old new outcome) (same_Some name full (c.in-Some.ensures.name ∙ there)) asked) c.register_block.result c.register_block.ensures.served;
    }
