use Rattle.std.proofs.Common.{rules, ◌≡◌, ℕ, List, [], ◌∷◌, ◌++◌, Bool, cond, Result, Ok, Err, IsErr, is_ok, sym, subst, ap, ◌∙◌, true, false, refl}
use Rattle.tbl_outside.specs.BankCalls.{Asks, write}
use Rattle.tbl_outside.proofs.BankCalls.{asks_then, asks_no_more}
use Rattle.tbl_outside.proofs.Moments.{goes_on}
use Rattle.cds_layout.specs.Directory.{directory_of, is_first_version, version_place}
use Rattle.cds_layout.specs.Entries.{slot_count}
use Rattle.cds_layout.specs.Order.{carried_to, carry_calls}
use Rattle.cds_store.specs.Boots.{SameStore}
use Rattle.cds_store.proofs.CarriedOver.{carried_start}
use Rattle.cds_store.proofs.Strays.{unmoved, version_read, tidied_is_tidy}
use Rattle.cds_store.proofs.carrying.carry.Goals as goal

-- what is asked where the bank is of the first version
carries : (old : List ℕ) → is_first_version old ≡ true → carry_calls old ≡ carried_to slot_count old (directory_of old) ++ write version_place (0x32 ∷ []) ∷ []
carries old first = ap (λ (v : Bool). cond v (carried_to slot_count old (directory_of old) ++ write version_place (0x32 ∷ []) ∷ []) []) first

not_ok : {T E : Type 0} (r : Result T E) → IsErr r → is_ok r ≡ false
not_ok (Ok x) err = absurd (cc err)
not_ok (Err e) err = refl

pub returns-in_err-carry_blocks-clause-changes : goal.returns-in_err-carry_blocks-clause-changes
returns-in_err-carry_blocks-clause-changes g c old is tidied =
    let b = g.B.Bank in
    let first = λ (told : b.tells). sym (version_read c.args.front.now c.args.directory.now old (is told)) ∙ sym c.is_first_version.ensures ∙ c.if-is_first_version.true in
    let blocks = c.in_err-carry_blocks.ensures.changes old (λ told. (is told).told) (λ told. carried_start old (b.now c.args.bank.now) (first told) (tidied told)) in
    record {
      done = search rules;
      left = blocks.left;
      moments = blocks.moments;
      bank_calls = λ told.
          subst (λ (done : Bool). Asks b.tells_calls b.calls c.args.bank.now c.carry_blocks.new.bank done (carry_calls old)) (sym (not_ok c.from_residual.result c.from_residual.ensures.0))
          (subst (Asks b.tells_calls b.calls c.args.bank.now c.carry_blocks.new.bank false) (sym (carries old (first told)))
          (asks_no_more b.tells_calls b.calls c.args.bank.now c.carry_blocks.new.bank (carried_to slot_count old (directory_of old)) (write version_place (0x32 ∷ []) ∷ []) (blocks.bank_calls told)));
    }

pub returns-in_ok-carry_blocks-clause-changes : goal.returns-in_ok-carry_blocks-clause-changes
returns-in_ok-carry_blocks-clause-changes g c old is tidied =
    let b = g.B.Bank in
    let first = λ (told : b.tells). sym (version_read c.args.front.now c.args.directory.now old (is told)) ∙ sym c.is_first_version.ensures ∙ c.if-is_first_version.true in
    let blocks = c.in_ok-carry_blocks.ensures.changes old (λ told. (is told).told) (λ told. carried_start old (b.now c.args.bank.now) (first told) (tidied told)) in
    let version = c.write_version.ensures.changes old blocks.done in
    record {
      done = version.done;
      left = version.left;
      moments = λ m. goes_on (blocks.moments m) (version.moments m) (λ image same. same);
      bank_calls = λ told.
          subst (Asks b.tells_calls b.calls c.args.bank.now c.write_version.new.bank (is_ok c.write_version.result)) (sym (carries old (first told)))
          (asks_then b.tells_calls b.calls c.args.bank.now c.carry_blocks.new.bank c.write_version.new.bank (is_ok c.write_version.result) (carried_to slot_count old (directory_of old)) (write version_place (0x32 ∷ []) ∷ [])
          (blocks.bank_calls told) (version.bank_calls told));
    }

pub returns-else-is_first_version-clause-changes : goal.returns-else-is_first_version-clause-changes
returns-else-is_first_version-clause-changes g c old is tidied =
    let b = g.B.Bank in
    let other = λ (told : b.tells). sym (version_read c.args.front.now c.args.directory.now old (is told)) ∙ sym c.is_first_version.ensures ∙ c.if-is_first_version.false in
    record {
      done = λ told. tidied_is_tidy old (b.now c.args.bank.now) (other told) (tidied told);
      left = λ told. (tidied told).same;
      moments = λ m. unmoved b c.args.bank.now (SameStore old) (λ image left. g.met.B.Bank.leaves_only_now c.args.bank.now image m (g.met.B.Bank.only_now c.args.bank.now image m left)) (tidied (g.met.B.Bank.tells_both m)).same;
      bank_calls = λ told.
          subst (Asks b.tells_calls b.calls c.args.bank.now c.args.bank.now true)
          (ap (λ (v : Bool). cond v (carried_to slot_count old (directory_of old) ++ write version_place (0x32 ∷ []) ∷ []) []) (sym (other told)))
          (λ told_calls. (told_calls, refl));
    }
