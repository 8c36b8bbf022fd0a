use Rattle.std.proofs.Common.{rules, ◌≡◌, ◌≤◌, ℕ, List, [], ◌∷◌, length, is_ok, sym, subst, ◌∙◌, ap, arith, false, Some}
use Rattle.std.proofs.lemmas.Result.{on_ok_weaker}
use Rattle.tbl_kinds.specs.Places.{bank_size}
use Rattle.tbl_kinds.specs.Numbers.{patched}
use Rattle.tbl_outside.specs.Bank.{Torn}
use Rattle.tbl_outside.specs.BankCalls.{Asks, write}
use Rattle.tbl_outside.proofs.BankCalls.{asks_then, asks_no_more}
use Rattle.tbl_outside.proofs.Moments.{goes_on, leaves_among}
use Rattle.cds_layout.specs.Entries.{turns_place}
use Rattle.cds_layout.specs.Images.{is_whole}
use Rattle.cds_layout.specs.Order.{carried_turns, first_calls, carry_at}
use Rattle.cds_layout.specs.declared.turns.Place.TheVariants.{First}
use Rattle.cds_store.specs.Boots.{SameStore}
use Rattle.cds_store.proofs.CarriedOver.{carry_torn, carry_step}
use Rattle.cds_store.proofs.carrying.carry_block.Goals as goal

-- the turn bytes that were torn, of bytes that are these
moved : {at here n : ℕ} {mid old image : List ℕ} → at ≡ here → n ≡ 2 → mid ≡ old → Torn at n mid image → Torn here 2 old image
moved place size bytes torn = rw (← place, ← size, ← bytes) torn

pub returns-in_err-whole-clause-changes : goal.returns-in_err-whole-clause-changes
returns-in_err-whole-clause-changes g c old there carried =
    let b = g.B.Bank in
    let block = c.args.block.now in
    let now = b.now c.args.bank.now in
    let reads = c.read_first.ensures.reads in
    record {
      done = search rules;
      left = λ told. subst (SameStore old) (sym (reads.kept told)) (carried told).same;
      moments = λ m. leaves_among (reads.moments m) (λ image same. subst (SameStore old) (sym same) (carried (g.met.B.Bank.tells_both m)).same);
      bank_calls = λ told.
          let broke : Asks b.tells_calls b.calls c.args.bank.now c.read_first.new.bank false (carry_at now c.args.slot (Some block)) =
          asks_no_more b.tells_calls b.calls c.args.bank.now c.read_first.new.bank (first_calls block) (write (turns_place c.args.slot) (carried_turns (is_whole now block First)) ∷ []) c.in_err-whole.ensures.bank_calls in
          search rules;
    }

pub returns-clause-changes : goal.returns-clause-changes
returns-clause-changes g c old there carried =
    let b = g.B.Bank in
    let slot = c.args.slot in
    let block = c.args.block.now in
    let now = b.now c.args.bank.now in
    let new = b.now c.write.new.bank in
    let reads = c.read_first.ensures.reads in
    let writes = c.write.ensures.writes in
    let size : length c.carried_turns.result ≡ 2 = search rules in
    record {
      done =
          on_ok_weaker c.write.result
          (λ done told.
          let kept = reads.kept told in
          let long : bank_size ≤ length now = omega (arith, c.requires.can.room, g.met.B.Bank.whole c.args.bank.now told) in
          carry_step old now new slot c.requires.can.within (carried told) (moved c.turns_place.ensures size kept (writes.torn told)) block (there told) c.in_ok-whole.whole (c.in_ok-whole.ensures.whole told)
          (done told ∙ (λ i. patched (kept i) (c.turns_place.ensures i) (c.carried_turns.ensures i))) long)
          writes.done;
      left = λ told. carry_torn old now new slot c.requires.can.within (carried told) (moved c.turns_place.ensures size (reads.kept told) (writes.torn told));
      moments = λ m.
          let told = g.met.B.Bank.tells_both m in
          goes_on (leaves_among (reads.moments m) (λ image same. subst (SameStore old) (sym same) (carried told).same))
          (writes.moments m)
          (λ image torn. carry_torn old now image slot c.requires.can.within (carried told) (moved c.turns_place.ensures size (reads.kept told) torn));
      bank_calls = λ told.
          asks_then b.tells_calls b.calls c.args.bank.now c.read_first.new.bank c.write.new.bank (is_ok c.write.result) (first_calls block) (write (turns_place slot) (carried_turns (is_whole now block First)) ∷ [])
          c.in_ok-whole.ensures.bank_calls
          (subst (Asks b.tells_calls b.calls c.read_first.new.bank c.write.new.bank (is_ok c.write.result))
          (λ i. write (c.turns_place.ensures i) ((c.carried_turns.ensures ∙ ap carried_turns (c.in_ok-whole.ensures.whole told)) i) ∷ [])
          writes.bank_calls);
    }
