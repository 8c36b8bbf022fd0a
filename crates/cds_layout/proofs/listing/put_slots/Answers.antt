use Rattle.std.proofs.Common.{rules, ◌≡◌, ℕ, ◌<◌, List, Option, None, Err, slice_index_or, true, arith, sym, subst}
use Rattle.tbl_kinds.specs.declared.block.Block.{Block}
use Rattle.tbl_outside.specs.BankCalls.{Asks}
use Rattle.tbl_outside.specs.declared.bank.Bank.{Ghosts}
use Rattle.cds_layout.specs.declared.listing.TextFault.{TextFault}
use Rattle.cds_layout.specs.declared.listing.TextFault.TheVariants.{Fault, Memory}
use Rattle.cds_layout.specs.Entries.{slot_count}
use Rattle.cds_layout.specs.Order.{look_at, looked_to}
use Rattle.cds_layout.specs.Looks.{AllRead, LookAsks, Looks, text_ending}
use Rattle.cds_layout.proofs.LookLemmas.{reads_on, no_look, still_read}
use Rattle.cds_layout.proofs.SlotCalls.{asks_no_slot, asks_next_slot, asks_to_slot}
use Rattle.cds_layout.proofs.Texts.{one_more, all_put}
use Rattle.cds_layout.proofs.listing.put_slots.Goals as goal

broke : {B : Type 0} (g : Ghosts B) (tells_both : g.tells_moments → g.tells) (old mid new : B) (slot : ℕ) (directory : List (Option Block)) → slot < slot_count → (fault : TextFault)
    → Looks g old mid (looked_to slot (g.now old) directory) AllRead → Looks g mid new (look_at (g.now mid) slot (slice_index_or directory slot None)) (text_ending {A = Unit {0}} (Err fault))
    → Looks g old new (looked_to slot_count (g.now old) directory) (text_ending {A = Unit {0}} (Err fault))
broke g tells_both old mid new slot directory lt fault so_far call = record {
  reads = reads_on g tells_both old mid new _ so_far.reads call.reads;
  bank_calls = λ told. by fault (subst (λ (l : List ℕ). LookAsks g mid new (look_at l slot (slice_index_or directory slot None)) (text_ending {A = Unit {0}} (Err fault))) (so_far.reads.kept told) (call.bank_calls told)) (so_far.bank_calls told);
} where
  by : (fault : TextFault) → LookAsks g mid new (look_at (g.now old) slot (slice_index_or directory slot None)) (text_ending {A = Unit {0}} (Err fault)) → Asks g.tells_calls g.calls old mid true (looked_to slot (g.now old) directory)
      → LookAsks g old new (looked_to slot_count (g.now old) directory) (text_ending {A = Unit {0}} (Err fault))
  by Fault asked before = asks_to_slot g.tells_calls g.calls (λ n. look_at (g.now old) n (slice_index_or directory n None)) old mid new slot slot_count lt before asked
  by Memory asked before = tt

pub put_slot-requires-clause-front : goal.put_slot-requires-clause-front
put_slot-requires-clause-front g c = still_read g.B.Bank c.args.bank.now c.loop-slot.bank AllRead _ _ c.loop-slot.invariant.looks.reads c.requires.front

pub loop-slot-init : goal.loop-slot-init
loop-slot-init g c =
    let b = g.B.Bank in
    let bank = c.args.bank.now in
    record {
      text = search rules;
      looks = record {
        reads = no_look b bank AllRead (λ e. absurd cc) (λ image m left. g.met.B.Bank.leaves_only_now bank image m (g.met.B.Bank.only_now bank image m left));
        bank_calls = λ told. asks_no_slot b.tells_calls b.calls (λ slot. look_at (b.now bank) slot (slice_index_or c.args.front.now.directory slot None)) bank;
      };
    }

pub loop-slot-preserved : goal.loop-slot-preserved
loop-slot-preserved g c =
    let b = g.B.Bank in
    let old = c.args.bank.now in
    let bytes = b.now old in
    let directory = c.args.front.now.directory in
    let slot = c.loop-slot.slot in
    let so_far = c.loop-slot.invariant.looks in
    let call = c.in_ok-put_slot.ensures.looks in
    record {
      text = λ told. one_more bytes (b.now c.loop-slot.bank) slot c.loop-slot.out.list c.put_slot.new.out.list _ (omega arith) (so_far.reads.kept told) (c.in_ok-put_slot.ensures.text told) (c.loop-slot.invariant.text told);
      looks = record {
        reads = reads_on b g.met.B.Bank.tells_both old c.loop-slot.bank c.put_slot.new.bank AllRead so_far.reads call.reads;
        bank_calls = λ told.
            asks_next_slot b.tells_calls b.calls (λ n. look_at bytes n (slice_index_or directory n None)) old c.loop-slot.bank c.put_slot.new.bank slot (so_far.bank_calls told)
            (subst (λ (l : List ℕ). Asks b.tells_calls b.calls c.loop-slot.bank c.put_slot.new.bank true (look_at l slot (slice_index_or directory slot None))) (so_far.reads.kept told) (call.bank_calls told));
      };
    }

pub returns-clause-text : goal.returns-clause-text
returns-clause-text g c told = all_put (g.B.Bank.now c.args.bank.now) c.loop-slot.slot c.loop-slot.out.list _ (omega arith) (c.loop-slot.invariant.text told)

pub returns-clause-looks : goal.returns-clause-looks
returns-clause-looks g c =
    let all : c.loop-slot.slot ≡ slot_count = omega arith in
    subst (λ (n : ℕ). Looks g.B.Bank c.args.bank.now c.loop-slot.bank (looked_to n (g.B.Bank.now c.args.bank.now) c.args.front.now.directory) AllRead) all c.loop-slot.invariant.looks

pub returns-in_err-put_slot-clause-looks : goal.returns-in_err-put_slot-clause-looks
returns-in_err-put_slot-clause-looks g c =
    let b = g.B.Bank in
    let old = c.args.bank.now in
    let fault = c.in_err-put_slot.field-0.0 in
    let same : c.from_residual.result ≡ Err fault = search rules in
    subst (λ r. Looks b old c.put_slot.new.bank (looked_to slot_count (b.now old) c.args.front.now.directory) (text_ending r)) (sym same)
    (broke b g.met.B.Bank.tells_both old c.loop-slot.bank c.put_slot.new.bank c.loop-slot.slot c.args.front.now.directory (omega arith) fault c.loop-slot.invariant.looks c.in_err-put_slot.ensures.looks)
