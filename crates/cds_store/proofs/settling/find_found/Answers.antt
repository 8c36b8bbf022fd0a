use Rattle.std.proofs.Common.{◌≡◌, ◌++◌, ◌∷◌, [], ℕ, List, Bool, cond, length, ap, sym, ◌∙◌, arith}
use Rattle.cds_layout.specs.Entries.{slot_count}
use Rattle.cds_store.specs.Boots.{is_found, found_to}
use Rattle.cds_store.proofs.Found.{found_none, found_more, found_short}
use Rattle.cds_store.proofs.settling.find_found.Goals as goal

pub loop-slot-init : goal.loop-slot-init
loop-slot-init c = c.make-found.ensures ∙ sym (found_none (is_found c.args.slots.now c.args.directory.now))

pub note-requires : goal.note-requires
note-requires c = omega (arith, ap (λ (l : List ℕ). length l) c.loop-slot.invariant, found_short (is_found c.args.slots.now c.args.directory.now) c.loop-slot.slot, c.loop-slot-test.true)

pub loop-slot-preserved : goal.loop-slot-preserved
loop-slot-preserved c =
    let n = c.loop-slot.slot in
    let test = is_found c.args.slots.now c.args.directory.now in
    c.note.ensures
    ∙ ap (λ (l : List ℕ). l ++ cond c.is_found-is_found.result (n ∷ []) []) c.loop-slot.invariant
    ∙ ap (λ (b : Bool). found_to n test ++ cond b (n ∷ []) []) c.is_found-is_found.ensures
    ∙ sym (found_more test n)

pub returns : goal.returns
returns c =
    let end : c.loop-slot.slot ≡ slot_count = omega arith in
    c.loop-slot.invariant ∙ ap (λ n. found_to n (is_found c.args.slots.now c.args.directory.now)) end
