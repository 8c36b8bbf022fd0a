use Rattle.std.proofs.Common.{◌≤◌, ◌++◌, ◌∷◌, [], List, length, take, ap, sym, ◌∙◌, arith, length-append, append_assoc}
use Rattle.std.proofs.lemmas.List.{take_more, length-take}
use Rattle.std.proofs.lemmas.List.Elements.{filter_map-append}
use Rattle.std.specs.Option.{option_map}
use Rattle.tbl_kinds.specs.declared.block.Block.{Block}
use Rattle.cds_store.specs.Slots.{blocks_of, block_of}
use Rattle.cds_store.proofs.Free.{taken_fit}
use Rattle.cds_store.proofs.lookups.add_blocks.Goals as goal

pub add_block-requires : goal.add_block-requires
add_block-requires c =
    let front = take c.loop-slot.slot-index c.args.slots.now in
    let size : length front ≤ c.loop-slot.slot-index = simp length-take (omega arith) in
    omega (arith, ap (λ (l : List Block). length l) c.loop-slot.invariant, length-append c.args.blocks.now.items (blocks_of front), taken_fit block_of front, size, c.requires, c.loop-slot-test.true)

pub loop-slot-preserved : goal.loop-slot-preserved
loop-slot-preserved c =
    let i = c.loop-slot.slot-index in
    let xs = c.args.slots.now in
    let old = c.args.blocks.now.items in
    c.add_block.ensures
    ∙ ap (λ (l : List Block). l ++ blocks_of (c.slot-item.result ∷ [])) c.loop-slot.invariant
    ∙ append_assoc old (blocks_of (take i xs)) (blocks_of (c.slot-item.result ∷ []))
    ∙ ap (λ (l : List Block). old ++ l)
    (sym (filter_map-append (option_map block_of) (take i xs) (c.slot-item.result ∷ []))
    ∙ ap blocks_of (ap (λ x. take i xs ++ x ∷ []) c.slot-item.is ∙ sym (take_more xs i c.slot-item.result c.loop-slot-test.true)))
