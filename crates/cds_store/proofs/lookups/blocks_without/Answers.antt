use Rattle.std.proofs.Common.{◌≡◌, ◌<◌, ◌≤◌, ◌+◌, ◌-◌, ◌++◌, ℕ, List, Option, length, take, drop, ap, sym, ◌∙◌, arith, subst, IfSome}
use Rattle.std.proofs.lemmas.List.{length-take, length-drop, take_all}
use Rattle.tbl_kinds.specs.declared.block.Block.{Block}
use Rattle.cds_store.specs.Slots.{blocks_of, block_of, without_slot}
use Rattle.cds_store.proofs.Free.{taken_fit, taken_without}
use Rattle.cds_store.proofs.lookups.blocks_without.Goals as goal

pub add_blocks-requires-in-Some-2 : goal.add_blocks-requires-in-Some-2
add_blocks-requires-in-Some-2 c =
    let xs = c.args.slots.now in
    let n = c.in-Some.freed in
    let within : n < length xs = subst (λ (o : Option ℕ). IfSome o (λ n. n < length xs)) c.in-Some.is c.requires.within in
    let front : length (take n xs) ≤ n = simp length-take (omega arith) in
    let rest : length (take (length xs - (n + 1)) (drop (n + 1) xs)) ≤ length xs - (n + 1) = simp (length-take, length-drop) (omega arith) in
    let so_far : length c.add_blocks-in-Some.new.blocks.items ≡ length (blocks_of (take n xs)) =
    ap (λ (l : List Block). length l) (c.add_blocks-in-Some.ensures ∙ ap (λ (l : List Block). l ++ blocks_of (take n xs)) c.new-blocks.ensures) in
    omega (arith, within, front, rest, so_far, taken_fit block_of (take n xs), c.requires.len)

pub returns-in-Some : goal.returns-in-Some
returns-in-Some c =
    let xs = c.args.slots.now in
    let n = c.in-Some.freed in
    let within : n < length xs = subst (λ (o : Option ℕ). IfSome o (λ n. n < length xs)) c.in-Some.is c.requires.within in
    let all : length (drop (n + 1) xs) ≤ length xs - (n + 1) = simp length-drop (omega arith) in
    c.add_blocks-in-Some-2.ensures
    ∙ ap (λ (l : List Block). l ++ blocks_of (take (length xs - (n + 1)) (drop (n + 1) xs))) (c.add_blocks-in-Some.ensures ∙ ap (λ (l : List Block). l ++ blocks_of (take n xs)) c.new-blocks.ensures)
    ∙ ap (λ l. blocks_of (take n xs) ++ blocks_of l) (take_all (length xs - (n + 1)) (drop (n + 1) xs) all)
    ∙ taken_without block_of xs n within
    ∙ ap (λ (o : Option ℕ). blocks_of (without_slot o xs)) (sym c.in-Some.is)
