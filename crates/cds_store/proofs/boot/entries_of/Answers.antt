use Rattle.std.proofs.Common.{◌≤◌, ◌-◌, ◌∙◌, ap, length, drop, ℕ, List, slice_index, arith}
use Rattle.std.proofs.lemmas.List.{take_all, length-drop}
use Rattle.cds_store.proofs.Emptied.{zeros_drop}
use Rattle.cds_store.proofs.boot.entries_of.Goals as goal

pub returns-clause-zeros : goal.returns-clause-zeros
returns-clause-zeros c all i =
    let xs = c.args.bytes.now in
    let short : length (drop 16 xs) ≤ length xs - 16 = simp length-drop (omega arith) in
    ap (λ (l : List ℕ). slice_index l i) (take_all (length xs - 16) (drop 16 xs) short) ∙ zeros_drop xs 16 all i
