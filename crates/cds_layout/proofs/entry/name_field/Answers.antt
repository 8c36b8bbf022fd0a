use Rattle.std.proofs.Common.{ℕ, List, ◌++◌, length, ap}
use Rattle.std.proofs.lemmas.List.{drop-replicate}
use Rattle.cds_layout.proofs.entry.name_field.Goals as goal

pub returns : goal.returns
returns c =
    let name = c.args.name.now in
    rw (c.copy_from_slice.ensures.after, c.bytes-bytes.ensures.bytes) (ap (λ (l : List ℕ). name ++ l) (drop-replicate (length name) 40 0))
