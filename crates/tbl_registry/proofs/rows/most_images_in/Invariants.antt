use Rattle.std.proofs.Common.{◌≡◌, max, fold, take}
use Rattle.tbl_registry.specs.Images.{images_in}
use Rattle.tbl_registry.proofs.rows.most_images_in.Given as goal

abbrev pub invariant-loop-row : goal.invariant-loop-row
invariant-loop-row l = l.most ≡ fold (λ most row. max most (images_in row)) 0 (take l.row-index l.rows)
