use Rattle.std.proofs.Common.{◌≡◌, ◌&&◌, true, refl, ap, ◌∙◌, rules}
use Rattle.std.specs.List.{list_all}
use Rattle.std.proofs.lemmas.Fn.{fold_over, fronts, slice_gives}
use Rattle.tbl_kinds.specs.Names.{is_printable_byte}
use Rattle.tbl_kinds.proofs.EachByte.{one_more}
use Rattle.tbl_kinds.proofs.name.all_printable.Goals as goal

pub returns : goal.returns
returns c =
    fold_over fronts (λ y. y.now) _ (λ bytes so_far. so_far ≡ list_all is_printable_byte bytes) _
    (λ bytes so_far byte result f so k.
    let also : result ≡ (so_far && is_printable_byte byte.now) = search rules in
    (one_more is_printable_byte bytes byte.now so_far result so also, search rules))
    _ _ true c.fold.result (slice_gives c.iter.result) refl c.fold.ensures.ran
    ∙ ap (list_all is_printable_byte) c.iter.ensures.rest
