use Rattle.std.proofs.Common.{◌∙◌, ◌<◌, sym, length, slice_index_or, None, arith}
use Rattle.std.proofs.lemmas.List.{get_or_default, take_all, drop_all, append-nil}
use Rattle.std.proofs.lemmas.List.Edits.{map_over_more}
use Rattle.std.proofs.lemmas.Simd.{splat_is_map}
use Rattle.access_desc.specs.Steps.{nothing}
use Rattle.access_desc.proofs.handles.free_all.Goals as goal

pub loop-place-preserved : goal.loop-place-preserved
loop-place-preserved c =
    let within : c.loop-place.place-index < length c.args.places.now = omega arith in
    let there : c.loop-place.place-index < length c.loop-place.places = omega arith in
    map_over_more nothing c.args.places.now c.loop-place.places c.loop-place.place-index (slice_index_or c.loop-place.places c.loop-place.place-index None) within c.loop-place.invariant (get_or_default c.loop-place.places c.loop-place.place-index _ _ there)

pub returns : goal.returns
returns c =
    c.loop-place.invariant
    ∙ rw (take_all c.loop-place.place-index c.args.places.now c.loop-place-test.false, drop_all c.loop-place.place-index c.args.places.now c.loop-place-test.false, append-nil) (sym (splat_is_map c.args.places.now 256 None c.requires))
