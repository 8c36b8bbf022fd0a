use Rattle.std.proofs.Common.{List, Some, slice_get, sym, ap, ◌∙◌}
use Rattle.tbl_kinds.specs.Drawer.{File, names, contents_of}
use Rattle.file_drawer.proofs.Putting.{contents_read}
use Rattle.file_drawer.proofs.drawer.Drawer.get.Goals as goal

pub returns : goal.returns
returns c =
    let found = contents_read c.self.inside.entries.items c.in_ok-place.place c.args.name.now c.index.result.now c.index.ensures c.self.invariant.1
    (ap (λ (fs : List File). slice_get (names fs) c.in_ok-place.place) c.self.view_is ∙ c.in_ok-place.ensures.at) in
    ap Some c.bytes.ensures ∙ sym found ∙ ap (λ (fs : List File). contents_of fs c.args.name.now) c.self.view_is
