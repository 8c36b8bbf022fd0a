use Rattle.std.proofs.Common.{List, Some, None, length, slice_get, refl, sym, ap, ◌∙◌}
use Rattle.std.proofs.lemmas.Option.{slice_get_read, slice_get_past}
use Rattle.tbl_kinds.specs.Drawer.{File, names}
use Rattle.file_drawer.specs.declared.drawer.Entry.{Entry}
use Rattle.file_drawer.specs.Entries.{files_of}
use Rattle.file_drawer.proofs.Putting.{listed}
use Rattle.file_drawer.proofs.drawer.Drawer.list.Goals as goal

pub returns-in-Some : goal.returns-in-Some
returns-in-Some c =
    let there = c.in-Some.ensures.lookup in
    listed c.deref.result.now c.args.place (Some c.in-Some.entry.now)
    (sym (slice_get_read c.deref.result.now (length c.deref.result.now) c.args.place c.in-Some.entry.now refl there.3.0 there.1))
    ∙ ap (λ (es : List Entry). slice_get (names (files_of es)) c.args.place) c.deref.ensures.value
    ∙ ap (λ (fs : List File). slice_get (names fs) c.args.place) c.self.view_is

pub returns-in-None : goal.returns-in-None
returns-in-None c =
    let there = c.in-None.ensures.lookup in
    listed c.deref.result.now c.args.place None (sym (slice_get_past c.deref.result.now c.args.place there.3))
    ∙ ap (λ (es : List Entry). slice_get (names (files_of es)) c.args.place) c.deref.ensures.value
    ∙ ap (λ (fs : List File). slice_get (names fs) c.args.place) c.self.view_is
