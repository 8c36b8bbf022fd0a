use Rattle.std.proofs.Common.{List, Some, slice_get, sym, ap, ◌∙◌}
use Rattle.tbl_kinds.specs.Drawer.{File, names, contents_of, with_file}
use Rattle.file_drawer.proofs.Putting.{refilled_file, refilled_fits, contents_read}
use Rattle.file_drawer.proofs.drawer.Drawer.replace.Goals as goal

pub invariant_of-self : goal.invariant_of-self
invariant_of-self c = refilled_fits c.self.inside.entries.items c.args.place c.index_mut.result.now c.replace.new.dest c.index_mut.ensures.value c.self.invariant

pub returns : goal.returns
returns c = record {
  file = λ name at.
      refilled_file c.self.inside.entries.items c.args.place c.index_mut.result.now c.replace.new.dest c.index_mut.ensures.value name c.self.invariant.1 (ap (λ (fs : List File). slice_get (names fs) c.args.place) c.self.view_is ∙ at)
      ∙ ap (λ (fs : List File). with_file fs name c.replace.new.dest) c.self.view_is ∙ ap (with_file c.args.self.now name) c.replace.ensures.after;
  replaced = λ name at.
      ap (λ (fs : List File). contents_of fs name) (sym c.self.view_is)
      ∙ contents_read c.self.inside.entries.items c.args.place name c.index_mut.result.now c.index_mut.ensures.value c.self.invariant.1 (ap (λ (fs : List File). slice_get (names fs) c.args.place) c.self.view_is ∙ at) ∙ ap Some (sym c.replace.ensures.value);
}
