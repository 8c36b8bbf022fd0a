use Rattle.std.proofs.Common.{◌≡◌, ◌<◌, List, None, length, sym, ap, ◌∙◌}
use Rattle.tbl_kinds.specs.Drawer.{File, contents_of, with_file}
use Rattle.file_drawer.specs.Entries.{files_of}
use Rattle.file_drawer.proofs.Putting.{pushed_fits, with_file-new}
use Rattle.file_drawer.proofs.drawer.Drawer.add.Goals as goal

pub invariant_of-self-2 : goal.invariant_of-self-2
invariant_of-self-2 c =
    let files : List File = files_of c.self.inside.entries.items in
    let room : length files < 64 = rw c.self.view_is c.requires.room in
    let absent : contents_of files c.args.name.now ≡ None = rw c.self.view_is c.requires.new in
    pushed_fits files (files_of c.push.new.entries.items) c.args.name.now c.args.contents c.in_ok-push.ensures.file room absent c.self.invariant.1

pub returns-clause-file : goal.returns-clause-file
returns-clause-file c =
    let files : List File = files_of c.self.inside.entries.items in
    let absent : contents_of files c.args.name.now ≡ None = rw c.self.view_is c.requires.new in
    c.in_ok-push.ensures.file
    ∙ sym (with_file-new files c.args.name.now c.args.contents absent)
    ∙ ap (λ (fs : List File). with_file fs c.args.name.now c.args.contents) c.self.view_is
