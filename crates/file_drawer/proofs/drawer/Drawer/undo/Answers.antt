use Rattle.std.proofs.Common.{length, ◌-◌}
use Rattle.file_drawer.specs.Entries.{files_of}
use Rattle.file_drawer.proofs.Putting.{taken_fits}
use Rattle.file_drawer.proofs.drawer.Drawer.undo.Goals as goal

pub invariant_of-self : goal.invariant_of-self
invariant_of-self c = taken_fits (files_of c.self.inside.entries.items) (files_of c.drop_last.new.entries.items) (length (files_of c.self.inside.entries.items) - 1) c.drop_last.ensures c.self.invariant
