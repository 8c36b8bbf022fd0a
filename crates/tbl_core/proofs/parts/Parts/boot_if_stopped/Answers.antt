use Rattle.std.proofs.Common.{rules}
use Rattle.tbl_core.specs.Service.{parts_view}
use Rattle.tbl_core.proofs.BootedAfter.{no_boot}
use Rattle.tbl_core.proofs.parts.Parts.boot_if_stopped.Goals as goal

pub returns-then-ne : goal.returns-then-ne
returns-then-ne g c = no_boot g.B.Bank (parts_view c.args.self.now) c.args.note.now (search rules)

pub returns : goal.returns
returns g c = record {
  follows = search rules;
  held = search rules;
  booted = search rules;
  boots = search rules;
  finds = search rules;
  trouble = search rules;
  asked = search rules;
  moments = search rules;
}
