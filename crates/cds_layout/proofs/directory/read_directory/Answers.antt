use Rattle.std.proofs.Common.{length, ap, ◌∙◌}
use Rattle.cds_layout.proofs.Directories.{length-directory_of}
use Rattle.cds_layout.proofs.directory.read_directory.Goals as goal

pub invariant_of-into : goal.invariant_of-into
invariant_of-into c = ap length c.read_blocks.ensures ∙ length-directory_of c.args.bytes.now
