use Rattle.std.proofs.Common.{refl, codes}
use Rattle.std.proofs.lemmas.List.{append_assoc}
use Rattle.tbl_model.specs.Dumps.{registry_file}
use Rattle.dump_requests.proofs.files.write_registry.Goals as goal

pub returns-clause-bytes : goal.returns-clause-bytes
unfolding registry_file
returns-clause-bytes c = λ s tables seconds sub.
    rw (c.write_records.ensures.bytes, c.write_file_header.ensures.bytes, c.header-header.ensures.header (codes "Table registry") s refl seconds sub, tables) (append_assoc c.args.out.now.list _ _)
