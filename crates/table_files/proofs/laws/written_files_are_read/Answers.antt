use Rattle.std.proofs.Common.{refl}
use Rattle.tbl_kinds.specs.Admitted.{all_admitted}
use Rattle.tbl_kinds.specs.TableFiles.{table_file}
use Rattle.table_files.proofs.FileLaws as laws
use Rattle.table_files.proofs.laws.written_files_are_read.Goals as goal

pub returns-clause-is_file : goal.returns-clause-is_file
returns-clause-is_file c = laws.written

pub returns-clause-accepted : goal.returns-clause-accepted
returns-clause-accepted c admit header file is admitted = laws.accepted admit (table_file header file) file (laws.written admit header file is admitted)

pub returns-clause-same : goal.returns-clause-same
returns-clause-same c header file is = laws.same all_admitted (table_file header file) file (laws.written all_admitted header file is (record { spacecraft = refl; processor = refl }))
