use Rattle.table_files.proofs.FileLaws as laws
use Rattle.table_files.proofs.laws.table_files_are_read.Goals as goal

pub returns : goal.returns
returns c = laws.reads
