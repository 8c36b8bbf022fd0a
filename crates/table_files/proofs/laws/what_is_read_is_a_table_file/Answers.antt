use Rattle.table_files.proofs.FileLaws as laws
use Rattle.table_files.proofs.laws.what_is_read_is_a_table_file.Goals as goal

pub returns : goal.returns
returns c = laws.only
