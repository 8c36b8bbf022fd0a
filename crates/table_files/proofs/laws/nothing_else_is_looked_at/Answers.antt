use Rattle.table_files.proofs.FileLaws as laws
use Rattle.table_files.proofs.laws.nothing_else_is_looked_at.Goals as goal

pub returns-clause-flaw : goal.returns-clause-flaw
returns-clause-flaw c = laws.same_flaw

pub returns-clause-file : goal.returns-clause-file
returns-clause-file c = laws.same_file
