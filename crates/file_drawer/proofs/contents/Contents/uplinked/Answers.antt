use Rattle.file_drawer.proofs.Spelled.{behind_field}
use Rattle.file_drawer.proofs.contents.Contents.uplinked.Goals as goal

pub returns-clause-bytes : goal.returns-clause-bytes
returns-clause-bytes c = behind_field c.args.file.now.name c.args.file.now.bytes c.in_ok-bytes.bytes.list c.spelling-spelling.ensures.fits c.in_ok-bytes.ensures.spelling
