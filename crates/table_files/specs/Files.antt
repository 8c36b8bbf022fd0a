-- Table files and their faults, as the definitions speak of them.
use Rattle.std.specs.Prelude.{ℕ, List}
use Rattle.tbl_kinds.specs.TableFiles as spec
use Rattle.tbl_kinds.specs.TableFiles.{FileFlaw, no_std_header, bad_content, bad_subtype, bad_spacecraft, bad_processor, no_table_header, incomplete, too_big}
use Rattle.table_files.specs.declared.reading.TableFile.{TableFile}
use Rattle.table_files.specs.declared.reading.FileFault.{FileFault}
use Rattle.table_files.specs.declared.reading.FileFault.TheVariants.{NoStdHeader, BadContent, BadSubtype, BadSpacecraft, BadProcessor, NoTableHeader, Incomplete, TooBig}

-- a parsed file with its image bytes
abbrev pub with_image : TableFile → List ℕ → spec.TableFile
with_image file image = record { offset = file.offset; name = file.name; image = image }

-- the flaw that a fault names
abbrev pub flaw_of : FileFault → FileFlaw
flaw_of NoStdHeader = no_std_header
flaw_of BadContent = bad_content
flaw_of BadSubtype = bad_subtype
flaw_of (BadSpacecraft id) = bad_spacecraft id
flaw_of (BadProcessor id) = bad_processor id
flaw_of NoTableHeader = no_table_header
flaw_of Incomplete = incomplete
flaw_of TooBig = too_big
