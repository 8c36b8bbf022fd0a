-- What is read of table files, what is written, and what a reading depends on.
use Rattle.std.specs.Prelude.{◌≡◌, ℕ, ◌+◌, ◌≤◌, List, [], ◌++◌, ◌⊎◌, length, drop, None, Some, Result, Ok, Err}
use Rattle.tbl_kinds.specs.Admitted.{Admitted}
use Rattle.tbl_kinds.specs.Buffers.{Buffer}
use Rattle.tbl_kinds.specs.Headers.{Header}
use Rattle.tbl_kinds.specs.Names.{name_in}
use Rattle.tbl_kinds.specs.Numbers.{piece, four_at}
use Rattle.tbl_kinds.specs.TableFiles as spec
use Rattle.tbl_kinds.specs.TableFiles.{IsWritable, table_file, file_flaw, table_file_in, image_place, spacecraft_in, processor_in, stated_count}
use Rattle.table_files.specs.Files.{flaw_of, with_image}
use Rattle.table_files.specs.declared.reading.TableFile.{TableFile}
use Rattle.table_files.specs.declared.reading.FileFault.{FileFault}

-- the bytes are accepted, and read as this file
pub record IsReadAs (admit : Admitted) (file : spec.TableFile) (bytes : List ℕ) : Type 0 where
  pub accepted : file_flaw admit bytes ≡ None
  pub same : table_file_in bytes ≡ file

-- a file without a flaw tells its parts, and has just the image bytes that it states
pub record IsFileOf (admit : Admitted) (bytes : List ℕ) (read : TableFile) : Type 0 where
  pub ok : file_flaw admit bytes ≡ None
  pub file : with_image read (drop image_place bytes) ≡ table_file_in bytes
  pub count : image_place + read.count ≡ length bytes

-- what a reader answers: what the file tells, or its first flaw
abbrev pub GivesFile : Admitted → List ℕ → Result TableFile FileFault → Type 0
GivesFile admit bytes (Ok read) = IsFileOf admit bytes read
GivesFile admit bytes (Err fault) = file_flaw admit bytes ≡ Some (flaw_of fault)

-- this file was put after what was there, into reserved room, and is one that is read again
pub record AppendsFile (header : Header) (file : spec.TableFile) (old new : Buffer) : Type 0 where
  pub bytes : new.list ≡ old.list ++ table_file header file
  pub room : old.spare ≤ new.spare + (image_place + length file.image)
  pub len : length new.list ≡ length old.list + (image_place + length file.image)
  pub writable : IsWritable header file

-- two files with the same length, content type, subtype and number of image bytes, and the same identifiers where these are looked at
pub record AreAlike (admit : Admitted) (a b : List ℕ) : Type 0 where
  pub len : length a ≡ length b
  pub content : four_at 0 a ≡ four_at 0 b
  pub subtype : four_at 4 a ≡ four_at 4 b
  pub spacecraft : (admit.spacecraft ≡ []) ⊎ (spacecraft_in a ≡ spacecraft_in b)
  pub processor : (admit.processor ≡ []) ⊎ (processor_in a ≡ processor_in b)
  pub count : stated_count a ≡ stated_count b

-- two files with the same offset, name and image bytes
pub record TellTheSame (a b : List ℕ) : Type 0 where
  pub offset : four_at 68 a ≡ four_at 68 b
  pub name : name_in (piece 76 40 a) ≡ name_in (piece 76 40 b)
  pub image : drop image_place a ≡ drop image_place b
