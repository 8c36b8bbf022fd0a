-- What describing a file by a shape answers.
use Rattle.std.specs.Prelude.{◌≡◌, ℕ, ◌+◌, ◌==◌, Bool, ◌&&◌, nat_lt, nat_le, if◌then◌else◌, List, length, is_none, Option, Some, None, Result, true, false, IfOk, IfErr, OnOk, IfSome, IfNone, OnSome}
use Rattle.tbl_kinds.specs.Limits.{table_limit}
use Rattle.tbl_kinds.specs.Admitted.{all_admitted}
use Rattle.tbl_kinds.specs.Buffers.{Buffer}
use Rattle.tbl_kinds.specs.TableFiles.{TableFile, file_flaw, table_file_in}
use Rattle.table_files.specs.Files.{with_image}
use Rattle.table_files.specs.declared.reading.TableFile.{TableFile as ParsedFile}
use Rattle.tbl_maker.specs.Names.{is_full_name}
use Rattle.tbl_maker.specs.Shapes.{shape_size}
use Rattle.tbl_maker.specs.Descriptions.{Description, IsDescription, shape_of, contents_of, text_of}
use Rattle.tbl_maker.specs.declared.form.Form.{Form}
use Rattle.tbl_maker.specs.declared.describing.DescribeFault.{DescribeFault}
use Rattle.tbl_maker.specs.declared.describing.DescribeFault.TheVariants.{File, Length, Memory}

-- one byte or more for a table of a full name, that end within the largest table
abbrev pub has_description : TableFile → Bool
has_description file = is_full_name file.name && nat_lt 0 (length file.image) && nat_le (file.offset + length file.image) table_limit

-- the bytes are a table file of whatever spacecraft and processor, and it can be described
abbrev pub is_describable : List ℕ → Bool
is_describable bytes = is_none (file_flaw all_admitted bytes) && has_description (table_file_in bytes)

-- how many image bytes the file has
abbrev pub count_in : List ℕ → ℕ
count_in bytes = length (table_file_in bytes).image

-- why a file isn't described by a shape, if it isn't
abbrev pub describe_fault : List Form → List ℕ → Option DescribeFault
describe_fault shape bytes =
    if is_describable bytes
    then (if shape_size shape == count_in bytes then None else Some (Length (shape_size shape) (count_in bytes)))
    else Some File

-- the fault is this one, where memory didn't run out
abbrev pub IsFault : Option DescribeFault → DescribeFault → Type 0
IsFault fault Memory = Unit {0}
IsFault fault File = fault ≡ Some File
IsFault fault (Length need have) = fault ≡ Some (Length need have)

-- the text is that of the description of this shape that tells what the file tells
pub record IsDescribedBy (shape : List Form) (bytes text : List ℕ) : Type 0 where
  pub description : Description
  pub is_description : IsDescription description
  pub shape_is : shape_of description ≡ shape
  pub contents_are : contents_of description ≡ table_file_in bytes
  pub text_is : text ≡ text_of description

-- a table file that can be described is found with its image bytes
pub record FindsContents {R : Type 0} (now : R → List ℕ) (bytes : List ℕ) (result : Option (ParsedFile × R)) : Type 0 where
  pub contents : IfSome result (λ found. with_image found.0 (now found.1) ≡ table_file_in bytes)
  pub some : OnSome result (is_describable bytes ≡ true)
  pub count : IfSome result (λ found. found.0.count ≡ length (now found.1))
  pub none : IfNone result (is_describable bytes ≡ false)

-- a file is described by a shape, or it is told why it isn't
pub record DescribesByShape (shape : List Form) (bytes : List ℕ) (result : Result Buffer DescribeFault) : Type 0 where
  pub described : IfOk result (λ text. IsDescribedBy shape bytes text.list)
  pub ok : OnOk result (describe_fault shape bytes ≡ None)
  pub fault : IfErr result (λ fault. IsFault (describe_fault shape bytes) fault)
