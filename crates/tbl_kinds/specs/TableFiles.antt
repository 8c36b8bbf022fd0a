-- Table files: the cFE file header, the table file header (cFE's `CFE_TBL_File_Hdr_t`), and the image bytes.
use Rattle.std.specs.Prelude.{◌≡◌, ℕ, ◌+◌, ◌<◌, ◌≤◌, ◌^◌, ◌==◌, List, ◌++◌, length, drop, not, nat_lt, if◌then◌else◌, Option, Some, None}
use Rattle.tbl_kinds.specs.Numbers.{four, piece, four_at}
use Rattle.tbl_kinds.specs.Names.{name_in, name_field, HasNoZero}
use Rattle.tbl_kinds.specs.Fields.{ReadsAs}
use Rattle.tbl_kinds.specs.Headers.{Header, IsHeader, content_type, header_len, file_header}
use Rattle.tbl_kinds.specs.Admitted.{Admitted, Admits, is_admitted}
use Rattle.tbl_kinds.specs.declared.status.Status.{Status}
use Rattle.tbl_kinds.specs.declared.status.TheConstants.Status.{ERR_NO_STD_HEADER, ERR_BAD_CONTENT_ID, ERR_BAD_SUBTYPE_ID, ERR_BAD_SPACECRAFT_ID, ERR_BAD_PROCESSOR_ID, ERR_NO_TBL_HEADER, ERR_LOAD_INCOMPLETE, ERR_FILE_TOO_LARGE}

-- what a table file tells: where in its table's image its bytes belong, the table's full name, and the bytes
pub record TableFile : Type 0 where
  pub offset : ℕ
  pub name : List ℕ
  pub image : List ℕ

-- the subtype of a table file's header
abbrev pub table_subtype : ℕ
table_subtype = 8

-- where the image bytes begin
abbrev pub image_place : ℕ
image_place = 116

-- the header, four reserved bytes, the offset, the number of image bytes, the name field, and the image bytes
unfoldable pub file_with : Header → List ℕ → ℕ → List ℕ → List ℕ → List ℕ
file_with header reserved offset field image =
    file_header header ++ (reserved ++ (four offset ++ (four (length image) ++ (field ++ image))))

-- a written file has reserved zeros, and zeros after the name
abbrev pub table_file : Header → TableFile → List ℕ
table_file header file = file_with header (four 0) file.offset (name_field 40 file.name) file.image

-- the header is that of a table file, the numbers fit their fields, and the name is one that a field can hold
pub record IsWritable (header : Header) (file : TableFile) : Type 0 where
  pub is_header : IsHeader header
  pub subtype : header.subtype ≡ table_subtype
  pub offset_fits : file.offset < 2 ^ 32
  pub image_fits : length file.image < 2 ^ 32
  pub name_fits : length file.name ≤ 40
  pub no_zero : HasNoZero file.name

-- the bytes are a table file that tells this, of a spacecraft and a processor that are admitted. The rest of its header, the reserved bytes and what stands in the name field after the name's zero are free
pub record IsTableFile (admit : Admitted) (bytes : List ℕ) (file : TableFile) : Type 0 where
  pub header : Header
  pub reserved : List ℕ
  pub field : List ℕ
  pub parts : bytes ≡ file_with header reserved file.offset field file.image
  pub is_header : IsHeader header
  pub subtype : header.subtype ≡ table_subtype
  pub admitted : Admits admit header
  pub reserved_len : length reserved ≡ 4
  pub name : ReadsAs 40 file.name field
  pub offset_fits : file.offset < 2 ^ 32
  pub image_fits : length file.image < 2 ^ 32

-- ---- reading by places

-- the spacecraft and the processor that the file states
abbrev pub spacecraft_in : List ℕ → ℕ
spacecraft_in bytes = four_at 12 bytes

abbrev pub processor_in : List ℕ → ℕ
processor_in bytes = four_at 16 bytes

-- the number of image bytes that the file states
abbrev pub stated_count : List ℕ → ℕ
stated_count bytes = four_at 72 bytes

-- what a file without a flaw tells
abbrev pub table_file_in : List ℕ → TableFile
table_file_in bytes = record {
  offset = four_at 68 bytes;
  name = name_in (piece 76 40 bytes);
  image = drop image_place bytes;
}

-- what is wrong with a table file, in the order tested; with an identifier that isn't admitted comes the identifier
pub data FileFlaw : Type 0 where
  no_std_header : FileFlaw
  bad_content : FileFlaw
  bad_subtype : FileFlaw
  bad_spacecraft : ℕ → FileFlaw
  bad_processor : ℕ → FileFlaw
  no_table_header : FileFlaw
  incomplete : FileFlaw
  too_big : FileFlaw

abbrev pub file_flaw : Admitted → List ℕ → Option FileFlaw
file_flaw admit bytes =
    if nat_lt (length bytes) header_len then Some no_std_header
    else (if not (four_at 0 bytes == content_type) then Some bad_content
    else (if not (four_at 4 bytes == table_subtype) then Some bad_subtype
    else (if not (is_admitted admit.spacecraft (spacecraft_in bytes)) then Some (bad_spacecraft (spacecraft_in bytes))
    else (if not (is_admitted admit.processor (processor_in bytes)) then Some (bad_processor (processor_in bytes))
    else (if nat_lt (length bytes) image_place then Some no_table_header
    else (if nat_lt (length bytes) (image_place + stated_count bytes) then Some incomplete
    else (if nat_lt (image_place + stated_count bytes) (length bytes) then Some too_big
    else None)))))))

-- the status that refuses a load from such a file
abbrev pub file_status : FileFlaw → Status
file_status no_std_header = ERR_NO_STD_HEADER
file_status bad_content = ERR_BAD_CONTENT_ID
file_status bad_subtype = ERR_BAD_SUBTYPE_ID
file_status (bad_spacecraft id) = ERR_BAD_SPACECRAFT_ID
file_status (bad_processor id) = ERR_BAD_PROCESSOR_ID
file_status no_table_header = ERR_NO_TBL_HEADER
file_status incomplete = ERR_LOAD_INCOMPLETE
file_status too_big = ERR_FILE_TOO_LARGE

-- and its detail: an identifier that isn't admitted
abbrev pub file_detail : FileFlaw → ℕ
file_detail no_std_header = 0
file_detail bad_content = 0
file_detail bad_subtype = 0
file_detail (bad_spacecraft id) = id
file_detail (bad_processor id) = id
file_detail no_table_header = 0
file_detail incomplete = 0
file_detail too_big = 0
