-- The cFE file header, 64 bytes at the front of a file (cFE's `CFE_FS_Header_t`).
use Rattle.std.specs.Prelude.{◌≡◌, ℕ, ◌<◌, ◌^◌, ◌==◌, List, ◌++◌, length, not, nat_lt, if◌then◌else◌, Option, Some, None}
use Rattle.tbl_kinds.specs.Numbers.{four, piece, four_at}

pub record Header : Type 0 where
  pub subtype : ℕ
  pub length : ℕ
  pub spacecraft : ℕ
  pub processor : ℕ
  pub application : ℕ
  pub seconds : ℕ
  pub sub : ℕ
  pub description : List ℕ

-- the letters cFE1
abbrev pub content_type : ℕ
content_type = 0x63464531

abbrev pub header_len : ℕ
header_len = 64

abbrev pub description_len : ℕ
description_len = 32

-- the numbers fit their fields, and the description fills its own
pub record IsHeader (h : Header) : Type 0 where
  pub subtype_fits : h.subtype < 2 ^ 32
  pub length_fits : h.length < 2 ^ 32
  pub spacecraft_fits : h.spacecraft < 2 ^ 32
  pub processor_fits : h.processor < 2 ^ 32
  pub application_fits : h.application < 2 ^ 32
  pub seconds_fits : h.seconds < 2 ^ 32
  pub sub_fits : h.sub < 2 ^ 32
  pub description_fills : length h.description ≡ description_len

unfoldable pub file_header : Header → List ℕ
file_header h =
    four content_type ++ four h.subtype ++ four h.length ++ four h.spacecraft
    ++ four h.processor ++ four h.application ++ four h.seconds ++ four h.sub ++ h.description

-- what is wrong with a file's header, in the order tested
pub data HeaderFlaw : Type 0 where
  short_header : HeaderFlaw
  other_content : HeaderFlaw

abbrev pub header_flaw : List ℕ → Option HeaderFlaw
header_flaw bytes =
    if nat_lt (length bytes) header_len then Some short_header
    else (if not (four_at 0 bytes == content_type) then Some other_content
    else None)

-- what a header without a flaw tells
abbrev pub header_in : List ℕ → Header
header_in bytes = record {
  subtype = four_at 4 bytes;
  length = four_at 8 bytes;
  spacecraft = four_at 12 bytes;
  processor = four_at 16 bytes;
  application = four_at 20 bytes;
  seconds = four_at 24 bytes;
  sub = four_at 28 bytes;
  description = piece 32 description_len bytes;
}
