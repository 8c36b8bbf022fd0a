-- What the definitions say of bytes that are written out: each line is computed by the checker.
use Rattle.std.specs.Prelude.{◌≡◌, ℕ, List, [], ◌∷◌, ◌++◌, map, replicate, true, false, None, codes, refl}
use Rattle.std.specs.List.{range_with_len}
use Rattle.tbl_kinds.specs.Names.{name_in, name_field, is_name}
use Rattle.tbl_kinds.specs.Check.{check16, after_byte}
use Rattle.tbl_kinds.specs.Records.{spelling}
use Rattle.tbl_kinds.specs.declared.request.Actor.TheVariants.{Ground, App}
use Rattle.tbl_kinds.specs.declared.request.Request.{Request}
use Rattle.tbl_kinds.specs.declared.request.Request.TheVariants as ask
use Rattle.tbl_kinds.specs.declared.status.Status.{Status}
use Rattle.tbl_kinds.specs.declared.status.TheConstants.Status as the

-- ---- status numbers

abbrev pub numbers : List Status → List ℕ
numbers statuses = map (λ (s : Status). s.0) statuses

-- success and what informs, from 0
pub information : numbers (
    the.SUCCESS ∷ the.INFO_UPDATED ∷ the.INFO_RECOVERED_TBL ∷ the.INFO_UPDATE_PENDING ∷ the.INFO_VALIDATION_PENDING
    ∷ the.INFO_DUMP_PENDING ∷ the.INFO_NO_UPDATE_PENDING ∷ the.INFO_NO_VALIDATION_PENDING ∷ the.INFO_NO_DUMP_PENDING ∷ the.INFO_TABLE_LOCKED
    ∷ the.INFO_STOPPED ∷ the.INFO_CDS_EXISTS ∷ []
    ) ≡ range_with_len 0 12
information = refl

-- what warns, from 16
pub warnings : numbers (the.WARN_DUPLICATE ∷ the.WARN_NOT_CRITICAL ∷ []) ≡ range_with_len 16 2
warnings = refl

-- what refuses, from 32
pub refusals : numbers (
    the.ERR_BAD_APP ∷ the.ERR_INVALID_HANDLE ∷ the.ERR_NO_ACCESS ∷ the.ERR_UNREGISTERED ∷ the.ERR_INVALID_NAME ∷ the.ERR_INVALID_SIZE
    ∷ the.ERR_INVALID_OPTIONS ∷ the.ERR_NO_VALIDATOR ∷ the.ERR_DUPLICATE_NOT_OWNED ∷ the.ERR_DUPLICATE_DIFF_SIZE ∷ the.ERR_REGISTRY_FULL ∷ the.ERR_HANDLES_FULL
    ∷ the.ERR_DUMP_ONLY ∷ the.ERR_LOAD_IN_PROGRESS ∷ the.ERR_FILE_NOT_FOUND ∷ the.ERR_NO_STD_HEADER ∷ the.ERR_BAD_CONTENT_ID ∷ the.ERR_BAD_SUBTYPE_ID
    ∷ the.ERR_NO_TBL_HEADER ∷ the.ERR_LOAD_INCOMPLETE ∷ the.ERR_FILE_TOO_LARGE ∷ the.ERR_FILE_FOR_WRONG_TABLE ∷ the.ERR_PARTIAL_LOAD ∷ the.ERR_ZERO_LOAD
    ∷ the.ERR_PAST_END ∷ the.ERR_NO_BUFFER_AVAIL ∷ the.ERR_VALIDATION_FAILED ∷ the.ERR_ALREADY_PINNED ∷ the.ERR_NEVER_LOADED ∷ the.ERR_NOT_PINNED
    ∷ the.ERR_OUT_OF_RANGE ∷ the.ERR_NOT_DUMP_ONLY ∷ the.ERR_NO_SUCH_TABLE ∷ the.ERR_NO_LOAD ∷ the.ERR_NOT_VALIDATED ∷ the.ERR_UPDATE_PENDING
    ∷ the.ERR_VALIDATION_PENDING ∷ the.ERR_VALIDATIONS_FULL ∷ the.ERR_DUMP_PENDING ∷ the.ERR_DRAWER_FULL ∷ the.ERR_BAD_SELECT ∷ the.ERR_CDS_NOT_FOUND
    ∷ the.ERR_TABLE_ACTIVE ∷ the.ERR_CDS_NO_ROOM ∷ the.ERR_CDS_FAULT ∷ the.ERR_CDS_TORN ∷ the.ERR_NOTICE_ID ∷ the.ERR_APP_RUNNING
    ∷ the.ERR_BAD_PACKET ∷ the.ERR_BAD_MESSAGE_ID ∷ the.ERR_BAD_CODE ∷ the.ERR_BAD_LENGTH ∷ the.ERR_BAD_NAME ∷ the.ERR_BOOT_FAULT
    ∷ the.ERR_IMAGE_SIZE ∷ the.ERR_BAD_SPACECRAFT_ID ∷ the.ERR_BAD_PROCESSOR_ID ∷ []
    ) ≡ range_with_len 32 57
refusals = refl

-- ---- names

pub name_of_three : name_field 8 (codes "A.T") ≡ 0x41 ∷ 0x2E ∷ 0x54 ∷ 0 ∷ 0 ∷ 0 ∷ 0 ∷ 0 ∷ []
name_of_three = refl

pub end_of_a_name : name_in (0x41 ∷ 0x2E ∷ 0x54 ∷ 0 ∷ 0x7F ∷ 0x41 ∷ []) ≡ codes "A.T"
end_of_a_name = refl

pub full_field : name_in (0x41 ∷ 0x2E ∷ 0x54 ∷ []) ≡ codes "A.T"
full_field = refl

pub a_name : is_name (codes "!A.T~") ≡ true
a_name = refl

pub no_byte : is_name [] ≡ false
no_byte = refl

pub a_space : is_name (codes "A T") ≡ false
a_space = refl

pub a_delete : is_name (0x41 ∷ 0x7F ∷ []) ≡ false
a_delete = refl

-- ---- check words

pub check_of_none : check16 [] ≡ 0x0000
check_of_none = refl

pub check_of_digits : check16 (codes "123456789") ≡ 0xBB3D
unfolding after_byte
check_of_digits = refl

pub check_of_one_to_four : check16 (1 ∷ 2 ∷ 3 ∷ 4 ∷ []) ≡ 0x0FA1
unfolding after_byte
check_of_one_to_four = refl

pub check_of_half_of_each : check16 (5 ∷ 6 ∷ 7 ∷ 4 ∷ []) ≡ 0x3EE3
unfolding after_byte
check_of_half_of_each = refl

pub check_of_five_to_eight : check16 (5 ∷ 6 ∷ 7 ∷ 8 ∷ []) ≡ 0x3BE3
unfolding after_byte
check_of_five_to_eight = refl

-- ---- records

-- the NOOP command, and the command that asks for housekeeping
abbrev pub noop : List ℕ
noop = 0x18 ∷ 0x04 ∷ 0xC0 ∷ 0x00 ∷ 0x00 ∷ 0x01 ∷ 0x00 ∷ 0x22 ∷ []

abbrev pub ask_housekeeping : List ℕ
ask_housekeeping = 0x18 ∷ 0x0C ∷ 0xC0 ∷ 0x00 ∷ 0x00 ∷ 0x01 ∷ 0x00 ∷ 0x2A ∷ []

abbrev pub command : List ℕ → Request
command bytes = ask.Command (record { list = bytes; spare = 0 })

pub noop_record : spelling (record { actor = Ground; request = command noop }) ≡ 0x01 ∷ 0x00 ∷ 0x00 ∷ 0x08 ∷ noop
unfolding spelling
noop_record = refl

-- application 1 registers T of 4 bytes, critical, without a validator
pub register_record : spelling (record { actor = App 1; request = ask.Register (codes "T") 4 8 None })
    ≡ 0x11 ∷ 0x01 ∷ 0x00 ∷ 0x17 ∷ 0x54 ∷ replicate 15 0 ++ 0 ∷ 0 ∷ 0 ∷ 4 ∷ 0x00 ∷ 0x08 ∷ 0xFF ∷ []
unfolding spelling
register_record = refl
