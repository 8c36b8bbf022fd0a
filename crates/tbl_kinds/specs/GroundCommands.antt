-- What a command packet reads as: a ground command, or the refusal of its form.
use Rattle.std.specs.Prelude.{◌≡◌, ℕ, ◌<◌, ◌≤◌, ◌^◌, ◌==◌, List, [], ◌∷◌, ◌++◌, length, Bool, true, not, if◌then◌else◌, IsTrue, Option, Some, None, IfSome, Result, Ok, Err, slice_get}
use Rattle.std.specs.Option.{option_map}
use Rattle.tbl_kinds.specs.Numbers.{two, piece, two_at}
use Rattle.tbl_kinds.specs.Names.{is_name, name_in, name_field}
use Rattle.tbl_kinds.specs.Fields.{ReadsAs}
use Rattle.tbl_kinds.specs.Packets.{IsCommandPacket, PacketFlaw, short, bad_length, bad_check, packet_flaw, packet_id, packet_code, packet_payload, command_packet, command_id, housekeeping_request_id}
use Rattle.tbl_kinds.specs.declared.entry.Answer.{Answer}
use Rattle.tbl_kinds.specs.declared.status.Status.{Status}
use Rattle.tbl_kinds.specs.declared.status.TheConstants.Status.{ERR_BAD_PACKET, ERR_BAD_MESSAGE_ID, ERR_BAD_CODE, ERR_BAD_LENGTH, ERR_BAD_NAME}

pub data GroundCommand : Type 0 where
  housekeeping : GroundCommand
  noop : GroundCommand
  reset_counters : GroundCommand
  load : (file : List ℕ) → GroundCommand
  dump : (select : ℕ) (table file : List ℕ) → GroundCommand
  validate : (select : ℕ) (table : List ℕ) → GroundCommand
  activate : (table : List ℕ) → GroundCommand
  dump_registry : (file : List ℕ) → GroundCommand
  send_registry : (table : List ℕ) → GroundCommand
  delete_cds : (table : List ℕ) → GroundCommand
  abort : (table : List ℕ) → GroundCommand

-- ---- what each command's payload is

-- the name in the field of this width at a place of the payload
abbrev pub name_at : ℕ → ℕ → List ℕ → List ℕ
name_at place width payload = name_in (piece place width payload)

-- how many bytes a command's payload has, and what it reads as
pub record Form : Type 0 where
  pub len : ℕ
  pub reads : List ℕ → GroundCommand

-- the commands of message id 0x1804, by their function codes from 0 on
abbrev pub forms : List Form
forms =
    record { len = 0; reads = λ payload. noop }
    ∷ record { len = 0; reads = λ payload. reset_counters }
    ∷ record { len = 64; reads = λ payload. load (name_at 0 64 payload) }
    ∷ record { len = 106; reads = λ payload. dump (two_at 0 payload) (name_at 2 40 payload) (name_at 42 64 payload) }
    ∷ record { len = 42; reads = λ payload. validate (two_at 0 payload) (name_at 2 40 payload) }
    ∷ record { len = 40; reads = λ payload. activate (name_at 0 40 payload) }
    ∷ record { len = 64; reads = λ payload. dump_registry (name_at 0 64 payload) }
    ∷ record { len = 40; reads = λ payload. send_registry (name_at 0 40 payload) }
    ∷ record { len = 40; reads = λ payload. delete_cds (name_at 0 40 payload) }
    ∷ record { len = 40; reads = λ payload. abort (name_at 0 40 payload) }
    ∷ []

-- a housekeeping request has a message id of its own
abbrev pub housekeeping_form : Form
housekeeping_form = record { len = 0; reads = λ payload. housekeeping }

-- the length of the payload by the function code, none where there is no such command
abbrev pub payload_len : ℕ → Option ℕ
payload_len code = option_map (λ form. form.len) (slice_get forms code)

-- ---- what a command names

abbrev pub select_of : GroundCommand → Option ℕ
select_of (dump select table file) = Some select
select_of (validate select table) = Some select
select_of _ = None

abbrev pub table_of : GroundCommand → Option (List ℕ)
table_of (dump select table file) = Some table
table_of (validate select table) = Some table
table_of (activate table) = Some table
table_of (send_registry table) = Some table
table_of (delete_cds table) = Some table
table_of (abort table) = Some table
table_of _ = None

abbrev pub file_of : GroundCommand → Option (List ℕ)
file_of (load file) = Some file
file_of (dump select table file) = Some file
file_of (dump_registry file) = Some file
file_of _ = None

-- ---- a packet is read, or refused by the first test that fails

abbrev pub refused : Status → ℕ → Result GroundCommand Answer
refused status detail = Err (record { status = status; detail = detail })

-- a name that stands there is one
abbrev pub is_named : Option (List ℕ) → Bool
is_named None = true
is_named (Some name) = is_name name

abbrev pub with_names : GroundCommand → Result GroundCommand Answer
with_names command =
    if not (is_named (table_of command)) then refused ERR_BAD_NAME 1
    else (if not (is_named (file_of command)) then refused ERR_BAD_NAME 2
    else Ok command)

abbrev pub by_form : Form → List ℕ → Result GroundCommand Answer
by_form form payload =
    if not (length payload == form.len) then refused ERR_BAD_LENGTH (length payload)
    else with_names (form.reads payload)

abbrev pub by_code : ℕ → Option Form → List ℕ → Result GroundCommand Answer
by_code code None payload = refused ERR_BAD_CODE code
by_code code (Some form) payload = by_form form payload

-- the function code of a housekeeping request isn't looked at
abbrev pub by_id : ℕ → ℕ → List ℕ → Result GroundCommand Answer
by_id id code payload =
    if id == housekeeping_request_id then by_form housekeeping_form payload
    else (if id == command_id then by_code code (slice_get forms code) payload
    else refused ERR_BAD_MESSAGE_ID id)

-- the detail that tells what is wrong with a packet
abbrev pub flaw_detail : PacketFlaw → ℕ
flaw_detail short = 1
flaw_detail bad_length = 2
flaw_detail bad_check = 3

abbrev pub by_flaw : Option PacketFlaw → List ℕ → Result GroundCommand Answer
by_flaw (Some flaw) bytes = refused ERR_BAD_PACKET (flaw_detail flaw)
by_flaw None bytes = by_id (packet_id bytes) (packet_code bytes) (packet_payload bytes)

unfoldable pub command_in : List ℕ → Result GroundCommand Answer
command_in bytes = by_flaw (packet_flaw bytes) bytes

-- ---- the bytes of a command

abbrev pub id_of : GroundCommand → ℕ
id_of housekeeping = housekeeping_request_id
id_of _ = command_id

-- a housekeeping request is written with function code 0
abbrev pub code_of : GroundCommand → ℕ
code_of housekeeping = 0
code_of noop = 0
code_of reset_counters = 1
code_of (load file) = 2
code_of (dump select table file) = 3
code_of (validate select table) = 4
code_of (activate table) = 5
code_of (dump_registry file) = 6
code_of (send_registry table) = 7
code_of (delete_cds table) = 8
code_of (abort table) = 9

abbrev pub select_field : Option ℕ → List ℕ
select_field None = []
select_field (Some select) = two select

abbrev pub written_field : ℕ → Option (List ℕ) → List ℕ
written_field width None = []
written_field width (Some name) = name_field width name

-- each payload is the selector, the table's name and the file's name, as far as the command has them
abbrev pub payload_of : GroundCommand → List ℕ
payload_of command = select_field (select_of command) ++ written_field 40 (table_of command) ++ written_field 64 (file_of command)

abbrev pub command_bytes : ℕ → GroundCommand → List ℕ
command_bytes count command = command_packet (id_of command) count (code_of command) (payload_of command)

-- the selector fits its field, and the names are names that fit theirs
pub record IsGroundCommand (command : GroundCommand) : Type 0 where
  pub select : IfSome (select_of command) (λ select. select < 2 ^ 16)
  pub table : IfSome (table_of command) (λ name. IsTrue (is_name name) × (length name ≤ 40))
  pub file : IfSome (file_of command) (λ name. IsTrue (is_name name) × (length name ≤ 64))

-- a field that reads as this name, or no field
abbrev pub ReadsAsOption : ℕ → Option (List ℕ) → List ℕ → Type 0
ReadsAsOption width None field = field ≡ []
ReadsAsOption width (Some name) field = ReadsAs width name field

-- the bytes are a packet of this command. What stands in a name field after the name's zero is free, and so is the function code of a housekeeping request
pub record SpellsCommand (bytes : List ℕ) (command : GroundCommand) : Type 0 where
  pub code : ℕ
  pub table_field : List ℕ
  pub file_field : List ℕ
  pub packet : IsCommandPacket bytes (id_of command) code (select_field (select_of command) ++ table_field ++ file_field)
  pub code_is : id_of command ≡ command_id → code ≡ code_of command
  pub table : ReadsAsOption 40 (table_of command) table_field
  pub file : ReadsAsOption 64 (file_of command) file_field
  pub is_command : IsGroundCommand command
