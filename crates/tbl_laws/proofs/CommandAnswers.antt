-- What a packet is refused with is a refusal, and no stop.
use Rattle.std.proofs.Common.{◌≡◌, ℕ, Bool, true, false, List, Option, Some, None, Result, Ok, Err, refl}
use Rattle.std.specs.Prelude.{◌==◌, not, length, if◌then◌else◌, slice_get}
use Rattle.tbl_kinds.specs.Packets.{PacketFlaw, packet_flaw, packet_id, packet_code, packet_payload, command_id, housekeeping_request_id}
use Rattle.tbl_kinds.specs.GroundCommands.{GroundCommand, Form, forms, housekeeping_form, table_of, file_of, is_named, refused, with_names, by_form, by_code, by_id, by_flaw, command_in}
use Rattle.tbl_model.proofs.RefusalAnswers.{is_refusal}
use Rattle.tbl_kinds.specs.declared.entry.Answer.{Answer}
use Rattle.tbl_kinds.specs.declared.status.TheConstants.Status.{ERR_BAD_MESSAGE_ID, ERR_BAD_LENGTH, ERR_BAD_NAME}

-- what a packet reads as is a refusal, or a command
abbrev pub CommandRefuses : Result GroundCommand Answer → Type 0
CommandRefuses (Ok command) = Unit {0}
CommandRefuses (Err answer) = is_refusal answer.status ≡ true

either : (b : Bool) (x y : Result GroundCommand Answer) → CommandRefuses x → CommandRefuses y → CommandRefuses (if b then x else y)
either true x y p q = p
either false x y p q = q

names_refuse : (command : GroundCommand) → CommandRefuses (with_names command)
names_refuse command =
    either (not (is_named (table_of command))) (refused ERR_BAD_NAME 1) _ refl
    (either (not (is_named (file_of command))) (refused ERR_BAD_NAME 2) (Ok command) refl tt)

form_refuses : (form : Form) (payload : List ℕ) → CommandRefuses (by_form form payload)
form_refuses form payload = either (not (length payload == form.len)) (refused ERR_BAD_LENGTH (length payload)) (with_names (form.reads payload)) refl (names_refuse (form.reads payload))

code_refuses : (code : ℕ) (form : Option Form) (payload : List ℕ) → CommandRefuses (by_code code form payload)
code_refuses code None payload = refl
code_refuses code (Some form) payload = form_refuses form payload

id_refuses : (id code : ℕ) (payload : List ℕ) → CommandRefuses (by_id id code payload)
id_refuses id code payload =
    either (id == housekeeping_request_id) (by_form housekeeping_form payload) _ (form_refuses housekeeping_form payload)
    (either (id == command_id) (by_code code (slice_get forms code) payload) (refused ERR_BAD_MESSAGE_ID id) (code_refuses code (slice_get forms code) payload) refl)

flaw_refuses : (flaw : Option PacketFlaw) (bytes : List ℕ) → CommandRefuses (by_flaw flaw bytes)
flaw_refuses (Some flaw) bytes = refl
flaw_refuses None bytes = id_refuses (packet_id bytes) (packet_code bytes) (packet_payload bytes)

pub command_refuses : (bytes : List ℕ) → CommandRefuses (command_in bytes)
unfolding command_in
command_refuses bytes = flaw_refuses (packet_flaw bytes) bytes
