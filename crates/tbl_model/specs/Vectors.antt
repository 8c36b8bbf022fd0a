-- What the definitions say of sessions that are written out: each line is computed by the checker.
use Rattle.std.specs.Prelude.{◌≡◌, ℕ, List, [], ◌∷◌, ◌++◌, take, replicate, refl, codes}
use Rattle.std.proofs.Common.{sym}
use Rattle.tbl_kinds.specs.Admitted.{all_admitted}
use Rattle.tbl_kinds.specs.Headers.{file_header}
use Rattle.tbl_kinds.specs.TableFiles.{file_with, table_file}
use Rattle.tbl_kinds.specs.Packets.{primary_header, telemetry_packet}
use Rattle.tbl_kinds.specs.Telemetry.{event_body, housekeeping_body, commands_and_loads, last_validation, validations_and_buffers, last_update}
use Rattle.tbl_kinds.specs.Records.{spelling}
use Rattle.tbl_kinds.specs.Transcript.{entry_spelling, end_bytes, transcript}
use Rattle.tbl_kinds.specs.GroundCommands.{command_in}
use Rattle.tbl_kinds.specs.Vectors.{noop, ask_housekeeping, command}
use Rattle.tbl_kinds.specs.declared.entry.Entry.{Entry}
use Rattle.tbl_kinds.specs.declared.request.Actor.TheVariants.{Ground}
use Rattle.tbl_kinds.specs.declared.request.ResetKind.{ResetKind}
use Rattle.tbl_kinds.specs.declared.status.TheConstants.Status.{SUCCESS, ERR_BAD_PACKET, ERR_BAD_MESSAGE_ID, ERR_BAD_CODE, ERR_BAD_LENGTH, ERR_NO_TBL_HEADER, ERR_NO_SUCH_TABLE, ERR_BAD_SPACECRAFT_ID, ERR_BAD_PROCESSOR_ID}
use Rattle.tbl_model.specs.State.{State, first_state}
use Rattle.tbl_model.specs.Effects.{answered}
use Rattle.tbl_model.specs.GroundLoads.{load_effect, load_file_effect}
use Rattle.tbl_model.specs.Boots.{reset_effect}
use Rattle.tbl_model.specs.Commands.{command_effect}
use Rattle.tbl_model.specs.Dumps.{housekeeping_effect, dumps_ended}
use Rattle.tbl_model.specs.StoreNotes.{IsNoteOf}
use Rattle.tbl_model.specs.Counts.{Told, counts_of}
use Rattle.tbl_model.specs.Replies.{head_at, packets_of}
use Rattle.tbl_kinds.specs.Notes.{untouched}
use Rattle.tbl_kinds.specs.Given.{nothing_given}
use Rattle.tbl_model.specs.History.{Run, begins_at, onward, run_from, IsAnswered, IsLegal, told}

-- ---- a session of the two commands

abbrev pub start : State
start = first_state [] [] all_admitted

abbrev pub entry : List ℕ → List ℕ → Entry
entry bytes packets = record {
  actor = Ground;
  request = command bytes;
  reply = record { status = SUCCESS; detail = 0; bytes = record { list = []; spare = 0 }; packets = record { list = packets; spare = 0 } };
  given = nothing_given;
}

-- event 1 with status 0, no row and detail 0, at time 0
abbrev pub noop_event : List ℕ
noop_event =
    0x08 ∷ 0x08 ∷ 0xC0 ∷ 0x00 ∷ 0x00 ∷ 0x11 ∷ 0 ∷ 0 ∷ 0 ∷ 0 ∷ 0 ∷ 0 ∷ []
    ++ 0 ∷ 1 ∷ 0 ∷ 0 ∷ 0 ∷ 0 ∷ 0xFF ∷ 0xFF ∷ 0 ∷ 0 ∷ 0 ∷ 0 ∷ []

-- one command accepted, four shared buffers free, and else nothing to tell
abbrev pub housekeeping_after_noop : List ℕ
housekeeping_after_noop =
    0x08 ∷ 0x04 ∷ 0xC0 ∷ 0x00 ∷ 0x01 ∷ 0x1B ∷ 0 ∷ 0 ∷ 0 ∷ 0 ∷ 0 ∷ 0 ∷ []
    ++ 1 ∷ replicate 19 0 ++ 4 ∷ replicate 257 0

abbrev pub first_entry : Entry
first_entry = entry noop noop_event

abbrev pub second_entry : Entry
second_entry = entry ask_housekeeping housekeeping_after_noop

abbrev pub second_run : Run
second_run = onward (begins_at start) first_entry

-- both leave the state
abbrev pub noop_told : Told
noop_told = told start Ground (command noop) (answered start SUCCESS 0)

abbrev pub housekeeping_told : Told
housekeeping_told = told start Ground (command ask_housekeeping) (housekeeping_effect start)

pub noop_is_told : packets_of [] noop_told ≡ noop_event
unfolding packets_of counts_of command_in telemetry_packet primary_header event_body
noop_is_told = refl

pub housekeeping_is_told : packets_of (noop_told ∷ []) housekeeping_told ≡ housekeeping_after_noop
unfolding packets_of counts_of command_in telemetry_packet primary_header housekeeping_body commands_and_loads last_validation validations_and_buffers last_update housekeeping_effect dumps_ended
housekeeping_is_told = refl

-- no call of the store was made, and the note says so
pub no_call : (bytes : List ℕ) → IsNoteOf (command bytes) [] [] untouched
no_call bytes = record { ends = (refl, refl, (refl, refl)); gave = tt; tells = (refl, refl); boots = (refl, refl, refl) }

pub first_is_answered : IsAnswered (begins_at start) first_entry
unfolding command_in
first_is_answered = record { live = refl; fits = tt; given = record { note = no_call noop; verdicts = refl }; effect = noop_told.effect; effect_is = refl; status = refl; detail = refl; bytes = refl; packets = sym noop_is_told }

pub second_is_answered : IsAnswered second_run second_entry
unfolding command_in housekeeping_effect dumps_ended
second_is_answered = record { live = refl; fits = tt; given = record { note = no_call ask_housekeeping; verdicts = refl }; effect = housekeeping_told.effect; effect_is = refl; status = refl; detail = refl; bytes = refl; packets = sym housekeeping_is_told }

-- the two entries are a legal history, which leaves the state
pub session_is_legal : IsLegal start (first_entry ∷ second_entry ∷ []) start
unfolding command_in housekeeping_effect dumps_ended
session_is_legal = record { answered = (first_is_answered, (second_is_answered, tt)); leads = refl }

pub session_is_written : transcript (first_entry ∷ second_entry ∷ []) 0
    ≡ 0 ∷ 0 ∷ 0 ∷ 0 ∷ 0 ∷ 0 ∷ 0 ∷ 0 ∷ 0 ∷ 0 ∷ 0 ∷ 0 ∷ 0 ∷ 0 ∷ 0 ∷ 0 ∷ 0 ∷ 0 ∷ 0 ∷ 0 ∷ 0x18 ∷ noop_event
    ++ 0 ∷ 0 ∷ 0 ∷ 1 ∷ 0 ∷ 0 ∷ 0 ∷ 0 ∷ 0 ∷ 0 ∷ 0 ∷ 0 ∷ 0 ∷ 0 ∷ 0 ∷ 0 ∷ 0 ∷ 0 ∷ 0 ∷ 0x01 ∷ 0x22 ∷ housekeeping_after_noop
    ++ 0xFF ∷ 0xFF ∷ 0xFF ∷ 0xFF ∷ 0 ∷ 0 ∷ 0 ∷ 0 ∷ 2 ∷ 0 ∷ 0 ∷ 0 ∷ 0x18 ∷ []
unfolding entry_spelling end_bytes spelling
session_is_written = refl

pub empty_session_is_written : transcript [] 0 ≡ 0xFF ∷ 0xFF ∷ 0xFF ∷ 0xFF ∷ 0 ∷ 0 ∷ 0 ∷ 0 ∷ 0 ∷ 0 ∷ 0 ∷ 0 ∷ 0 ∷ []
unfolding end_bytes
empty_session_is_written = refl

-- ---- refusals

abbrev pub seven_bytes : List ℕ
seven_bytes = 0x18 ∷ 0x04 ∷ 0xC0 ∷ 0x00 ∷ 0x00 ∷ 0x00 ∷ 0x00 ∷ []

-- one byte more than the length field states
abbrev pub nine_bytes : List ℕ
nine_bytes = 0x18 ∷ 0x04 ∷ 0xC0 ∷ 0x00 ∷ 0x00 ∷ 0x01 ∷ 0x00 ∷ 0x22 ∷ 0x00 ∷ []

-- a check byte that is one too high
abbrev pub wrong_check : List ℕ
wrong_check = 0x18 ∷ 0x04 ∷ 0xC0 ∷ 0x00 ∷ 0x00 ∷ 0x01 ∷ 0x00 ∷ 0x23 ∷ []

pub short_packet : command_effect start seven_bytes untouched ≡ answered start ERR_BAD_PACKET 1
unfolding command_in
short_packet = refl

pub packet_of_another_length : command_effect start nine_bytes untouched ≡ answered start ERR_BAD_PACKET 2
unfolding command_in
packet_of_another_length = refl

pub packet_with_wrong_check : command_effect start wrong_check untouched ≡ answered start ERR_BAD_PACKET 3
unfolding command_in
packet_with_wrong_check = refl

-- function code 10
pub unknown_code : command_effect start (0x18 ∷ 0x04 ∷ 0xC0 ∷ 0x00 ∷ 0x00 ∷ 0x01 ∷ 0x0A ∷ 0x28 ∷ []) untouched ≡ answered start ERR_BAD_CODE 10
unfolding command_in
unknown_code = refl

-- another message id
pub unknown_id : command_effect start (0x18 ∷ 0x06 ∷ 0xC0 ∷ 0x00 ∷ 0x00 ∷ 0x01 ∷ 0x00 ∷ 0x20 ∷ []) untouched ≡ answered start ERR_BAD_MESSAGE_ID 0x1806
unfolding command_in
unknown_id = refl

-- a NOOP with a payload of one byte
pub noop_with_payload : command_effect start (0x18 ∷ 0x04 ∷ 0xC0 ∷ 0x00 ∷ 0x00 ∷ 0x02 ∷ 0x00 ∷ 0x21 ∷ 0x00 ∷ []) untouched ≡ answered start ERR_BAD_LENGTH 1
unfolding command_in
noop_with_payload = refl

-- the three refused packets one after another count as refused and not as accepted
abbrev pub three_refused : List Told
three_refused = (run_from (begins_at start) (entry seven_bytes [] ∷ entry nine_bytes [] ∷ entry wrong_check [] ∷ [])).past

pub three_are_refused : (counts_of three_refused).refused ≡ 3
unfolding counts_of command_in
three_are_refused = refl

pub none_is_accepted : (counts_of three_refused).accepted ≡ 0
unfolding counts_of command_in
none_is_accepted = refl

-- ---- files of admitted spacecraft and processors

-- a file of the table A.T, with one image byte
abbrev pub file_of : ℕ → ℕ → List ℕ
file_of spacecraft processor = table_file (record { subtype = 8; length = 64; spacecraft = spacecraft; processor = processor; application = 0; seconds = 0; sub = 0; description = replicate 32 0 })
    (record { offset = 0; name = codes "A.T"; image = 7 ∷ [] })

-- spacecraft 66 with the processors 1 and 2, and this file in the drawer
abbrev pub with_file : List ℕ → State
with_file contents = record start { admit = record { spacecraft = 66 ∷ []; processor = 1 ∷ 2 ∷ [] }; drawer = (codes "/t", contents) ∷ [] }

pub another_spacecraft : load_effect (with_file (file_of 67 1)) (codes "/t") ≡ answered (with_file (file_of 67 1)) ERR_BAD_SPACECRAFT_ID 67
unfolding load_effect file_header file_with
another_spacecraft = refl

pub another_processor : load_effect (with_file (file_of 66 3)) (codes "/t") ≡ answered (with_file (file_of 66 3)) ERR_BAD_PROCESSOR_ID 3
unfolding load_effect file_header file_with
another_processor = refl

-- the spacecraft goes before the processor
pub both_are_others : load_effect (with_file (file_of 67 3)) (codes "/t") ≡ answered (with_file (file_of 67 3)) ERR_BAD_SPACECRAFT_ID 67
unfolding load_effect file_header file_with
both_are_others = refl

-- the next test is whether the table is there
pub both_are_admitted : load_effect (with_file (file_of 66 2)) (codes "/t") ≡ answered (with_file (file_of 66 2)) ERR_NO_SUCH_TABLE 0
unfolding load_effect load_file_effect file_header file_with
both_are_admitted = refl

-- a header alone is judged by its identifiers before the table file header that isn't there
pub header_of_another_spacecraft : load_effect (with_file (take 64 (file_of 67 1))) (codes "/t") ≡ answered (with_file (take 64 (file_of 67 1))) ERR_BAD_SPACECRAFT_ID 67
unfolding load_effect file_header file_with
header_of_another_spacecraft = refl

pub header_alone : load_effect (with_file (take 64 (file_of 66 1))) (codes "/t") ≡ answered (with_file (take 64 (file_of 66 1))) ERR_NO_TBL_HEADER 0
unfolding load_effect file_header file_with
header_alone = refl

-- without lists all are admitted
abbrev pub without_lists : State
without_lists = record (with_file (file_of 67 3)) { admit = all_admitted }

pub empty_lists_admit_all : load_effect without_lists (codes "/t") ≡ answered without_lists ERR_NO_SUCH_TABLE 0
unfolding load_effect load_file_effect file_header file_with
empty_lists_admit_all = refl

-- and the lists stay at each reset
pub lists_stay : (kind : ResetKind) (contents : List ℕ) → (reset_effect (with_file contents) kind untouched).next.admit ≡ (with_file contents).admit
lists_stay kind contents = refl

-- ---- counts

pub counter_at_its_end : (counts_of (replicate 255 noop_told)).accepted ≡ 255
unfolding counts_of command_in
counter_at_its_end = refl

pub counter_begins_again : (counts_of (replicate 256 noop_told)).accepted ≡ 0
unfolding counts_of command_in
counter_begins_again = refl

pub sequence_count_begins_again : head_at 0 0 16384 ≡ record { count = 0; seconds = 0; sub = 0 }
sequence_count_begins_again = refl
