-- Every packet of a command is read as that command.
use Rattle.std.proofs.Common.{◌≡◌, ℕ, ◌≤◌, true, List, ◌++◌, length, take, Option, Some, None, Ok, refl, sym, ap, ◌∙◌, eq-eqb, arith, ◌⊎◌, inl, inr}
use Rattle.std.specs.Prelude.{IsTrue, IfSome, slice_get}
use Rattle.std.proofs.lemmas.List.{length-append, take_at, drop_at, append-nil}
use Rattle.std.proofs.lemmas.Nat.{from_be_bytes-to_be_bytes_2}
use Rattle.std.proofs.Math.Seq.{take-length}
use Rattle.tbl_kinds.specs.Fields.{ReadsAs}
use Rattle.tbl_kinds.specs.Numbers.{two, two_at}
use Rattle.tbl_kinds.specs.Names.{is_name, name_in}
use Rattle.tbl_kinds.specs.Packets.{PacketFlaw, packet_flaw, packet_id, packet_code, packet_payload, command_id, housekeeping_request_id}
use Rattle.tbl_kinds.specs.GroundCommands.{GroundCommand, housekeeping, noop, reset_counters, load, dump, validate, activate, dump_registry, send_registry, delete_cds, abort, Form, forms, housekeeping_form, name_at, select_of, table_of, file_of, is_named, with_names, by_form, by_id, by_flaw, command_in, id_of, code_of, select_field, IsGroundCommand, ReadsAsOption, SpellsCommand}
use Rattle.cmd_packets.specs.Alike.{AreAlike}
use Rattle.cfe_headers.proofs.PacketLaws as packets

-- ---- the forms of payloads

-- no bytes
abbrev pub form_alone : GroundCommand → Form
form_alone command = record { len = 0; reads = λ payload. command }

-- a name field and no more
abbrev pub form_named : ℕ → (List ℕ → GroundCommand) → Form
form_named width make = record { len = width; reads = λ payload. make (name_at 0 width payload) }

abbrev pub form_dump : Form
form_dump = record { len = 106; reads = λ payload. dump (two_at 0 payload) (name_at 2 40 payload) (name_at 42 64 payload) }

abbrev pub form_validate : Form
form_validate = record { len = 42; reads = λ payload. validate (two_at 0 payload) (name_at 2 40 payload) }

-- ---- the tests that a command passes

named : (limit : ℕ) (name : Option (List ℕ)) → IfSome name (λ n. IsTrue (is_name n) × (length n ≤ limit)) → is_named name ≡ true
named limit None is = refl
named limit (Some name) is = is.0

with_names_ok : (command : GroundCommand) → IsGroundCommand command → with_names command ≡ Ok command
with_names_ok command is =
    let table = named 40 (table_of command) is.table in
    let file = named 64 (file_of command) is.file in
    rw (table, file) refl

by_form_ok : (form : Form) (payload : List ℕ) (command : GroundCommand) → length payload ≡ form.len → form.reads payload ≡ command → IsGroundCommand command → by_form form payload ≡ Ok command
by_form_ok form payload command len reads is = rw (eq-eqb _ _ len, reads) (with_names_ok command is)

-- the form of a function code
coded : (code n : ℕ) (form : Form) (payload : List ℕ) (command : GroundCommand) → code ≡ n → slice_get forms n ≡ Some form → by_form form payload ≡ Ok command → by_id command_id code payload ≡ Ok command
coded code n form payload command e at ok = rw (e, at) ok

-- ---- names at their places

name_alone : (width : ℕ) (name field : List ℕ) → ReadsAs width name field → name_at 0 width field ≡ name
name_alone width name field r = ap (λ (k : ℕ). name_in (take k field)) (sym r.len) ∙ ap name_in (take-length field) ∙ r.reads

name_first : (width : ℕ) (name field rest : List ℕ) → ReadsAs width name field → name_at 0 width (field ++ rest) ≡ name
name_first width name field rest r = ap name_in (take_at field rest width r.len) ∙ r.reads

name_behind : (place width : ℕ) (name front field : List ℕ) → length front ≡ place → ReadsAs width name field → name_at place width (front ++ field) ≡ name
name_behind place width name front field len r = ap (λ (s : List ℕ). name_at 0 width s) (drop_at front field place len) ∙ name_alone width name field r

-- ---- each command, from the fields of its payload

pub record Fields (command : GroundCommand) (table file : List ℕ) : Type 0 where
  pub table_is : ReadsAsOption 40 (table_of command) table
  pub file_is : ReadsAsOption 64 (file_of command) file
  pub is : IsGroundCommand command

-- a payload that is one name alone
by_name : (width : ℕ) (make : List ℕ → GroundCommand) (name field payload : List ℕ) → payload ≡ field → ReadsAs width name field → IsGroundCommand (make name)
    → by_form (form_named width make) payload ≡ Ok (make name)
by_name width make name field payload e r is =
    by_form_ok (form_named width make) payload (make name) (ap length e ∙ r.len) (ap (λ (s : List ℕ). make (name_at 0 width s)) e ∙ ap make (name_alone width name field r)) is

by_fields : (command : GroundCommand) (code : ℕ) (table file : List ℕ) → Fields command table file → (id_of command ≡ command_id → code ≡ code_of command)
    → by_id (id_of command) code (select_field (select_of command) ++ table ++ file) ≡ Ok command
by_fields housekeeping code table file f code-is = by_form_ok housekeeping_form (table ++ file) housekeeping (rw (f.table_is, f.file_is) refl) refl f.is
by_fields noop code table file f code-is = coded code 0 (form_alone noop) (table ++ file) noop (code-is refl) refl (by_form_ok (form_alone noop) (table ++ file) noop (rw (f.table_is, f.file_is) refl) refl f.is)
by_fields reset_counters code table file f code-is = coded code 1 (form_alone reset_counters) (table ++ file) reset_counters (code-is refl) refl (by_form_ok (form_alone reset_counters) (table ++ file) reset_counters (rw (f.table_is, f.file_is) refl) refl f.is)
by_fields (load name) code table file f code-is = coded code 2 (form_named 64 load) (table ++ file) (load name) (code-is refl) refl (by_name 64 load name file (table ++ file) (ap (λ (s : List ℕ). s ++ file) f.table_is) f.file_is f.is)
by_fields (dump select table-name file-name) code table file f code-is =
    let payload : List ℕ = two select ++ table ++ file in
    let len : length payload ≡ 106 = omega (arith, length-append table file, f.table_is.len, f.file_is.len) in
    let s : two_at 0 payload ≡ select = from_be_bytes-to_be_bytes_2 select f.is.select in
    let t : name_at 2 40 payload ≡ table-name = name_first 40 table-name table file f.table_is in
    let w : name_at 42 64 payload ≡ file-name = name_behind 40 64 file-name table file f.table_is.len f.file_is in
    coded code 3 form_dump payload (dump select table-name file-name) (code-is refl) refl (by_form_ok form_dump payload (dump select table-name file-name) len (rw (s, t, w) refl) f.is)
by_fields (validate select name) code table file f code-is =
    let payload : List ℕ = two select ++ table ++ file in
    let len : length payload ≡ 42 = omega (arith, length-append table file, f.table_is.len, ap length f.file_is) in
    let s : two_at 0 payload ≡ select = from_be_bytes-to_be_bytes_2 select f.is.select in
    let t : name_at 2 40 payload ≡ name = name_first 40 name table file f.table_is in
    coded code 4 form_validate payload (validate select name) (code-is refl) refl (by_form_ok form_validate payload (validate select name) len (rw (s, t) refl) f.is)
by_fields (activate name) code table file f code-is = coded code 5 (form_named 40 activate) (table ++ file) (activate name) (code-is refl) refl (by_name 40 activate name table (table ++ file) (ap (λ (s : List ℕ). table ++ s) f.file_is ∙ append-nil table) f.table_is f.is)
by_fields (dump_registry name) code table file f code-is = coded code 6 (form_named 64 dump_registry) (table ++ file) (dump_registry name) (code-is refl) refl (by_name 64 dump_registry name file (table ++ file) (ap (λ (s : List ℕ). s ++ file) f.table_is) f.file_is f.is)
by_fields (send_registry name) code table file f code-is = coded code 7 (form_named 40 send_registry) (table ++ file) (send_registry name) (code-is refl) refl (by_name 40 send_registry name table (table ++ file) (ap (λ (s : List ℕ). table ++ s) f.file_is ∙ append-nil table) f.table_is f.is)
by_fields (delete_cds name) code table file f code-is = coded code 8 (form_named 40 delete_cds) (table ++ file) (delete_cds name) (code-is refl) refl (by_name 40 delete_cds name table (table ++ file) (ap (λ (s : List ℕ). table ++ s) f.file_is ∙ append-nil table) f.table_is f.is)
by_fields (abort name) code table file f code-is = coded code 9 (form_named 40 abort) (table ++ file) (abort name) (code-is refl) refl (by_name 40 abort name table (table ++ file) (ap (λ (s : List ℕ). table ++ s) f.file_is ∙ append-nil table) f.table_is f.is)

pub commands_are_read : (bytes : List ℕ) (command : GroundCommand) → SpellsCommand bytes command → command_in bytes ≡ Ok command
unfolding command_in
commands_are_read bytes command s =
    let payload : List ℕ = select_field (select_of command) ++ s.table_field ++ s.file_field in
    let p = packets.packet_stands bytes (id_of command) s.code payload s.packet in
    ap (λ (flaw : Option PacketFlaw). by_flaw flaw bytes) (packets.accepted bytes (id_of command) s.code payload s.packet)
    ∙ ap (λ (n : ℕ). by_id n (packet_code bytes) (packet_payload bytes)) p.id_is
    ∙ ap (λ (n : ℕ). by_id (id_of command) n (packet_payload bytes)) p.code_is
    ∙ ap (λ (x : List ℕ). by_id (id_of command) s.code x) p.payload_is
    ∙ by_fields command s.code s.table_field s.file_field (record { table_is = s.table; file_is = s.file; is = s.is_command }) s.code_is

-- ---- what isn't looked at

same_parts : (flaw : Option PacketFlaw) (a b : List ℕ) → packet_id a ≡ packet_id b → (packet_id b ≡ housekeeping_request_id) ⊎ (packet_code a ≡ packet_code b) → packet_payload a ≡ packet_payload b
    → by_flaw flaw a ≡ by_flaw flaw b
same_parts (Some flaw) a b id code payload = refl
same_parts None a b id (inl request) payload =
    ap (λ (n : ℕ). by_id n (packet_code a) (packet_payload a)) (id ∙ request)
    ∙ ap (λ (x : List ℕ). by_form housekeeping_form x) payload
    ∙ sym (ap (λ (n : ℕ). by_id n (packet_code b) (packet_payload b)) request)
same_parts None a b id (inr code) payload =
    ap (λ (n : ℕ). by_id n (packet_code a) (packet_payload a)) id
    ∙ ap (λ (n : ℕ). by_id (packet_id b) n (packet_payload a)) code
    ∙ ap (λ (x : List ℕ). by_id (packet_id b) (packet_code b) x) payload

pub same_packet : (a b : List ℕ) → AreAlike a b → command_in a ≡ command_in b
unfolding command_in
same_packet a b alike = ap (λ (x : Option PacketFlaw). by_flaw x a) alike.flaw ∙ same_parts (packet_flaw b) a b alike.id alike.code alike.payload

pub same_payload : (form : Form) (a b : List ℕ) → length a ≡ length b → form.reads a ≡ form.reads b → by_form form a ≡ by_form form b
same_payload form a b len reads = rw (len, reads) refl
