-- Nothing else is read as a command, and a written command is one.
use Rattle.std.proofs.Common.{◌≡◌, ℕ, zero, suc, ◌+◌, ◌^◌, ◌<◌, ◌≤◌, Bool, true, false, not, cond, ◌&&◌, List, [], ◌++◌, length, take, drop, Option, Some, None, Result, Ok, Err, refl, sym, ap, subst, ◌∙◌, ◌⊎◌, inl, inr, arith}
use Rattle.std.specs.Prelude.{◌==◌, IsTrue, IfSome, slice_get}
use Rattle.std.specs.List.{list_all, position_or_len}
use Rattle.std.proofs.lemmas.Bool.{eqb-true}
use Rattle.std.proofs.lemmas.List.{length-append, length-take, length-drop, get_or-drop, append-nil, nil_from_length}
use Rattle.std.proofs.Math.Seq.{take-length}
use Rattle.tbl_kinds.specs.Fields.{AreBytes, ReadsAs}
use Rattle.tbl_kinds.specs.Numbers.{two, piece, two_at}
use Rattle.tbl_kinds.specs.Names.{is_printable_byte, is_name, is_zero, name_in}
use Rattle.tbl_kinds.specs.Packets.{IsCommandPacket, PacketFlaw, packet_flaw, packet_id, packet_code, packet_payload, command_id, housekeeping_request_id}
use Rattle.tbl_kinds.specs.GroundCommands.{GroundCommand, housekeeping, noop, reset_counters, load, dump, validate, activate, dump_registry, send_registry, delete_cds, abort, Form, forms, housekeeping_form, name_at, select_of, table_of, file_of, is_named, with_names, by_form, by_code, by_id, by_flaw, command_in, id_of, code_of, select_field, written_field, payload_of, command_bytes, IsGroundCommand, ReadsAsOption, SpellsCommand}
use Rattle.tbl_kinds.specs.declared.entry.Answer.{Answer}
use Rattle.cfe_headers.proofs.Chains.{not_false}
use Rattle.cfe_headers.proofs.Pieces.{two_below, split_two, split_piece, length-piece}
use Rattle.cfe_headers.proofs.NameFields.{reads-name_field}
use Rattle.cfe_headers.proofs.PacketLaws as packets
use Rattle.tbl_kinds.proofs.Names.{printable_no_zero}
use Rattle.cmd_packets.specs.Alike.{IsReadAs}
use Rattle.cmd_packets.proofs.ReadCommands.{form_alone, form_named, form_dump, form_validate, Fields, commands_are_read}

abbrev Read : Type 0
Read = Result GroundCommand Answer

-- ---- tests that passed

guard : (b : Bool) (answer : Answer) (rest : Read) (command : GroundCommand) → cond b (Err answer) rest ≡ Ok command → (b ≡ false) × (rest ≡ Ok command)
guard true answer rest command e = absurd cc
guard false answer rest command e = (refl, e)

chosen : (b : Bool) (x y z : Read) → cond b x y ≡ z → ((b ≡ true) × (x ≡ z)) ⊎ ((b ≡ false) × (y ≡ z))
chosen true x y z e = inl (refl, e)
chosen false x y z e = inr (refl, e)

abbrev refused_by : Answer → Read
refused_by answer = Err answer

abbrev done : GroundCommand → Read
done command = Ok command

ok_is : (a b : GroundCommand) → done a ≡ Ok b → a ≡ b
ok_is a b e = cc

-- what is known of what a form reads, where that is a command
record Formed (form : Form) (payload : List ℕ) : Type 0 where
  len : length payload ≡ form.len
  table : is_named (table_of (form.reads payload)) ≡ true
  file : is_named (file_of (form.reads payload)) ≡ true

formed : (form : Form) (payload : List ℕ) (command : GroundCommand) → by_form form payload ≡ Ok command → Formed form payload × (form.reads payload ≡ command)
formed form payload command e =
    let read = form.reads payload in
    let a = guard (not (length payload == form.len)) _ (with_names read) command e in
    let b = guard (not (is_named (table_of read))) _ _ command a.1 in
    let c = guard (not (is_named (file_of read))) _ (Ok read) command b.1 in (
      record {
        len = eqb-true (length payload) form.len (not_false _ a.0);
        table = not_false _ b.0;
        file = not_false _ c.0;
      },
      ok_is read command c.1,
    )

-- ---- what a payload spells

record Told (id code : ℕ) (payload : List ℕ) (command : GroundCommand) : Type 0 where
  id_is : id ≡ id_of command
  code_is : id_of command ≡ command_id → code ≡ code_of command
  table_field : List ℕ
  file_field : List ℕ
  parts : payload ≡ select_field (select_of command) ++ table_field ++ file_field
  fields : Fields command table_field file_field

length-name_in : (field : List ℕ) → length (name_in field) ≤ length field
length-name_in field = omega (arith, length-take (position_or_len is_zero field) field)

named_fits : (width : ℕ) (name : Option (List ℕ)) (field : List ℕ) → ReadsAsOption width name field → is_named name ≡ true → IfSome name (λ n. IsTrue (is_name n) × (length n ≤ width))
named_fits width None field r is = tt
named_fits width (Some name) field r is = (is, omega (arith, length-name_in field, ap length r.reads, r.len))

told : (code : ℕ) (payload : List ℕ) (command : GroundCommand) (table file : List ℕ) → command_id ≡ id_of command → code ≡ code_of command → payload ≡ select_field (select_of command) ++ table ++ file
    → ReadsAsOption 40 (table_of command) table → ReadsAsOption 64 (file_of command) file → IfSome (select_of command) (λ select. select < 2 ^ 16)
    → is_named (table_of command) ≡ true → is_named (file_of command) ≡ true → Told command_id code payload command
told code payload command table file id-is code-is parts table-is file-is select table-named file-named = record {
  id_is = id-is;
  code_is = λ _. code-is;
  table_field = table;
  file_field = file;
  parts = parts;
  fields = record {
    table_is = table-is;
    file_is = file-is;
    is = record { select = select; table = named_fits 40 (table_of command) table table-is table-named; file = named_fits 64 (file_of command) file file-is file-named };
  };
}

-- a field that is all of the bytes
whole : (width : ℕ) (field : List ℕ) → length field ≡ width → ReadsAs width (name_at 0 width field) field
whole width field len = record { len = len; reads = ap name_in (sym (take-length field)) ∙ ap (λ (k : ℕ). name_in (take k field)) len }

by_form_told : (form : Form) (code : ℕ) (payload : List ℕ) (command : GroundCommand) → by_form form payload ≡ Ok command → (Formed form payload → Told command_id code payload (form.reads payload)) → Told command_id code payload command
by_form_told form code payload command e tell =
    let f = formed form payload command e in
    subst (λ (x : GroundCommand). Told command_id code payload x) f.1 (tell f.0)

by_code_told : (code : ℕ) (payload : List ℕ) (command : GroundCommand) → AreBytes payload → by_code code (slice_get forms code) payload ≡ Ok command → Told command_id code payload command
by_code_told zero payload command fits e = by_form_told (form_alone noop) 0 payload command e (λ f. told 0 payload noop [] [] refl refl (nil_from_length payload f.len) refl refl tt refl refl)
by_code_told (suc zero) payload command fits e = by_form_told (form_alone reset_counters) 1 payload command e (λ f. told 1 payload reset_counters [] [] refl refl (nil_from_length payload f.len) refl refl tt refl refl)
by_code_told (suc (suc zero)) payload command fits e = by_form_told (form_named 64 load) 2 payload command e (λ f. told 2 payload (load (name_at 0 64 payload)) [] payload refl refl refl refl (whole 64 payload f.len) tt f.table f.file)
by_code_told (suc (suc (suc zero))) payload command fits e = by_form_told form_dump 3 payload command e (λ f.
    let table : ReadsAs 40 (name_at 2 40 payload) (piece 2 40 payload) = record { len = length-piece 2 40 payload (omega (arith, f.len)); reads = refl } in
    let file : ReadsAs 64 (name_at 42 64 payload) (drop 42 payload) = whole 64 (drop 42 payload) (omega (arith, f.len, length-drop 42 payload)) in
    let parts = split_two 0 payload fits (omega (arith, f.len)) ∙ ap (λ (s : List ℕ). two (two_at 0 payload) ++ s) (split_piece 2 40 payload) in
    told 3 payload (dump (two_at 0 payload) (name_at 2 40 payload) (name_at 42 64 payload)) (piece 2 40 payload) (drop 42 payload) refl refl parts table file (two_below 0 payload fits) f.table f.file)
by_code_told (suc (suc (suc (suc zero)))) payload command fits e = by_form_told form_validate 4 payload command e (λ f.
    let table : ReadsAs 40 (name_at 2 40 payload) (drop 2 payload) = whole 40 (drop 2 payload) (omega (arith, f.len, length-drop 2 payload)) in
    let parts = split_two 0 payload fits (omega (arith, f.len)) ∙ sym (append-nil (two (two_at 0 payload) ++ drop 2 payload)) in
    told 4 payload (validate (two_at 0 payload) (name_at 2 40 payload)) (drop 2 payload) [] refl refl parts table refl (two_below 0 payload fits) f.table f.file)
by_code_told (suc (suc (suc (suc (suc zero))))) payload command fits e = by_form_told (form_named 40 activate) 5 payload command e (λ f. told 5 payload (activate (name_at 0 40 payload)) payload [] refl refl (sym (append-nil payload)) (whole 40 payload f.len) refl tt f.table f.file)
by_code_told (suc (suc (suc (suc (suc (suc zero)))))) payload command fits e = by_form_told (form_named 64 dump_registry) 6 payload command e (λ f. told 6 payload (dump_registry (name_at 0 64 payload)) [] payload refl refl refl refl (whole 64 payload f.len) tt f.table f.file)
by_code_told (suc (suc (suc (suc (suc (suc (suc zero))))))) payload command fits e = by_form_told (form_named 40 send_registry) 7 payload command e (λ f. told 7 payload (send_registry (name_at 0 40 payload)) payload [] refl refl (sym (append-nil payload)) (whole 40 payload f.len) refl tt f.table f.file)
by_code_told (suc (suc (suc (suc (suc (suc (suc (suc zero)))))))) payload command fits e = by_form_told (form_named 40 delete_cds) 8 payload command e (λ f. told 8 payload (delete_cds (name_at 0 40 payload)) payload [] refl refl (sym (append-nil payload)) (whole 40 payload f.len) refl tt f.table f.file)
by_code_told (suc (suc (suc (suc (suc (suc (suc (suc (suc zero))))))))) payload command fits e = by_form_told (form_named 40 abort) 9 payload command e (λ f. told 9 payload (abort (name_at 0 40 payload)) payload [] refl refl (sym (append-nil payload)) (whole 40 payload f.len) refl tt f.table f.file)
by_code_told (suc (suc (suc (suc (suc (suc (suc (suc (suc (suc code)))))))))) payload command fits e = absurd cc

not_commands : housekeeping_request_id ≡ command_id → ⊥
not_commands e = absurd (omega arith)

no_answer : (answer : Answer) (command : GroundCommand) → refused_by answer ≡ Ok command → ⊥
no_answer answer command e = cc

by_id_told : (id code : ℕ) (payload : List ℕ) (command : GroundCommand) → AreBytes payload → by_id id code payload ≡ Ok command → Told id code payload command
by_id_told id code payload command fits e =
    elim (chosen (id == housekeeping_request_id) (by_form housekeeping_form payload) _ (Ok command) e) [
      | inl here ↦
          let f = formed housekeeping_form payload command here.1 in
          let tells : Told id code payload housekeeping = record {
            id_is = eqb-true id housekeeping_request_id here.0;
            code_is = λ other. absurd (not_commands other);
            table_field = [];
            file_field = [];
            parts = nil_from_length payload f.0.len;
            fields = record { table_is = refl; file_is = refl; is = record { select = tt; table = tt; file = tt } };
          } in
          subst (λ (x : GroundCommand). Told id code payload x) f.1 tells
      | inr there ↦
          elim (chosen (id == command_id) (by_code code (slice_get forms code) payload) _ (Ok command) there.1) [
            | inl coded ↦ subst (λ (n : ℕ). Told n code payload command) (sym (eqb-true id command_id coded.0)) (by_code_told code payload command fits coded.1)
            | inr none ↦ absurd (no_answer _ command none.1)
          ]
    ]

-- ---- the packet around the payload

whole_packet : (flaw : Option PacketFlaw) (bytes : List ℕ) (command : GroundCommand) → by_flaw flaw bytes ≡ Ok command → (flaw ≡ None) × (by_id (packet_id bytes) (packet_code bytes) (packet_payload bytes) ≡ Ok command)
whole_packet (Some flaw) bytes command e = absurd cc
whole_packet None bytes command e = (refl, e)

pub only : (bytes : List ℕ) (command : GroundCommand) → AreBytes bytes → command_in bytes ≡ Ok command → SpellsCommand bytes command
unfolding command_in
only bytes command fits e =
    let p = whole_packet (packet_flaw bytes) bytes command e in
    let payload-fits : AreBytes (packet_payload bytes) = λ i. rw get_or-drop (fits (8 + i)) in
    let t = by_id_told (packet_id bytes) (packet_code bytes) (packet_payload bytes) command payload-fits p.1 in
    let packet = packets.only bytes fits p.0 in
    record {
      code = packet_code bytes;
      table_field = t.table_field;
      file_field = t.file_field;
      packet =
          subst (λ (id : ℕ). IsCommandPacket bytes id (packet_code bytes) (select_field (select_of command) ++ t.table_field ++ t.file_field)) t.id_is
          (subst (λ (payload : List ℕ). IsCommandPacket bytes (packet_id bytes) (packet_code bytes) payload) t.parts packet);
      code_is = t.code_is;
      table = t.fields.table_is;
      file = t.fields.file_is;
      is_command = t.fields.is;
    }

-- ---- written commands

and_true : (a b : Bool) → (a && b) ≡ true → (a ≡ true) × (b ≡ true)
and_true true b e = (refl, e)
and_true false b e = absurd cc

written_reads : (width : ℕ) (name : Option (List ℕ)) → IfSome name (λ n. IsTrue (is_name n) × (length n ≤ width)) → ReadsAsOption width name (written_field width name)
written_reads width None is = refl
written_reads width (Some name) is = reads-name_field width name is.1 (printable_no_zero name (and_true _ (list_all is_printable_byte name) is.0).1)

length-written : (width : ℕ) (name : Option (List ℕ)) → IfSome name (λ n. IsTrue (is_name n) × (length n ≤ width)) → length (written_field width name) ≤ width
length-written width None is = omega arith
length-written width (Some name) is = let r = written_reads width (Some name) is in omega (arith, r.len)

length-select : (select : Option ℕ) → length (select_field select) ≤ 2
length-select None = omega arith
length-select (Some select) = omega arith

id_below : (command : GroundCommand) → id_of command < 2 ^ 16
id_below housekeeping = omega arith
id_below noop = omega arith
id_below reset_counters = omega arith
id_below (load file) = omega arith
id_below (dump select table file) = omega arith
id_below (validate select table) = omega arith
id_below (activate table) = omega arith
id_below (dump_registry file) = omega arith
id_below (send_registry table) = omega arith
id_below (delete_cds table) = omega arith
id_below (abort table) = omega arith

code_below : (command : GroundCommand) → code_of command < 128
code_below housekeeping = omega arith
code_below noop = omega arith
code_below reset_counters = omega arith
code_below (load file) = omega arith
code_below (dump select table file) = omega arith
code_below (validate select table) = omega arith
code_below (activate table) = omega arith
code_below (dump_registry file) = omega arith
code_below (send_registry table) = omega arith
code_below (delete_cds table) = omega arith
code_below (abort table) = omega arith

written_spells : (count : ℕ) (command : GroundCommand) → IsGroundCommand command → SpellsCommand (command_bytes count command) command
written_spells count command is =
    let select : List ℕ = select_field (select_of command) in
    let table : List ℕ = written_field 40 (table_of command) in
    let file : List ℕ = written_field 64 (file_of command) in
    let len : length (payload_of command) ≤ 65000 =
    omega (
      arith,
      length-append (select ++ table) file,
      length-append select table,
      length-select (select_of command),
      length-written 40 (table_of command) is.table,
      length-written 64 (file_of command) is.file,
    ) in
    record {
      code = code_of command;
      table_field = table;
      file_field = file;
      packet = packets.written (id_of command) count (code_of command) (payload_of command) (id_below command) (code_below command) len;
      code_is = λ _. refl;
      table = written_reads 40 (table_of command) is.table;
      file = written_reads 64 (file_of command) is.file;
      is_command = is;
    }

pub written : (count : ℕ) (command : GroundCommand) → IsGroundCommand command → IsReadAs command (command_bytes count command)
written count command is =
    let spells = written_spells count command is in
    record { is_packet = spells; same = commands_are_read (command_bytes count command) command spells }
