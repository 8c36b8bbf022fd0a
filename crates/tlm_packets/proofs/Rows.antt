-- Registry packets are read exactly.
use Rattle.std.proofs.Common.{◌≡◌, ℕ, true, List, [], ◌∷◌, ◌++◌, length, refl, sym, ap, subst, ◌∙◌, append_assoc, lit<, lit≤, arith}
use Rattle.std.proofs.lemmas.Bool.{and_parts}
use Rattle.std.proofs.lemmas.List.{length-append}
use Rattle.std.proofs.lemmas.Nat.{from_be_bytes-to_be_bytes_2, from_be_bytes-to_be_bytes_4}
use Rattle.tbl_kinds.specs.Fields.{AreBytes}
use Rattle.tbl_kinds.specs.Numbers.{two, four, byte_at, two_at, four_at}
use Rattle.tbl_kinds.specs.Names.{name_field}
use Rattle.tbl_kinds.specs.Heads.{has_name}
use Rattle.tbl_kinds.specs.Packets.{registry_id}
use Rattle.tbl_kinds.specs.Telemetry.{registry_record}
use Rattle.tbl_kinds.specs.declared.telemetry.RegistryRow.{RegistryRow}
use Rattle.tbl_kinds.proofs.NameFields.{length-name_field}
use Rattle.cfe_headers.proofs.Pieces.{two_below, four_below, split_two, split_four, split_byte}
use Rattle.tlm_packets.specs.Spellings.{IsRow, IsPacket, SpellsRow}
use Rattle.tlm_packets.specs.Reading.{has_head, body_in, name_at, is_row, row_in}
use Rattle.tlm_packets.proofs.Headers.{read, told, bytes_behind}
use Rattle.tlm_packets.proofs.Fields.{written, written_last, split_name, split_last, name_fits}

-- ---- a record that was written

record Again (r : RegistryRow) : Type 0 where
  len : length (registry_record r) ≡ 144
  is : is_row (registry_record r) ≡ true
  value : row_in (registry_record r) ≡ r

again : (r : RegistryRow) → IsRow r → Again r
unfolding registry_record
again r is =
    let body : List ℕ = registry_record r in
    let name = name_field 40 r.name in
    let owner = name_field 20 r.owner in
    let file = name_field 64 r.file in
    let a = written 20 40 r.name (owner ++ file) body is.name (append_assoc name owner file) in
    let b = written 60 20 r.owner file body is.owner a.behind in
    let c = written_last 80 64 r.file body is.file b.behind in
    let names : length (name ++ owner ++ file) ≡ 124 = omega (arith, length-append (name ++ owner) file, length-append name owner, length-name_field 40 r.name is.name, length-name_field 20 r.owner is.owner, length-name_field 64 r.file is.file) in
    record {
      len = omega (arith, names);
      is = rw (a.right, b.right, c.right) refl;
      value =
          rw (
            from_be_bytes-to_be_bytes_4 r.size is.size,
            from_be_bytes-to_be_bytes_4 r.check is.check,
            from_be_bytes-to_be_bytes_4 r.count is.count,
            from_be_bytes-to_be_bytes_4 r.seconds is.seconds,
            from_be_bytes-to_be_bytes_2 r.sub is.sub,
            a.name_is,
            b.name_is,
            c.name_is,
          ) refl;
    }

-- the packet of a record is read as that record
pub record ReadRow (bytes : List ℕ) (r : RegistryRow) : Type 0 where
  pub head : has_head registry_id 144 bytes ≡ true
  pub is : is_row (body_in bytes) ≡ true
  pub value : row_in (body_in bytes) ≡ r

pub read_row : (bytes : List ℕ) (r : RegistryRow) → SpellsRow bytes r → ReadRow bytes r
read_row bytes r s =
    let a = again r s.is_row in
    let p = read registry_id 144 (registry_record r) bytes (lit< tt) (lit≤ tt) a.len s.packet in
    record { head = p.head; is = ap is_row p.body_is ∙ a.is; value = ap row_in p.body_is ∙ a.value }

-- ---- a record that is read

spelled : (body : List ℕ) → AreBytes body → length body ≡ 144 → is_row body ≡ true → body ≡ registry_record (row_in body)
unfolding registry_record
spelled body fits len is =
    let a = and_parts _ (has_name 80 64 body) is in
    let b = and_parts (has_name 20 40 body) (has_name 60 20 body) a.0 in
    let after : (x y z : List ℕ) → y ≡ z → x ++ y ≡ x ++ z = λ x y z e. ap (λ (s : List ℕ). x ++ s) e in
    let s80 = split_last 80 64 body (sym len) a.1 in
    let s60 = split_name 60 20 body (omega (arith, len)) b.1 ∙ after (name_field 20 (name_at 60 20 body)) _ _ s80 in
    let s20 = split_name 20 40 body (omega (arith, len)) b.0 ∙ after (name_field 40 (name_at 20 40 body)) _ _ s60 in
    let s20 = s20 ∙ sym (append_assoc (name_field 40 (name_at 20 40 body)) (name_field 20 (name_at 60 20 body)) (name_field 64 (name_at 80 64 body))) in
    let s19 = split_byte 19 body (omega (arith, len)) ∙ after (byte_at 19 body ∷ []) _ _ s20 in
    let s18 = split_byte 18 body (omega (arith, len)) ∙ after (byte_at 18 body ∷ []) _ _ s19 in
    let s16 = split_two 16 body fits (omega (arith, len)) ∙ after (two (two_at 16 body)) _ _ s18 in
    let s12 = split_four 12 body fits (omega (arith, len)) ∙ after (four (four_at 12 body)) _ _ s16 in
    let s8 = split_four 8 body fits (omega (arith, len)) ∙ after (four (four_at 8 body)) _ _ s12 in
    let s4 = split_four 4 body fits (omega (arith, len)) ∙ after (four (four_at 4 body)) _ _ s8 in
    split_four 0 body fits (omega (arith, len)) ∙ after (four (four_at 0 body)) _ _ s4

row_fits : (body : List ℕ) → AreBytes body → IsRow (row_in body)
row_fits body fits = record {
  size = four_below 0 body fits;
  check = four_below 4 body fits;
  count = four_below 8 body fits;
  seconds = four_below 12 body fits;
  sub = two_below 16 body fits;
  bits = fits 18;
  validator = fits 19;
  name = name_fits 20 40 body;
  owner = name_fits 60 20 body;
  file = name_fits 80 64 body;
}

-- what is read is spelled by the bytes
pub spells_row : (bytes : List ℕ) → AreBytes bytes → has_head registry_id 144 bytes ≡ true → length (body_in bytes) ≡ 144 → is_row (body_in bytes) ≡ true → SpellsRow bytes (row_in (body_in bytes))
spells_row bytes fits has len is =
    let behind = bytes_behind 12 bytes fits in
    record {
      is_row = row_fits (body_in bytes) behind;
      packet = subst (λ (body : List ℕ). IsPacket registry_id body bytes) (spelled (body_in bytes) behind len is) (told registry_id 144 bytes fits has);
    }
