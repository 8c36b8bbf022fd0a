-- Housekeeping packets are read exactly.
use Rattle.std.proofs.Common.{◌≡◌, ℕ, ◌+◌, ◌≤◌, true, List, ◌∷◌, ◌++◌, length, drop, refl, sym, ap, subst, ◌∙◌, append_assoc, lit<, lit≤, arith}
use Rattle.std.specs.Prelude.{◌==◌}
use Rattle.std.specs.Int.{w32, cast_signed, cast_unsigned, from_be_bytes}
use Rattle.std.proofs.Math.Facts.{sfits_to_z, Fits-of_z, Fits-of_lt}
use Rattle.std.proofs.lemmas.Bool.{and_parts, eqb-true}
use Rattle.std.proofs.lemmas.Int.{of_z-to_z, to_z-of_z}
use Rattle.std.proofs.lemmas.List.{length-append}
use Rattle.std.proofs.lemmas.Nat.{from_be_bytes-to_be_bytes_2, from_be_bytes-to_be_bytes_4}
use Rattle.tbl_kinds.specs.Fields.{AreBytes}
use Rattle.tbl_kinds.specs.Numbers.{two, four, byte_at, two_at, four_at}
use Rattle.tbl_kinds.specs.Names.{name_field}
use Rattle.tbl_kinds.specs.Heads.{has_name}
use Rattle.tbl_kinds.specs.Packets.{housekeeping_id}
use Rattle.tbl_kinds.specs.Telemetry.{housekeeping_body, commands_and_loads, last_validation, validations_and_buffers, last_update}
use Rattle.tbl_kinds.specs.declared.telemetry.Housekeeping.{Housekeeping}
use Rattle.tbl_kinds.proofs.NameFields.{length-name_field}
use Rattle.cfe_headers.proofs.Pieces.{two_below, four_below, split_two, split_four, split_byte}
use Rattle.tlm_packets.specs.Spellings.{IsHousekeeping, IsPacket, SpellsHousekeeping}
use Rattle.tlm_packets.specs.Reading.{has_head, body_in, name_at, is_housekeeping, housekeeping_in}
use Rattle.tlm_packets.proofs.Headers.{read, told, bytes_behind}
use Rattle.tlm_packets.proofs.Fields.{written, written_last, split_name, split_last, name_fits}

-- ---- a body that was written

record Again (h : Housekeeping) : Type 0 where
  len : length (housekeeping_body h) ≡ 278
  is : is_housekeeping (housekeeping_body h) ≡ true
  value : housekeeping_in (housekeeping_body h) ≡ h

-- five pieces, one after the other
joined : (a b c d e : List ℕ) → a ++ b ++ c ++ d ++ e ≡ a ++ (b ++ (c ++ (d ++ e)))
joined a b c d e = simp append_assoc

-- a verdict comes out of its four bytes again
verdict : (h : Housekeeping) → IsHousekeeping h → cast_signed w32 (from_be_bytes w32 (four (cast_unsigned w32 h.verdict))) ≡ h.verdict
verdict h is = ap (cast_signed w32) (from_be_bytes-to_be_bytes_4 (cast_unsigned w32 h.verdict) (Fits-of_z is.validation.verdict).fits) ∙ to_z-of_z w32 h.verdict is.validation.verdict

again : (h : Housekeeping) → IsHousekeeping h → Again h
unfolding housekeeping_body commands_and_loads last_validation validations_and_buffers last_update
again h is =
    let body : List ℕ = housekeeping_body h in
    let validated = name_field 40 h.validated in
    let updated = name_field 40 h.updated in
    let file = name_field 64 h.loaded_file in
    let dump = name_field 64 h.dumped_file in
    let loaded = name_field 40 h.loaded in
    let a = written 30 40 h.validated (updated ++ (file ++ (dump ++ loaded))) body is.names.validated (joined validated updated file dump loaded) in
    let b = written 70 40 h.updated (file ++ (dump ++ loaded)) body is.names.updated a.behind in
    let c = written 110 64 h.loaded_file (dump ++ loaded) body is.names.loaded_file b.behind in
    let d = written 174 64 h.dumped_file loaded body is.names.dumped_file c.behind in
    let e = written_last 238 40 h.loaded body is.names.loaded d.behind in
    let first : length (validated ++ updated ++ file) ≡ 144 = omega (arith, length-append (validated ++ updated) file, length-append validated updated, length-name_field 40 h.validated is.names.validated, length-name_field 40 h.updated is.names.updated, length-name_field 64 h.loaded_file is.names.loaded_file) in
    let names : length (validated ++ updated ++ file ++ dump ++ loaded) ≡ 248 = omega (arith, first, length-append (validated ++ updated ++ file ++ dump) loaded, length-append (validated ++ updated ++ file) dump, length-name_field 64 h.dumped_file is.names.dumped_file, length-name_field 40 h.loaded is.names.loaded) in
    record {
      len = omega (arith, names);
      is = rw (a.right, b.right, c.right, d.right, e.right) refl;
      value =
          rw (
            from_be_bytes-to_be_bytes_2 h.tables is.counts.tables,
            from_be_bytes-to_be_bytes_2 h.loads is.counts.loads,
            from_be_bytes-to_be_bytes_2 h.finished is.counts.finished,
            from_be_bytes-to_be_bytes_4 h.check is.validation.check,
            verdict h is,
            from_be_bytes-to_be_bytes_4 h.seconds is.time.seconds,
            from_be_bytes-to_be_bytes_2 h.sub is.time.sub,
            a.name_is,
            b.name_is,
            c.name_is,
            d.name_is,
            e.name_is,
          ) refl;
    }

-- the packet of such values is read as them
pub record ReadHousekeeping (bytes : List ℕ) (h : Housekeeping) : Type 0 where
  pub head : has_head housekeeping_id 278 bytes ≡ true
  pub is : is_housekeeping (body_in bytes) ≡ true
  pub value : housekeeping_in (body_in bytes) ≡ h

pub read_housekeeping : (bytes : List ℕ) (h : Housekeeping) → SpellsHousekeeping bytes h → ReadHousekeeping bytes h
read_housekeeping bytes h s =
    let a = again h s.is_housekeeping in
    let p = read housekeeping_id 278 (housekeeping_body h) bytes (lit< tt) (lit≤ tt) a.len s.packet in
    record { head = p.head; is = ap is_housekeeping p.body_is ∙ a.is; value = ap housekeeping_in p.body_is ∙ a.value }

-- ---- a body that is read

-- which parts of it are right
record Right (body : List ℕ) : Type 0 where
  zero_21 : byte_at 21 body ≡ 0
  zero_22 : byte_at 22 body ≡ 0
  zero_23 : byte_at 23 body ≡ 0
  validated : has_name 30 40 body ≡ true
  updated : has_name 70 40 body ≡ true
  loaded_file : has_name 110 64 body ≡ true
  dumped_file : has_name 174 64 body ≡ true
  loaded : has_name 238 40 body ≡ true

right : (body : List ℕ) → is_housekeeping body ≡ true → Right body
right body is =
    let a = and_parts _ (has_name 238 40 body) is in
    let b = and_parts _ (has_name 174 64 body) a.0 in
    let c = and_parts _ (has_name 110 64 body) b.0 in
    let d = and_parts _ (has_name 70 40 body) c.0 in
    let e = and_parts _ (has_name 30 40 body) d.0 in
    let f = and_parts _ (byte_at 23 body == 0) e.0 in
    let g = and_parts (byte_at 21 body == 0) (byte_at 22 body == 0) f.0 in
    record {
      zero_21 = eqb-true (byte_at 21 body) 0 g.0;
      zero_22 = eqb-true (byte_at 22 body) 0 g.1;
      zero_23 = eqb-true (byte_at 23 body) 0 f.1;
      validated = e.1;
      updated = d.1;
      loaded_file = c.1;
      dumped_file = b.1;
      loaded = a.1;
    }

after : (x y z : List ℕ) → y ≡ z → x ++ y ≡ x ++ z
after x y z e = ap (λ (s : List ℕ). x ++ s) e

-- the names, from place 30 on
names : (body : List ℕ) → length body ≡ 278 → Right body
    → drop 30 body ≡ name_field 40 (name_at 30 40 body) ++ name_field 40 (name_at 70 40 body) ++ name_field 64 (name_at 110 64 body) ++ name_field 64 (name_at 174 64 body) ++ name_field 40 (name_at 238 40 body)
names body len r =
    let s238 = split_last 238 40 body (sym len) r.loaded in
    let s174 = split_name 174 64 body (omega (arith, len)) r.dumped_file ∙ after (name_field 64 (name_at 174 64 body)) _ _ s238 in
    let s110 = split_name 110 64 body (omega (arith, len)) r.loaded_file ∙ after (name_field 64 (name_at 110 64 body)) _ _ s174 in
    let s70 = split_name 70 40 body (omega (arith, len)) r.updated ∙ after (name_field 40 (name_at 70 40 body)) _ _ s110 in
    let s30 = split_name 30 40 body (omega (arith, len)) r.validated ∙ after (name_field 40 (name_at 30 40 body)) _ _ s70 in
    s30 ∙ sym (joined (name_field 40 (name_at 30 40 body)) (name_field 40 (name_at 70 40 body)) (name_field 64 (name_at 110 64 body)) (name_field 64 (name_at 174 64 body)) (name_field 40 (name_at 238 40 body)))

spelled : (body : List ℕ) → AreBytes body → length body ≡ 278 → is_housekeeping body ≡ true → body ≡ housekeeping_body (housekeeping_in body)
unfolding housekeeping_body commands_and_loads last_validation validations_and_buffers last_update
spelled body fits len is =
    let r = right body is in
    let one : (place n : ℕ) (rest : List ℕ) → place + 1 ≤ length body → byte_at place body ≡ n → drop (place + 1) body ≡ rest → drop place body ≡ n ∷ rest =
    λ place n rest le e f. split_byte place body le ∙ ap (λ (k : ℕ). k ∷ drop (place + 1) body) e ∙ ap (λ (s : List ℕ). n ∷ s) f in
    let s28 = split_two 28 body fits (omega (arith, len)) ∙ after (two (two_at 28 body)) _ _ (names body len r) in
    let s24 = split_four 24 body fits (omega (arith, len)) ∙ after (four (four_at 24 body)) _ _ s28 in
    let s23 = one 23 0 _ (omega (arith, len)) r.zero_23 s24 in
    let s22 = one 22 0 _ (omega (arith, len)) r.zero_22 s23 in
    let s21 = one 21 0 _ (omega (arith, len)) r.zero_21 s22 in
    let s20 = one 20 (byte_at 20 body) _ (omega (arith, len)) refl s21 in
    let s19 = one 19 (byte_at 19 body) _ (omega (arith, len)) refl s20 in
    let s18 = one 18 (byte_at 18 body) _ (omega (arith, len)) refl s19 in
    let s17 = one 17 (byte_at 17 body) _ (omega (arith, len)) refl s18 in
    let s16 = one 16 (byte_at 16 body) _ (omega (arith, len)) refl s17 in
    let signed : four (four_at 12 body) ≡ four (cast_unsigned w32 (cast_signed w32 (four_at 12 body))) = ap four (sym (of_z-to_z w32 (four_at 12 body) (four_below 12 body fits))) in
    let s12 = split_four 12 body fits (omega (arith, len)) ∙ ap (λ (s : List ℕ). s ++ drop 16 body) signed ∙ after (four (cast_unsigned w32 (cast_signed w32 (four_at 12 body)))) _ _ s16 in
    let s8 = split_four 8 body fits (omega (arith, len)) ∙ after (four (four_at 8 body)) _ _ s12 in
    let s6 = split_two 6 body fits (omega (arith, len)) ∙ after (two (two_at 6 body)) _ _ s8 in
    let s4 = split_two 4 body fits (omega (arith, len)) ∙ after (two (two_at 4 body)) _ _ s6 in
    let s2 = split_two 2 body fits (omega (arith, len)) ∙ after (two (two_at 2 body)) _ _ s4 in
    let s1 = one 1 (byte_at 1 body) _ (omega (arith, len)) refl s2 in
    one 0 (byte_at 0 body) _ (omega (arith, len)) refl s1

housekeeping_fits : (body : List ℕ) → AreBytes body → IsHousekeeping (housekeeping_in body)
housekeeping_fits body fits = record {
  counts = record { accepted = fits 0; refused = fits 1; tables = two_below 2 body fits; loads = two_below 4 body fits; finished = two_below 6 body fits };
  validation = record { check = four_below 8 body fits; verdict = sfits_to_z (Fits-of_lt (four_below 12 body fits)); active = fits 16 };
  validations = record { good = fits 17; bad = fits 18; requests = fits 19; free = fits 20 };
  time = record { seconds = four_below 24 body fits; sub = two_below 28 body fits };
  names = record { validated = name_fits 30 40 body; updated = name_fits 70 40 body; loaded_file = name_fits 110 64 body; dumped_file = name_fits 174 64 body; loaded = name_fits 238 40 body };
}

-- what is read is spelled by the bytes
pub spells_housekeeping : (bytes : List ℕ) → AreBytes bytes → has_head housekeeping_id 278 bytes ≡ true → length (body_in bytes) ≡ 278 → is_housekeeping (body_in bytes) ≡ true
    → SpellsHousekeeping bytes (housekeeping_in (body_in bytes))
spells_housekeeping bytes fits has len is =
    let behind = bytes_behind 12 bytes fits in
    record {
      is_housekeeping = housekeeping_fits (body_in bytes) behind;
      packet = subst (λ (body : List ℕ). IsPacket housekeeping_id body bytes) (spelled (body_in bytes) behind len is) (told housekeeping_id 278 bytes fits has);
    }
