-- Command packets are read exactly, and written ones are command packets.
use Rattle.std.proofs.Common.{◌≡◌, ℕ, ◌+◌, ◌-◌, ◌*◌, ◌/◌, ◌%◌, ◌^◌, ◌<◌, ◌≤◌, false, not, ltb, List, [], ◌∷◌, ◌++◌, length, drop, None, refl, sym, ap, ◌∙◌, eq-eqb, arith}
use Rattle.std.specs.Prelude.{bit_xor, ◌==◌, nat_lt}
use Rattle.std.specs.List.{fold}
use Rattle.std.specs.Int.Bits.{xor_self, xor_comm, xor_assoc}
use Rattle.std.proofs.lemmas.List.{length-drop}
use Rattle.std.proofs.lemmas.List.Sums.{fold-append}
use Rattle.std.proofs.lemmas.Nat.{from_be_bytes-to_be_bytes_2}
use Rattle.std.proofs.lemmas.Bool.{ltb-false, le-ltb, eqb-true}
use Rattle.tbl_kinds.specs.Fields.{AreBytes}
use Rattle.tbl_kinds.specs.Numbers.{two, byte_at, two_at}
use Rattle.tbl_kinds.specs.Packets.{IsCommandPacket, short, bad_length, bad_check, primary_header, command_packet, checksum, packet_flaw, packet_id, packet_code, packet_payload}
use Rattle.cfe_headers.specs.Readings.{ReadsPacket}
use Rattle.cfe_headers.proofs.Chains.{passed, not_false}
use Rattle.cfe_headers.proofs.Pieces.{two_below, split_two, split_byte, and_then}

-- ---- the checksum of a written packet

-- a number that goes into the sum first comes out of it again
xor_out : (a b : ℕ) (bytes : List ℕ) → fold bit_xor (bit_xor a b) bytes ≡ bit_xor a (fold bit_xor b bytes)
xor_out a b [] = refl
xor_out a b (x ∷ bytes) = ap (λ (n : ℕ). fold bit_xor n bytes) (xor_assoc a b x) ∙ xor_out a (bit_xor b x) bytes

checked_by : (front payload : List ℕ) → checksum (front ++ checksum (front ++ payload) ∷ payload) ≡ 0
checked_by front payload =
    let s = checksum front in
    let check = checksum (front ++ payload) in
    let whole : check ≡ fold bit_xor s payload = fold-append bit_xor 0xFF front payload in
    fold-append bit_xor 0xFF front (check ∷ payload)
    ∙ ap (λ (n : ℕ). fold bit_xor n payload) (xor_comm s check)
    ∙ xor_out check s payload
    ∙ ap (λ (n : ℕ). bit_xor check n) (sym whole)
    ∙ xor_self check

pub written : (id count code : ℕ) (payload : List ℕ) → id < 2 ^ 16 → code < 128 → length payload ≤ 65000 → IsCommandPacket (command_packet id count code payload) id code payload
unfolding command_packet primary_header
written id count code payload id-fits code-fits payload-fits =
    let front : List ℕ = primary_header id count (8 + length payload) ++ code ∷ [] in
    let check = checksum (front ++ payload) in
    let len : 8 + length payload - 7 ≡ length payload + 1 = omega arith in
    let low : code ≡ 128 * 0 + code = omega arith in
    record {
      sequence = 0xC000 + count;
      high = 0;
      check = check;
      parts =
          ap (λ (n : ℕ). two id ++ two (0xC000 + count) ++ two n ++ code ∷ check ∷ payload) len
          ∙ ap (λ (n : ℕ). two id ++ two (0xC000 + count) ++ two (length payload + 1) ++ n ∷ check ∷ payload) low;
      id_fits = id-fits;
      code_fits = code-fits;
      payload_fits = omega arith;
      checked = checked_by front payload;
    }

-- ---- packets are read

-- where the parts of a packet stand
pub record HasParts (bytes : List ℕ) (id code : ℕ) (payload : List ℕ) : Type 0 where
  pub len : length bytes ≡ 8 + length payload
  pub id_is : packet_id bytes ≡ id
  pub stated : two_at 4 bytes ≡ length payload + 1
  pub code_is : packet_code bytes ≡ code
  pub payload_is : packet_payload bytes ≡ payload

stands : (id sequence high code check : ℕ) (payload : List ℕ) → id < 2 ^ 16 → code < 128 → length payload + 1 < 2 ^ 16
    → HasParts (two id ++ two sequence ++ two (length payload + 1) ++ (128 * high + code) ∷ check ∷ payload) id code payload
stands id sequence high code check payload id-fits code-fits payload-fits = record {
  len = omega arith;
  id_is = from_be_bytes-to_be_bytes_2 id id-fits;
  stated = from_be_bytes-to_be_bytes_2 (length payload + 1) payload-fits;
  code_is = omega arith;
  payload_is = refl;
}

pub packet_stands : (bytes : List ℕ) (id code : ℕ) (payload : List ℕ) → IsCommandPacket bytes id code payload → HasParts bytes id code payload
packet_stands bytes id code payload is =
    rw is.parts (stands id is.sequence is.high code is.check payload is.id_fits is.code_fits is.payload_fits)

pub accepted : (bytes : List ℕ) (id code : ℕ) (payload : List ℕ) → IsCommandPacket bytes id code payload → packet_flaw bytes ≡ None
accepted bytes id code payload is =
    let s = packet_stands bytes id code payload is in
    let long : ltb (length bytes) 8 ≡ false = le-ltb (length bytes) 8 (omega (arith, s.len)) in
    let sum : two_at 4 bytes + 7 ≡ length bytes = omega (arith, s.len, s.stated) in
    rw (long, eq-eqb _ _ sum, eq-eqb _ 0 is.checked) refl

-- ---- nothing else is read

record Passes (bytes : List ℕ) : Type 0 where
  long : 8 ≤ length bytes
  stated : two_at 4 bytes + 7 ≡ length bytes
  checked : checksum bytes ≡ 0

passes : (bytes : List ℕ) → packet_flaw bytes ≡ None → Passes bytes
passes bytes none =
    let a = passed (nat_lt (length bytes) 8) short _ none in
    let b = passed (not (two_at 4 bytes + 7 == length bytes)) bad_length _ a.1 in
    let c = passed (not (checksum bytes == 0)) bad_check None b.1 in
    record {
      long = ltb-false (length bytes) 8 a.0;
      stated = eqb-true (two_at 4 bytes + 7) (length bytes) (not_false _ b.0);
      checked = eqb-true (checksum bytes) 0 (not_false _ c.0);
    }

pub only : (bytes : List ℕ) → AreBytes bytes → packet_flaw bytes ≡ None → IsCommandPacket bytes (packet_id bytes) (packet_code bytes) (packet_payload bytes)
only bytes fits none =
    let p = passes bytes none in
    let a = two_at 0 bytes in
    let b = two_at 2 bytes in
    let c = two_at 4 bytes in
    let d = byte_at 6 bytes in
    let len : length (drop 8 bytes) + 8 ≡ length bytes = omega (arith, p.long, length-drop 8 bytes) in
    let c-is : c ≡ length (drop 8 bytes) + 1 = omega (arith, p.stated, len) in
    let d-is : d ≡ 128 * (d / 128) + d % 128 = omega arith in
    let front : bytes ≡ (two a ++ two b ++ two c) ++ drop 6 bytes =
    and_then bytes (two a ++ two b) (drop 4 bytes) (two c) (drop 6 bytes)
    (and_then bytes (two a) (drop 2 bytes) (two b) (drop 4 bytes) (split_two 0 bytes fits (omega (arith, p.long))) (split_two 2 bytes fits (omega (arith, p.long))))
    (split_two 4 bytes fits (omega (arith, p.long))) in
    let back : drop 6 bytes ≡ d ∷ byte_at 7 bytes ∷ drop 8 bytes =
    split_byte 6 bytes (omega (arith, p.long)) ∙ ap (λ (s : List ℕ). d ∷ s) (split_byte 7 bytes (omega (arith, p.long))) in
    record {
      sequence = b;
      high = d / 128;
      check = byte_at 7 bytes;
      parts =
          front
          ∙ ap (λ (s : List ℕ). (two a ++ two b ++ two c) ++ s) back
          ∙ ap (λ (n : ℕ). (two a ++ two b ++ two n) ++ d ∷ byte_at 7 bytes ∷ drop 8 bytes) c-is
          ∙ ap (λ (n : ℕ). (two a ++ two b ++ two (length (drop 8 bytes) + 1)) ++ n ∷ byte_at 7 bytes ∷ drop 8 bytes) d-is;
      id_fits = two_below 0 bytes fits;
      code_fits = omega arith;
      payload_fits = omega (arith, two_below 4 bytes fits, c-is);
      checked = p.checked;
    }

pub reads : (bytes : List ℕ) (id code : ℕ) (payload : List ℕ) → IsCommandPacket bytes id code payload → ReadsPacket bytes id code payload
reads bytes id code payload is =
    let s = packet_stands bytes id code payload is in
    record { accepted = accepted bytes id code payload is; id_is = s.id_is; code_is = s.code_is; payload_is = s.payload_is }
