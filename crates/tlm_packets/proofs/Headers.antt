-- The headers of telemetry packets, written and read.
use Rattle.std.proofs.Common.{◌≡◌, ℕ, ◌+◌, ◌-◌, ◌^◌, ◌<◌, ◌≤◌, true, List, ◌++◌, length, drop, refl, ap, ◌∙◌, eq-eqb, arith}
use Rattle.std.specs.Prelude.{◌==◌, nat_le}
use Rattle.std.proofs.lemmas.Bool.{and_parts, eqb-true, le-leb, leb-true}
use Rattle.std.proofs.lemmas.List.{get_or-drop, length-drop}
use Rattle.std.proofs.lemmas.Nat.{from_be_bytes-to_be_bytes_2}
use Rattle.tbl_kinds.specs.Fields.{AreBytes}
use Rattle.tbl_kinds.specs.Numbers.{two, four, two_at, four_at}
use Rattle.tbl_kinds.specs.Packets.{primary_header, telemetry_packet}
use Rattle.tbl_kinds.specs.declared.telemetry.TlmHead.{TlmHead}
use Rattle.cfe_headers.proofs.Pieces.{two_below, four_below, split_two, split_four}
use Rattle.tlm_packets.specs.Spellings.{IsHead, IsPacket}
use Rattle.tlm_packets.specs.Reading.{has_head, body_in}

-- a packet has its headers, and its body stands after them
pub record Read (id len : ℕ) (body bytes : List ℕ) : Type 0 where
  pub head : has_head id len bytes ≡ true
  pub body_is : body_in bytes ≡ body

read_written : (id len : ℕ) (body : List ℕ) (head : TlmHead) → id < 2 ^ 16 → len ≤ 278 → length body ≡ len → IsHead head → Read id len body (telemetry_packet id head body)
unfolding telemetry_packet primary_header
read_written id len body head id-fits few long is =
    let bytes : List ℕ = telemetry_packet id head body in
    let id-is : two_at 0 bytes ≡ id = from_be_bytes-to_be_bytes_2 id id-fits in
    let count-is : two_at 2 bytes ≡ 0xC000 + head.count = from_be_bytes-to_be_bytes_2 (0xC000 + head.count) (omega (arith, is.count)) in
    let stated : two_at 4 bytes ≡ 12 + length body - 7 = from_be_bytes-to_be_bytes_2 (12 + length body - 7) (omega (arith, long, few)) in
    let whole : length bytes ≡ 12 + length body = omega arith in
    record {
      head = rw (eq-eqb (length bytes) (12 + len) (omega (arith, whole, long)), eq-eqb (two_at 0 bytes) id id-is, le-leb 0xC000 (two_at 2 bytes) (omega (arith, count-is)), eq-eqb (two_at 4 bytes + 7) (length bytes) (omega (arith, stated, whole))) refl;
      body_is = refl;
    }

pub read : (id len : ℕ) (body bytes : List ℕ) → id < 2 ^ 16 → len ≤ 278 → length body ≡ len → IsPacket id body bytes → Read id len body bytes
read id len body bytes id-fits few long p = rw p.packet (read_written id len body p.head id-fits few long p.is_head)

-- what stands after headers is bytes too
pub bytes_behind : (place : ℕ) (bytes : List ℕ) → AreBytes bytes → AreBytes (drop place bytes)
bytes_behind place bytes fits i = rw (get_or-drop place bytes i 0) (fits (place + i))

-- bytes with such headers are a packet of their body
pub told : (id len : ℕ) (bytes : List ℕ) → AreBytes bytes → has_head id len bytes ≡ true → IsPacket id (body_in bytes) bytes
unfolding telemetry_packet primary_header
told id len bytes fits has =
    let a = and_parts _ (two_at 4 bytes + 7 == length bytes) has in
    let b = and_parts _ (nat_le 0xC000 (two_at 2 bytes)) a.0 in
    let c = and_parts (length bytes == 12 + len) (two_at 0 bytes == id) b.0 in
    let long = eqb-true (length bytes) (12 + len) c.0 in
    let id-is = eqb-true (two_at 0 bytes) id c.1 in
    let flags = leb-true 0xC000 (two_at 2 bytes) b.1 in
    let stated = eqb-true (two_at 4 bytes + 7) (length bytes) a.1 in
    let count-is : two_at 2 bytes ≡ 0xC000 + (two_at 2 bytes - 0xC000) = omega (arith, flags) in
    let stated-is : two_at 4 bytes ≡ 12 + length (drop 12 bytes) - 7 = omega (arith, stated, long, length-drop 12 bytes) in
    let before : (n : ℕ) (x y : List ℕ) → x ≡ y → two n ++ x ≡ two n ++ y = λ n x y e. ap (λ (s : List ℕ). two n ++ s) e in
    let s10 = split_two 10 bytes fits (omega (arith, long)) in
    let s6 = split_four 6 bytes fits (omega (arith, long)) ∙ ap (λ (s : List ℕ). four (four_at 6 bytes) ++ s) s10 in
    let s4 = split_two 4 bytes fits (omega (arith, long)) ∙ before (two_at 4 bytes) _ _ s6 in
    let s2 = split_two 2 bytes fits (omega (arith, long)) ∙ before (two_at 2 bytes) _ _ s4 in
    let s0 = split_two 0 bytes fits (omega (arith, long)) ∙ before (two_at 0 bytes) _ _ s2 in
    record {
      head = record { count = two_at 2 bytes - 0xC000; seconds = four_at 6 bytes; sub = two_at 10 bytes };
      is_head = record { count = omega (arith, two_below 2 bytes fits); seconds = four_below 6 bytes fits; sub = two_below 10 bytes fits };
      packet =
          s0
          ∙ ap (λ (n : ℕ). two n ++ two (two_at 2 bytes) ++ two (two_at 4 bytes) ++ four (four_at 6 bytes) ++ two (two_at 10 bytes) ++ drop 12 bytes) id-is
          ∙ ap (λ (n : ℕ). two id ++ two n ++ two (two_at 4 bytes) ++ four (four_at 6 bytes) ++ two (two_at 10 bytes) ++ drop 12 bytes) count-is
          ∙ ap (λ (n : ℕ). two id ++ two (0xC000 + (two_at 2 bytes - 0xC000)) ++ two n ++ four (four_at 6 bytes) ++ two (two_at 10 bytes) ++ drop 12 bytes) stated-is;
    }
