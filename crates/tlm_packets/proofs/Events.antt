-- Event packets are read exactly.
use Rattle.std.proofs.Common.{◌≡◌, ℕ, true, List, [], ◌++◌, length, drop, refl, ap, subst, ◌∙◌, lit<, lit≤, arith}
use Rattle.std.proofs.lemmas.List.{length-drop, nil_from_length}
use Rattle.std.proofs.lemmas.Nat.{from_be_bytes-to_be_bytes_2, from_be_bytes-to_be_bytes_4}
use Rattle.tbl_kinds.specs.Fields.{AreBytes}
use Rattle.tbl_kinds.specs.Numbers.{two, four, two_at, four_at}
use Rattle.tbl_kinds.specs.Packets.{event_id}
use Rattle.tbl_kinds.specs.Telemetry.{event_body}
use Rattle.tbl_kinds.specs.declared.telemetry.Event.{Event}
use Rattle.cfe_headers.proofs.Pieces.{two_below, four_below, split_two, split_four}
use Rattle.tlm_packets.specs.Spellings.{IsEvent, IsPacket, SpellsEvent}
use Rattle.tlm_packets.specs.Reading.{has_head, body_in, event_in}
use Rattle.tlm_packets.proofs.Headers.{read, told, bytes_behind}

again : (e : Event) → IsEvent e → event_in (event_body e) ≡ e
unfolding event_body
again e is =
    rw (from_be_bytes-to_be_bytes_2 e.number is.number, from_be_bytes-to_be_bytes_4 e.status.0 is.status, from_be_bytes-to_be_bytes_2 e.row is.row, from_be_bytes-to_be_bytes_4 e.detail is.detail) refl

length-event_body : (e : Event) → length (event_body e) ≡ 12
unfolding event_body
length-event_body e = refl

-- the packet of an event is read as that event
pub record ReadEvent (bytes : List ℕ) (e : Event) : Type 0 where
  pub head : has_head event_id 12 bytes ≡ true
  pub value : event_in (body_in bytes) ≡ e

pub read_event : (bytes : List ℕ) (e : Event) → SpellsEvent bytes e → ReadEvent bytes e
read_event bytes e s =
    let r = read event_id 12 (event_body e) bytes (lit< tt) (lit≤ tt) (length-event_body e) s.packet in
    record { head = r.head; value = ap event_in r.body_is ∙ again e s.is_event }

spelled : (body : List ℕ) → AreBytes body → length body ≡ 12 → body ≡ event_body (event_in body)
unfolding event_body
spelled body fits len =
    let none : drop 12 body ≡ [] = nil_from_length (drop 12 body) (omega (arith, len, length-drop 12 body)) in
    let s8 = split_four 8 body fits (omega (arith, len)) ∙ ap (λ (s : List ℕ). four (four_at 8 body) ++ s) none in
    let s6 = split_two 6 body fits (omega (arith, len)) ∙ ap (λ (s : List ℕ). two (two_at 6 body) ++ s) s8 in
    let s2 = split_four 2 body fits (omega (arith, len)) ∙ ap (λ (s : List ℕ). four (four_at 2 body) ++ s) s6 in
    split_two 0 body fits (omega (arith, len)) ∙ ap (λ (s : List ℕ). two (two_at 0 body) ++ s) s2

is_event : (body : List ℕ) → AreBytes body → IsEvent (event_in body)
is_event body fits = record { number = two_below 0 body fits; status = four_below 2 body fits; row = two_below 6 body fits; detail = four_below 8 body fits }

-- what is read is spelled by the bytes
pub spells_event : (bytes : List ℕ) → AreBytes bytes → has_head event_id 12 bytes ≡ true → length (body_in bytes) ≡ 12 → SpellsEvent bytes (event_in (body_in bytes))
spells_event bytes fits has len =
    let behind = bytes_behind 12 bytes fits in
    record {
      is_event = is_event (body_in bytes) behind;
      packet = subst (λ (body : List ℕ). IsPacket event_id body bytes) (spelled (body_in bytes) behind len) (told event_id 12 bytes fits has);
    }
