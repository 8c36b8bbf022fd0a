-- What bytes tell at the places of an entry's fields and of an end record's, and the spelling that these make.
use Rattle.std.proofs.Common.{◌≡◌, ℕ, ◌+◌, ◌-◌, ◌<◌, ◌≤◌, ◌^◌, List, [], ◌∷◌, ◌++◌, length, drop, Option, Some, refl, sym, ap, subst, ◌∙◌, append_assoc, arith}
use Rattle.std.proofs.lemmas.List.{length-append, length-take, length-drop, drop_at}
use Rattle.std.proofs.lemmas.Nat.{from_be_bytes-to_be_bytes_4}
use Rattle.tbl_kinds.specs.Numbers.{four, piece, byte_at, four_at}
use Rattle.tbl_kinds.specs.Transcript.{EntryFields, IsEntry, entry_spelling, end_bytes}
use Rattle.transcript.specs.declared.reading.EndRecord.{EndRecord}
use Rattle.transcript.specs.declared.reading.EntryHead.{EntryHead}
use Rattle.transcript.specs.Reading.{head_of, BeginsWithEntry, BeginsWithEnd}
use Rattle.transcript.proofs.Pieces.{AreBytes, four_below, split_piece, split_number, split_byte, and_then}

-- where each field of an entry stands
pub record Tells (bytes : List ℕ) (f : EntryFields) (more : List ℕ) : Type 0 where
  pub place : four_at 0 bytes ≡ f.place
  pub actor : byte_at 4 bytes ≡ f.actor
  pub status : four_at 5 bytes ≡ f.status
  pub detail : four_at 9 bytes ≡ f.detail
  pub bytes_len : four_at 13 bytes ≡ length f.bytes
  pub packets_len : four_at (17 + length f.bytes) bytes ≡ length f.packets
  pub len : length bytes ≡ 21 + length f.bytes + length f.packets + length more

-- the 17 bytes before an entry's bytes
front_of : EntryFields → List ℕ
front_of f = four f.place ++ f.actor ∷ [] ++ four f.status ++ four f.detail ++ four (length f.bytes)

regroup : (f : EntryFields) (more : List ℕ) → entry_spelling f ++ more ≡ (front_of f ++ f.bytes) ++ (four (length f.packets) ++ (f.packets ++ more))
unfolding entry_spelling front_of
regroup f more = simp append_assoc

length-front : (f : EntryFields) → length (front_of f) ≡ 17
unfolding front_of
length-front f = refl

tells_spelling : (f : EntryFields) (more : List ℕ) → IsEntry f → Tells (entry_spelling f ++ more) f more
unfolding entry_spelling
tells_spelling f more is =
    let front : length (front_of f ++ f.bytes) ≡ 17 + length f.bytes = omega (arith, length-append (front_of f) f.bytes, length-front f) in
    let behind : drop (17 + length f.bytes) (entry_spelling f ++ more) ≡ four (length f.packets) ++ (f.packets ++ more) =
    ap (drop (17 + length f.bytes)) (regroup f more) ∙ drop_at (front_of f ++ f.bytes) (four (length f.packets) ++ (f.packets ++ more)) (17 + length f.bytes) front in
    record {
      place = from_be_bytes-to_be_bytes_4 f.place (omega (arith, is.place));
      actor = refl;
      status = from_be_bytes-to_be_bytes_4 f.status is.status;
      detail = from_be_bytes-to_be_bytes_4 f.detail is.detail;
      bytes_len = from_be_bytes-to_be_bytes_4 (length f.bytes) is.bytes;
      packets_len = rw behind (from_be_bytes-to_be_bytes_4 (length f.packets) is.packets);
      len = ap length (regroup f more) ∙ omega (arith, front, length-append (front_of f ++ f.bytes) (four (length f.packets) ++ (f.packets ++ more)), length-append f.packets more);
    }

pub tells : (bytes : List ℕ) (f : EntryFields) (more : List ℕ) → IsEntry f → bytes ≡ entry_spelling f ++ more → Tells bytes f more
tells bytes f more is e = subst (λ s. Tells s f more) (sym e) (tells_spelling f more is)

abbrev some_entry : EntryHead → Option EntryHead
some_entry head = Some head

-- what stands at those places
pub record ReadAt (bytes : List ℕ) (head : EntryHead) : Type 0 where
  pub place_is : head.place ≡ four_at 0 bytes
  pub actor_is : head.actor ≡ byte_at 4 bytes
  pub status_is : head.status ≡ four_at 5 bytes
  pub detail_is : head.detail ≡ four_at 9 bytes
  pub bytes_len_is : head.bytes_len ≡ four_at 13 bytes
  pub packets_len_is : head.packets_len ≡ four_at (17 + head.bytes_len) bytes

pub read_at : {bytes : List ℕ} {head : EntryHead} → head.place ≡ four_at 0 bytes → head.actor ≡ byte_at 4 bytes → head.status ≡ four_at 5 bytes → head.detail ≡ four_at 9 bytes
    → head.bytes_len ≡ four_at 13 bytes → head.packets_len ≡ four_at (17 + head.bytes_len) bytes → ReadAt bytes head
read_at p a s d n m = record { place_is = p; actor_is = a; status_is = s; detail_is = d; bytes_len_is = n; packets_len_is = m }

head_from : ℕ → ℕ → ℕ → ℕ → ℕ → ℕ → EntryHead
head_from p a s d n m = record { place = p; actor = a; status = s; detail = d; bytes_len = n; packets_len = m }

same_head : (p q a b s t d e n k m l : ℕ) → p ≡ q → a ≡ b → s ≡ t → d ≡ e → n ≡ k → m ≡ l → head_from p a s d n m ≡ head_from q b t e k l
same_head p q a b s t d e n k m l h1 h2 h3 h4 h5 h6 = rw (h1, h2, h3, h4, h5, h6) refl

-- what is read there is the head of the entry that was written
pub entry_again : (bytes : List ℕ) (f : EntryFields) (more : List ℕ) (head : EntryHead) → Tells bytes f more → ReadAt bytes head → some_entry head ≡ Some (head_of f)
unfolding head_from
entry_again bytes f more head t r =
    let n = r.bytes_len_is ∙ t.bytes_len in
    let m : head.packets_len ≡ length f.packets = r.packets_len_is ∙ ap (λ k. four_at (17 + k) bytes) n ∙ t.packets_len in
    ap some_entry (same_head head.place f.place head.actor f.actor head.status f.status head.detail f.detail head.bytes_len (length f.bytes) head.packets_len (length f.packets)
    (r.place_is ∙ t.place) (r.actor_is ∙ t.actor) (r.status_is ∙ t.status) (r.detail_is ∙ t.detail) n m)

-- an entry's bytes are its fields one after another
pub made_of : (bytes : List ℕ) (n m : ℕ) → AreBytes bytes → four_at 13 bytes ≡ n → four_at (17 + n) bytes ≡ m → 21 + n + m ≤ length bytes
    → bytes ≡ entry_spelling (record { place = four_at 0 bytes; actor = byte_at 4 bytes; status = four_at 5 bytes; detail = four_at 9 bytes; bytes = piece 17 n bytes; packets = piece (21 + n) m bytes }) ++ drop (21 + n + m) bytes
unfolding entry_spelling
made_of bytes n m fits n-is m-is le =
    let s0 = split_number 0 bytes fits (omega arith) in
    let s4 = split_byte 4 bytes (omega arith) in
    let s5 = split_number 5 bytes fits (omega arith) in
    let s9 = split_number 9 bytes fits (omega arith) in
    let s13 = split_number 13 bytes fits (omega arith) in
    let s17 = split_piece 17 n bytes in
    let k : drop (17 + n) bytes ≡ four (four_at (17 + n) bytes) ++ drop (21 + n) bytes = split_number (17 + n) bytes fits (omega arith) ∙ ap (λ (p : ℕ). four (four_at (17 + n) bytes) ++ drop p bytes) (omega arith) in
    let s21 = split_piece (21 + n) m bytes in
    let n-len : n ≡ length (piece 17 n bytes) = omega (arith, length-take n (drop 17 bytes), length-drop 17 bytes) in
    let m-len : m ≡ length (piece (21 + n) m bytes) = omega (arith, length-take m (drop (21 + n) bytes), length-drop (21 + n) bytes) in
    let a = four (four_at 0 bytes) in
    let b = byte_at 4 bytes ∷ [] in
    let c = four (four_at 5 bytes) in
    let d = four (four_at 9 bytes) in
    let e : four (four_at 13 bytes) ≡ four (length (piece 17 n bytes)) = ap four (n-is ∙ n-len) in
    let g : four (four_at (17 + n) bytes) ≡ four (length (piece (21 + n) m bytes)) = ap four (m-is ∙ m-len) in
    let t1 = and_then bytes a (drop 4 bytes) b (drop 5 bytes) s0 s4 in
    let t2 = and_then bytes (a ++ b) (drop 5 bytes) c (drop 9 bytes) t1 s5 in
    let t3 = and_then bytes (a ++ b ++ c) (drop 9 bytes) d (drop 13 bytes) t2 s9 in
    let t4 = and_then bytes (a ++ b ++ c ++ d) (drop 13 bytes) (four (length (piece 17 n bytes))) (drop 17 bytes) t3 (s13 ∙ ap (λ (s : List ℕ). s ++ drop 17 bytes) e) in
    let t5 = and_then bytes (a ++ b ++ c ++ d ++ four (length (piece 17 n bytes))) (drop 17 bytes) (piece 17 n bytes) (drop (17 + n) bytes) t4 s17 in
    let t6 = and_then bytes (a ++ b ++ c ++ d ++ four (length (piece 17 n bytes)) ++ piece 17 n bytes) (drop (17 + n) bytes) (four (length (piece (21 + n) m bytes))) (drop (21 + n) bytes) t5 (k ∙ ap (λ (s : List ℕ). s ++ drop (21 + n) bytes) g) in
    and_then bytes (a ++ b ++ c ++ d ++ four (length (piece 17 n bytes)) ++ piece 17 n bytes ++ four (length (piece (21 + n) m bytes))) (drop (21 + n) bytes) (piece (21 + n) m bytes) (drop (21 + n + m) bytes) t6 s21

pub entry_found : (bytes : List ℕ) (head : EntryHead) → AreBytes bytes → ReadAt bytes head → head.place < 2 ^ 32 - 1 → head.actor ≤ 16 → 21 + head.bytes_len + head.packets_len ≤ length bytes → BeginsWithEntry bytes head
unfolding head_from
entry_found bytes head fits r place actor le =
    let n = head.bytes_len in
    let m = head.packets_len in
    let n-len : n ≡ length (piece 17 n bytes) = omega (arith, length-take n (drop 17 bytes), length-drop 17 bytes) in
    let m-len : m ≡ length (piece (21 + n) m bytes) = omega (arith, length-take m (drop (21 + n) bytes), length-drop (21 + n) bytes) in
    record {
      fields = record { place = four_at 0 bytes; actor = byte_at 4 bytes; status = four_at 5 bytes; detail = four_at 9 bytes; bytes = piece 17 n bytes; packets = piece (21 + n) m bytes };
      is_entry = record {
        place = omega (arith, r.place_is, place);
        actor = omega (arith, r.actor_is, actor);
        status = four_below 5 bytes fits;
        detail = four_below 9 bytes fits;
        bytes = let b = four_below 13 bytes fits in omega (arith, b, r.bytes_len_is, n-len);
        packets = let b = four_below (17 + n) bytes fits in omega (arith, b, r.packets_len_is, m-len);
      };
      is_head = same_head head.place (four_at 0 bytes) head.actor (byte_at 4 bytes) head.status (four_at 5 bytes) head.detail (four_at 9 bytes) n (length (piece 17 n bytes)) m (length (piece (21 + n) m bytes))
          r.place_is r.actor_is r.status_is r.detail_is n-len m-len;
      more = drop (21 + n + m) bytes;
      parts = made_of bytes n m fits (sym r.bytes_len_is) (sym r.packets_len_is) le;
    }

-- ---- the end record

-- where each field of an end record stands
pub record TellsEnd (bytes : List ℕ) (end : EndRecord) (more : List ℕ) : Type 0 where
  pub mark : four_at 0 bytes ≡ 0xFFFFFFFF
  pub status : byte_at 4 bytes ≡ end.status
  pub count : four_at 5 bytes ≡ end.count
  pub offset : four_at 9 bytes ≡ end.offset
  pub len : length bytes ≡ 13 + length more

abbrev some_end : EndRecord → Option EndRecord
some_end end = Some end

tells_end_spelling : (end : EndRecord) (more : List ℕ) → end.count < 2 ^ 32 → end.offset < 2 ^ 32 → TellsEnd (end_bytes end.status end.count end.offset ++ more) end more
unfolding end_bytes
tells_end_spelling end more c-fits o-fits = record {
  mark = refl;
  status = refl;
  count = from_be_bytes-to_be_bytes_4 end.count c-fits;
  offset = from_be_bytes-to_be_bytes_4 end.offset o-fits;
  len = omega arith;
}

pub tells_end : (bytes : List ℕ) (end : EndRecord) (more : List ℕ) → end.count < 2 ^ 32 → end.offset < 2 ^ 32 → bytes ≡ end_bytes end.status end.count end.offset ++ more → TellsEnd bytes end more
tells_end bytes end more c-fits o-fits e = subst (λ s. TellsEnd s end more) (sym e) (tells_end_spelling end more c-fits o-fits)

-- what is read at those places is the record that was written
pub end_again : (bytes : List ℕ) (end : EndRecord) (more : List ℕ) (status count offset : ℕ) → TellsEnd bytes end more → status ≡ byte_at 4 bytes → count ≡ four_at 5 bytes → offset ≡ four_at 9 bytes
    → some_end (record { status = status; count = count; offset = offset }) ≡ Some end
end_again bytes end more status count offset t s c o = rw (s ∙ t.status, c ∙ t.count, o ∙ t.offset) refl

pub end_made_of : (bytes : List ℕ) → AreBytes bytes → four_at 0 bytes ≡ 0xFFFFFFFF → 13 ≤ length bytes → bytes ≡ end_bytes (byte_at 4 bytes) (four_at 5 bytes) (four_at 9 bytes) ++ drop 13 bytes
unfolding end_bytes
end_made_of bytes fits mark le =
    let s0 : bytes ≡ four 0xFFFFFFFF ++ drop 4 bytes = split_number 0 bytes fits (omega arith) ∙ ap (λ (n : ℕ). four n ++ drop 4 bytes) mark in
    let s4 = split_byte 4 bytes (omega arith) in
    let s5 = split_number 5 bytes fits (omega arith) in
    let s9 = split_number 9 bytes fits (omega arith) in
    let a = four 0xFFFFFFFF in
    let b = byte_at 4 bytes ∷ [] in
    let c = four (four_at 5 bytes) in
    let t1 = and_then bytes a (drop 4 bytes) b (drop 5 bytes) s0 s4 in
    let t2 = and_then bytes (a ++ b) (drop 5 bytes) c (drop 9 bytes) t1 s5 in
    and_then bytes (a ++ b ++ c) (drop 9 bytes) (four (four_at 9 bytes)) (drop 13 bytes) t2 s9

-- an end record is no entry
pub apart : (f : EntryFields) (status count offset : ℕ) (more others : List ℕ) → IsEntry f → entry_spelling f ++ more ≡ end_bytes status count offset ++ others → ⊥
unfolding end_bytes
apart f status count offset more others is e =
    let t = tells_spelling f more is in
    let mark : four_at 0 (entry_spelling f ++ more) ≡ 0xFFFFFFFF = ap (four_at 0) e in
    omega (arith, is.place, t.place, mark)

pub end_found : (bytes : List ℕ) (end : EndRecord) → AreBytes bytes → four_at 0 bytes ≡ 0xFFFFFFFF → 13 ≤ length bytes → end.status ≡ byte_at 4 bytes → end.count ≡ four_at 5 bytes → end.offset ≡ four_at 9 bytes → BeginsWithEnd bytes end
end_found bytes end fits mark le s c o = record {
  more = drop 13 bytes;
  parts = rw (s, c, o) (end_made_of bytes fits mark le);
}
