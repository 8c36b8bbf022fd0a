-- Table files are read exactly, and written ones are table files.
use Rattle.std.proofs.Common.{◌≡◌, ℕ, ◌+◌, ◌^◌, ◌<◌, true, false, not, ltb, List, ◌++◌, length, drop, None, refl, sym, ap, ◌∙◌, append_assoc, eq-eqb, arith, [], ◌⊎◌, inl, inr}
use Rattle.std.specs.Prelude.{◌==◌, nat_lt}
use Rattle.std.proofs.lemmas.List.{length-append, length-drop, drop_at}
use Rattle.std.proofs.lemmas.Nat.{from_be_bytes-to_be_bytes_4}
use Rattle.std.specs.Int.{w32, from_be_bytes}
use Rattle.std.proofs.lemmas.Bool.{ltb-false, le-ltb, eqb-true}
use Rattle.tbl_kinds.specs.Fields.{AreBytes}
use Rattle.tbl_kinds.specs.Numbers.{four, piece, four_at}
use Rattle.tbl_kinds.specs.Names.{name_in, name_field}
use Rattle.tbl_kinds.specs.Headers.{Header, IsHeader, content_type, file_header, header_flaw, header_in}
use Rattle.tbl_kinds.specs.Admitted.{Admitted, Admits, is_admitted, all_admitted}
use Rattle.tbl_kinds.specs.TableFiles.{TableFile, IsWritable, IsTableFile, no_std_header, bad_content, bad_subtype, bad_spacecraft, bad_processor, no_table_header, incomplete, too_big, table_subtype, file_with, table_file, file_flaw, table_file_in, spacecraft_in, processor_in, stated_count}
use Rattle.table_files.specs.Readings.{IsReadAs, AreAlike, TellTheSame}
use Rattle.cfe_headers.proofs.Chains.{passed, not_false}
use Rattle.cfe_headers.proofs.Pieces.{four_below, split_piece, split_four, length-piece, piece_behind}
use Rattle.cfe_headers.proofs.NameFields.{reads-name_field}
use Rattle.cfe_headers.proofs.HeaderLaws as headers

-- ---- where the parts of a table file stand

record HasParts (bytes : List ℕ) (header : Header) (offset : ℕ) (field image : List ℕ) : Type 0 where
  len : length bytes ≡ 116 + length image
  content : four_at 0 bytes ≡ content_type
  subtype : four_at 4 bytes ≡ table_subtype
  spacecraft : spacecraft_in bytes ≡ header.spacecraft
  processor : processor_in bytes ≡ header.processor
  offset_is : four_at 68 bytes ≡ offset
  stated : stated_count bytes ≡ length image
  field_is : piece 76 40 bytes ≡ field
  image_is : drop 116 bytes ≡ image

number_behind : (front rest bytes : List ℕ) (place n : ℕ) → length front ≡ place → n < 2 ^ 32 → bytes ≡ front ++ (four n ++ rest) → four_at place bytes ≡ n
number_behind front rest bytes place n len lt e =
    ap (four_at place) e ∙ ap (from_be_bytes w32) (piece_behind front (four n) rest place 4 len refl) ∙ from_be_bytes-to_be_bytes_4 n lt

stands : (header : Header) (reserved : List ℕ) (offset : ℕ) (field image : List ℕ) → IsHeader header → header.subtype ≡ table_subtype → length reserved ≡ 4 → length field ≡ 40 → offset < 2 ^ 32 → length image < 2 ^ 32
    → HasParts (file_with header reserved offset field image) header offset field image
unfolding file_with
stands header reserved offset field image is subtype reserved-len field-len offset-fits image-fits =
    let h = file_header header in
    let n = length image in
    let h-len : length h ≡ 64 = headers.length-file_header header is in
    let more : List ℕ = reserved ++ (four offset ++ (four n ++ (field ++ image))) in
    let a : List ℕ = h ++ reserved in
    let b : List ℕ = a ++ four offset in
    let c : List ℕ = b ++ four n in
    let d : List ℕ = c ++ field in
    let a-len : length a ≡ 68 = omega (arith, length-append h reserved) in
    let b-len : length b ≡ 72 = omega (arith, length-append a (four offset)) in
    let c-len : length c ≡ 76 = omega (arith, length-append b (four n)) in
    let d-len : length d ≡ 116 = omega (arith, length-append c field) in
    let a-is : h ++ more ≡ a ++ (four offset ++ (four n ++ (field ++ image))) = sym (append_assoc h reserved (four offset ++ (four n ++ (field ++ image)))) in
    let b-is : h ++ more ≡ b ++ (four n ++ (field ++ image)) = a-is ∙ sym (append_assoc a (four offset) (four n ++ (field ++ image))) in
    let c-is : h ++ more ≡ c ++ (field ++ image) = b-is ∙ sym (append_assoc b (four n) (field ++ image)) in
    let d-is : h ++ more ≡ d ++ image = c-is ∙ sym (append_assoc c field image) in
    record {
      len = ap length d-is ∙ length-append d image ∙ ap (λ (k : ℕ). k + n) d-len;
      content = headers.content_of header more;
      subtype = ap (λ (x : Header). x.subtype) (headers.reads header more is).same ∙ subtype;
      spacecraft = ap (λ (x : Header). x.spacecraft) (headers.reads header more is).same;
      processor = ap (λ (x : Header). x.processor) (headers.reads header more is).same;
      offset_is = number_behind a (four n ++ (field ++ image)) (h ++ more) 68 offset a-len offset-fits a-is;
      stated = number_behind b (field ++ image) (h ++ more) 72 n b-len image-fits b-is;
      field_is = ap (piece 76 40) c-is ∙ piece_behind c field image 76 40 c-len field-len;
      image_is = ap (λ (s : List ℕ). drop 116 s) d-is ∙ drop_at d image 116 d-len;
    }

file_stands : (admit : Admitted) (bytes : List ℕ) (file : TableFile) (is : IsTableFile admit bytes file) → HasParts bytes is.header file.offset is.field file.image
file_stands admit bytes file is =
    rw is.parts (stands is.header is.reserved file.offset is.field file.image is.is_header is.subtype is.reserved_len is.name.len is.offset_fits is.image_fits)

-- ---- table files are read

pub accepted : (admit : Admitted) (bytes : List ℕ) (file : TableFile) → IsTableFile admit bytes file → file_flaw admit bytes ≡ None
accepted admit bytes file is =
    let s = file_stands admit bytes file is in
    let spacecraft : is_admitted admit.spacecraft (spacecraft_in bytes) ≡ true = ap (is_admitted admit.spacecraft) s.spacecraft ∙ is.admitted.spacecraft in
    let processor : is_admitted admit.processor (processor_in bytes) ≡ true = ap (is_admitted admit.processor) s.processor ∙ is.admitted.processor in
    let one : ltb (length bytes) 64 ≡ false = le-ltb (length bytes) 64 (omega (arith, s.len)) in
    let two : ltb (length bytes) 116 ≡ false = le-ltb (length bytes) 116 (omega (arith, s.len)) in
    let three : ltb (length bytes) (116 + stated_count bytes) ≡ false = le-ltb (length bytes) (116 + stated_count bytes) (omega (arith, s.len, s.stated)) in
    let four : ltb (116 + stated_count bytes) (length bytes) ≡ false = le-ltb (116 + stated_count bytes) (length bytes) (omega (arith, s.len, s.stated)) in
    rw (one, eq-eqb _ _ s.content, eq-eqb _ _ s.subtype, spacecraft, processor, two, three, four) refl

pub same : (admit : Admitted) (bytes : List ℕ) (file : TableFile) → IsTableFile admit bytes file → table_file_in bytes ≡ file
same admit bytes file is =
    let s = file_stands admit bytes file is in
    rw (s.offset_is, s.field_is, is.name.reads, s.image_is) refl

pub reads : (admit : Admitted) (bytes : List ℕ) (file : TableFile) → IsTableFile admit bytes file → IsReadAs admit file bytes
reads admit bytes file is = record { accepted = accepted admit bytes file is; same = same admit bytes file is }

-- ---- nothing else is read

record Passes (admit : Admitted) (bytes : List ℕ) : Type 0 where
  header : header_flaw bytes ≡ None
  subtype : four_at 4 bytes ≡ table_subtype
  spacecraft : is_admitted admit.spacecraft (spacecraft_in bytes) ≡ true
  processor : is_admitted admit.processor (processor_in bytes) ≡ true
  len : length bytes ≡ 116 + stated_count bytes

passes : (admit : Admitted) (bytes : List ℕ) → file_flaw admit bytes ≡ None → Passes admit bytes
passes admit bytes none =
    let a = passed (nat_lt (length bytes) 64) no_std_header _ none in
    let b = passed (not (four_at 0 bytes == content_type)) bad_content _ a.1 in
    let c = passed (not (four_at 4 bytes == table_subtype)) bad_subtype _ b.1 in
    let spacecraft = passed (not (is_admitted admit.spacecraft (spacecraft_in bytes))) (bad_spacecraft (spacecraft_in bytes)) _ c.1 in
    let processor = passed (not (is_admitted admit.processor (processor_in bytes))) (bad_processor (processor_in bytes)) _ spacecraft.1 in
    let d = passed (nat_lt (length bytes) 116) no_table_header _ processor.1 in
    let e = passed (nat_lt (length bytes) (116 + stated_count bytes)) incomplete _ d.1 in
    let f = passed (nat_lt (116 + stated_count bytes) (length bytes)) too_big None e.1 in
    let least = ltb-false (length bytes) (116 + stated_count bytes) e.0 in
    let most = ltb-false (116 + stated_count bytes) (length bytes) f.0 in
    record {
      header = rw (a.0, b.0) refl;
      subtype = eqb-true (four_at 4 bytes) table_subtype (not_false _ c.0);
      spacecraft = not_false _ spacecraft.0;
      processor = not_false _ processor.0;
      len = omega (arith, least, most);
    }

pub only : (admit : Admitted) (bytes : List ℕ) → AreBytes bytes → file_flaw admit bytes ≡ None → IsTableFile admit bytes (table_file_in bytes)
unfolding file_with
only admit bytes fits none =
    let p = passes admit bytes none in
    let begins = headers.begins bytes fits p.header in
    let count-is : stated_count bytes ≡ length (drop 116 bytes) = omega (arith, p.len, length-drop 116 bytes) in
    let s76 : drop 76 bytes ≡ piece 76 40 bytes ++ drop 116 bytes = split_piece 76 40 bytes in
    let s72 : drop 72 bytes ≡ four (length (drop 116 bytes)) ++ (piece 76 40 bytes ++ drop 116 bytes) =
    split_four 72 bytes fits (omega (arith, p.len)) ∙ ap (λ (k : ℕ). four k ++ drop 76 bytes) count-is ∙ ap (λ (s : List ℕ). four (length (drop 116 bytes)) ++ s) s76 in
    let s68 : drop 68 bytes ≡ four (four_at 68 bytes) ++ (four (length (drop 116 bytes)) ++ (piece 76 40 bytes ++ drop 116 bytes)) =
    split_four 68 bytes fits (omega (arith, p.len)) ∙ ap (λ (s : List ℕ). four (four_at 68 bytes) ++ s) s72 in
    let s64 = split_piece 64 4 bytes ∙ ap (λ (s : List ℕ). piece 64 4 bytes ++ s) s68 in
    record {
      header = header_in bytes;
      reserved = piece 64 4 bytes;
      field = piece 76 40 bytes;
      parts = begins.spelled ∙ ap (λ (s : List ℕ). file_header (header_in bytes) ++ s) s64;
      is_header = begins.is_header;
      subtype = p.subtype;
      admitted = record { spacecraft = p.spacecraft; processor = p.processor };
      reserved_len = length-piece 64 4 bytes (omega (arith, p.len));
      name = record { len = length-piece 76 40 bytes (omega (arith, p.len)); reads = refl };
      offset_fits = four_below 68 bytes fits;
      image_fits = let b = four_below 72 bytes fits in omega (arith, b, count-is);
    }

-- ---- written files

pub written : (admit : Admitted) (header : Header) (file : TableFile) → IsWritable header file → Admits admit header → IsTableFile admit (table_file header file) file
written admit header file is admitted = record {
  header = header;
  reserved = four 0;
  field = name_field 40 file.name;
  parts = refl;
  is_header = is.is_header;
  subtype = is.subtype;
  admitted = admitted;
  reserved_len = refl;
  name = reads-name_field 40 file.name is.name_fits is.no_zero;
  offset_fits = is.offset_fits;
  image_fits = is.image_fits;
}

pub length-table_file : (header : Header) (file : TableFile) → IsWritable header file → length (table_file header file) ≡ 116 + length file.image
length-table_file header file is = (file_stands all_admitted (table_file header file) file (written all_admitted header file is (record { spacecraft = refl; processor = refl }))).len

-- ---- what isn't looked at

pub same_flaw : (admit : Admitted) (a b : List ℕ) → AreAlike admit a b → file_flaw admit a ≡ file_flaw admit b
same_flaw admit a b alike = by_lists alike.spacecraft alike.processor where
  by_lists : (admit.spacecraft ≡ []) ⊎ (spacecraft_in a ≡ spacecraft_in b) → (admit.processor ≡ []) ⊎ (processor_in a ≡ processor_in b) → file_flaw admit a ≡ file_flaw admit b
  by_lists (inl none) (inl nil) = rw (alike.len, alike.content, alike.subtype, none, nil, alike.count) refl
  by_lists (inl none) (inr processor) = rw (alike.len, alike.content, alike.subtype, none, processor, alike.count) refl
  by_lists (inr spacecraft) (inl nil) = rw (alike.len, alike.content, alike.subtype, spacecraft, nil, alike.count) refl
  by_lists (inr spacecraft) (inr processor) = rw (alike.len, alike.content, alike.subtype, spacecraft, processor, alike.count) refl

pub same_file : (a b : List ℕ) → TellTheSame a b → table_file_in a ≡ table_file_in b
same_file a b told = rw (told.offset, told.name, told.image) refl
