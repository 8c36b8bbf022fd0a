-- File headers are read exactly, and written ones are read again.
use Rattle.std.proofs.Common.{◌≡◌, ℕ, ◌+◌, ◌≤◌, false, not, ltb, List, ◌++◌, length, drop, None, refl, ap, ◌∙◌, lit≤, arith}
use Rattle.std.specs.Prelude.{◌==◌, nat_lt}
use Rattle.std.proofs.lemmas.List.{length-append, take_at}
use Rattle.std.proofs.lemmas.Nat.{from_be_bytes-to_be_bytes_4}
use Rattle.std.proofs.lemmas.Bool.{ltb-false, le-ltb, eqb-true}
use Rattle.tbl_kinds.specs.Fields.{AreBytes}
use Rattle.tbl_kinds.specs.Numbers.{four, four_at}
use Rattle.tbl_kinds.specs.Headers.{Header, IsHeader, short_header, other_content, content_type, file_header, header_flaw, header_in}
use Rattle.cfe_headers.specs.Readings.{ReadsHeader, BeginsWithHeader}
use Rattle.cfe_headers.proofs.Chains.{passed, not_false}
use Rattle.cfe_headers.proofs.Pieces.{four_below, split_four, split_piece, length-piece}

-- ---- written headers

pub length-file_header : (h : Header) → IsHeader h → length (file_header h) ≡ 64
unfolding file_header
length-file_header h is = omega (arith, is.description_fills)

accepted : (h : Header) (more : List ℕ) → IsHeader h → header_flaw (file_header h ++ more) ≡ None
unfolding file_header
accepted h more is =
    let long : ltb (length (file_header h ++ more)) 64 ≡ false = le-ltb (length (file_header h ++ more)) 64 (omega (arith, is.description_fills, length-append h.description more)) in
    rw long refl

pub content_of : (h : Header) (more : List ℕ) → four_at 0 (file_header h ++ more) ≡ content_type
unfolding file_header
content_of h more = refl

same : (h : Header) (more : List ℕ) → IsHeader h → header_in (file_header h ++ more) ≡ h
unfolding file_header
same h more is =
    rw (
      from_be_bytes-to_be_bytes_4 h.subtype is.subtype_fits,
      from_be_bytes-to_be_bytes_4 h.length is.length_fits,
      from_be_bytes-to_be_bytes_4 h.spacecraft is.spacecraft_fits,
      from_be_bytes-to_be_bytes_4 h.processor is.processor_fits,
      from_be_bytes-to_be_bytes_4 h.application is.application_fits,
      from_be_bytes-to_be_bytes_4 h.seconds is.seconds_fits,
      from_be_bytes-to_be_bytes_4 h.sub is.sub_fits,
      take_at h.description more 32 is.description_fills,
    ) refl

pub reads : (h : Header) (more : List ℕ) → IsHeader h → ReadsHeader h more
reads h more is = record { accepted = accepted h more is; same = same h more is }

-- ---- headers that are read

record Passes (bytes : List ℕ) : Type 0 where
  long : 64 ≤ length bytes
  content : four_at 0 bytes ≡ content_type

passes : (bytes : List ℕ) → header_flaw bytes ≡ None → Passes bytes
passes bytes none =
    let a = passed (nat_lt (length bytes) 64) short_header _ none in
    let b = passed (not (four_at 0 bytes == content_type)) other_content None a.1 in
    record {
      long = ltb-false (length bytes) 64 a.0;
      content = eqb-true (four_at 0 bytes) content_type (not_false _ b.0);
    }

is_header : (bytes : List ℕ) → AreBytes bytes → header_flaw bytes ≡ None → IsHeader (header_in bytes)
is_header bytes fits none =
    let p = passes bytes none in
    record {
      subtype_fits = four_below 4 bytes fits;
      length_fits = four_below 8 bytes fits;
      spacecraft_fits = four_below 12 bytes fits;
      processor_fits = four_below 16 bytes fits;
      application_fits = four_below 20 bytes fits;
      seconds_fits = four_below 24 bytes fits;
      sub_fits = four_below 28 bytes fits;
      description_fills = length-piece 32 32 bytes p.long;
    }

spelled : (bytes : List ℕ) → AreBytes bytes → header_flaw bytes ≡ None → bytes ≡ file_header (header_in bytes) ++ drop 64 bytes
unfolding file_header
spelled bytes fits none =
    let p = passes bytes none in
    let s0 : bytes ≡ four content_type ++ drop 4 bytes = split_four 0 bytes fits (omega (arith, p.long)) ∙ ap (λ (n : ℕ). four n ++ drop 4 bytes) p.content in
    let next : (place : ℕ) → place ≤ 60 → drop place bytes ≡ four (four_at place bytes) ++ drop (place + 4) bytes = λ place le. split_four place bytes fits (omega (arith, le, p.long)) in
    let before : (n : ℕ) (a b : List ℕ) → a ≡ b → four n ++ a ≡ four n ++ b = λ n a b e. ap (λ (s : List ℕ). four n ++ s) e in
    let s28 = next 28 (lit≤ tt) ∙ before (four_at 28 bytes) _ _ (split_piece 32 32 bytes) in
    let s24 = next 24 (lit≤ tt) ∙ before (four_at 24 bytes) _ _ s28 in
    let s20 = next 20 (lit≤ tt) ∙ before (four_at 20 bytes) _ _ s24 in
    let s16 = next 16 (lit≤ tt) ∙ before (four_at 16 bytes) _ _ s20 in
    let s12 = next 12 (lit≤ tt) ∙ before (four_at 12 bytes) _ _ s16 in
    let s8 = next 8 (lit≤ tt) ∙ before (four_at 8 bytes) _ _ s12 in
    let s4 = next 4 (lit≤ tt) ∙ before (four_at 4 bytes) _ _ s8 in
    s0 ∙ before content_type _ _ s4

pub begins : (bytes : List ℕ) → AreBytes bytes → header_flaw bytes ≡ None → BeginsWithHeader bytes
begins bytes fits none = record { is_header = is_header bytes fits none; spelled = spelled bytes fits none }
