-- What the sink took of a stream, at its end.
use Rattle.std.proofs.Common.{◌≡◌, ◌≢◌, ℕ, ◌+◌, List, [], ◌∷◌, ◌++◌, length, take, Option, refl, sym, ap, subst, ◌∙◌, arith, inl, inr}
use Rattle.std.specs.Prelude.{◌%◌, ◌^◌}
use Rattle.std.proofs.lemmas.List.{append-nil}
use Rattle.std.specs.Io.KnownBytes.{append_known}
use Rattle.tbl_kinds.specs.Records.{joined}
use Rattle.tbl_kinds.specs.Transcript.{pairs_of, entry_bytes, end_bytes}
use Rattle.tbl_kinds.proofs.TranscriptLaws.{offset_is}
use Rattle.tbl_outside.specs.Streams.{TakesFront}
use Rattle.tbl_outside.proofs.Streams.{append_known-nil, append_known-twice, written_more, front_of_first, front_of_second, front_of_whole}
use Rattle.tbl_stream.specs.Places.{place_of, told_from, end_of, told_with_end}
use Rattle.tbl_stream.specs.Playing.{Played}
use Rattle.tbl_stream.specs.Standing.{FrontBy, IsWritten, IsCutShort, Way, WrittenBy, all_written, not_taken, not_spelled}
use Rattle.tbl_stream.specs.Finishing.{FinishesBy, FinishesUnbegun, WritesEnd, end_at}
use Rattle.tbl_stream.specs.Reports.{LacksOne, Tells}
use Rattle.tbl_stream.specs.Writing.{Taken}
use Rattle.tbl_core.specs.declared.service.StartFault.{StartFault}
use Rattle.tbl_core.specs.declared.service.StartFault.TheVariants.{Memory as NoMemory, BootFault as FirstFault, BootStopped as FirstStopped}
use Rattle.tbl_stream.proofs.Rounds.{told_append}
use Rattle.tbl_stream.proofs.StatusLemmas.{not_told}
use Rattle.tbl_kinds.specs.declared.entry.Entry.{Entry}

-- the numbers of the end record are those of the entries that were played from the first place on
pub end_is : {B C : Type 0} (status : ℕ) (m : Played B C) (entries : List Entry) (place offset : ℕ) → place ≡ 0 → offset ≡ 0
    → place_of m.place ≡ place_of (place + length entries) → m.offset % 2 ^ 32 ≡ (offset + length (joined (pairs_of entries))) % 2 ^ 32 → end_at m status ≡ end_of status entries
end_is status m entries place offset none nothing at upto =
    ap (λ n. end_bytes status n (m.offset % 2 ^ 32)) (at ∙ ap place_of (omega (arith, none)))
    ∙ ap (λ n. end_bytes status (place_of (length entries)) n) (upto ∙ ap (λ n. n % 2 ^ 32) (omega (arith, nothing, offset_is entries)))

-- what was cut short is a front of all
pub cut_front : (entries : List Entry) (before taken : Option (List ℕ)) → IsCutShort 0 entries before taken → TakesFront before taken (told_from 0 entries)
cut_front entries before taken cut =
    let spelled : told_from 0 (cut.front ++ cut.last ∷ []) ≡ told_from 0 cut.front ++ entry_bytes (place_of (0 + length cut.front)) cut.last =
    told_append 0 cut.front (cut.last ∷ []) ∙ ap (λ (s : List ℕ). told_from 0 cut.front ++ s) (append-nil (entry_bytes (place_of (0 + length cut.front)) cut.last)) in
    subst (λ (es : List Entry). TakesFront before taken (told_from 0 es)) (sym cut.parts)
    (subst (λ (xs : List ℕ). TakesFront before taken xs) (sym spelled)
    (front_of_second before (append_known before (told_from 0 cut.front)) taken (told_from 0 cut.front) (entry_bytes (place_of (0 + length cut.front)) cut.last) refl
    (record { count = cut.count; grown = cut.grown ∙ sym (append_known-twice before (told_from 0 cut.front) (take cut.count (entry_bytes (place_of (0 + length cut.front)) cut.last))) })))

-- ---- what the sink lacks

-- no entry, if they were written and then something
lacks_none : (entries : List Entry) (before mid after : Option (List ℕ)) (more : List ℕ) → IsWritten 0 entries before mid → after ≡ append_known mid more → LacksOne entries before after
lacks_none entries before mid after more written grown = record {
  front = entries;
  last = [];
  parts = sym (append-nil entries);
  one = omega arith;
  more = more;
  grown = written_more before mid after (told_from 0 entries) more written grown;
}

-- or the last one
lacks_last : (entries : List Entry) (before mid after : Option (List ℕ)) → IsCutShort 0 entries before mid → after ≡ mid → LacksOne entries before after
lacks_last entries before mid after cut same = record {
  front = cut.front;
  last = cut.last ∷ [];
  parts = cut.parts;
  one = omega arith;
  more = take cut.count (entry_bytes (place_of (0 + length cut.front)) cut.last);
  grown = same ∙ cut.grown;
}

pub lacks : (way : Way) (status result : ℕ) (entries : List Entry) (before : Option (List ℕ)) (mid after : Taken) → WrittenBy way 0 entries before mid.0 → FinishesBy way status result (end_of status entries) mid after → LacksOne entries before after.0
lacks all_written status result entries before mid after written (inl w) = lacks_none entries before mid.0 after.0 (end_of status entries) written w.1
lacks all_written status result entries before mid after written (inr w) = lacks_none entries before mid.0 after.0 (take w.1.count (end_of status entries)) written w.1.grown
lacks not_taken status result entries before mid after cut w = lacks_last entries before mid.0 after.0 cut w.1
lacks not_spelled status result entries before mid after cut w = lacks_last entries before mid.0 after.0 cut w.1

-- if the service didn't begin
pub lacks_unbegun : (fault : StartFault) (result : ℕ) (before after : Taken) → FinishesUnbegun fault result before after → LacksOne [] before.0 after.0
lacks_unbegun NoMemory result before after w = lacks_none [] before.0 before.0 after.0 [] (sym (append_known-nil before.0)) (w.1 ∙ sym (append_known-nil before.0))
lacks_unbegun FirstFault result before after w = lacks all_written 7 result [] before.0 before after (sym (append_known-nil before.0)) w
lacks_unbegun FirstStopped result before after w = lacks all_written 8 result [] before.0 before after (sym (append_known-nil before.0)) w

-- ---- by the status

-- what was written entry by entry is a front of all
pub front_by : (way : Way) (entries : List Entry) (before taken : Option (List ℕ)) → WrittenBy way 0 entries before taken → FrontBy way entries before taken
front_by all_written entries before taken written = written
front_by not_taken entries before taken cut = cut_front entries before taken cut
front_by not_spelled entries before taken cut = cut_front entries before taken cut

module _ (status result : ℕ) (entries : List Entry) (would_end : ℕ → Type 0) (before : Option (List ℕ)) (mid after : Taken) where
  -- after whole entries
  tells_end : (status ≢ 4) → would_end status → IsWritten 0 entries before mid.0 → WritesEnd status result (end_of status entries) mid after → Tells result entries would_end before after.0
  tells_end not_four ends_status written (inl w) =
      let all : after.0 ≡ append_known before (told_with_end entries status) = written_more before mid.0 after.0 (told_from 0 entries) (end_of status entries) written w.1 in
      record {
        whole = λ _. rw w.0 all;
        broken = λ four. absurd (not_four (sym w.0 ∙ four));
        starved = λ one. front_of_whole before after.0 (told_with_end entries 1) (all ∙ ap (λ s. append_known before (told_with_end entries s)) (sym w.0 ∙ one));
      }
  tells_end not_four ends_status written (inr w) = record {
    whole = λ ended. absurd (not_told result (inr w.0) ended);
    broken = λ _. inr (status, ends_status, front_of_second before mid.0 after.0 (told_from 0 entries) (end_of status entries) written w.1);
    starved = λ one. absurd (omega (arith, w.0, one));
  }

  pub tells : (way : Way) → (way ≡ all_written → (status ≢ 4) × would_end status) → FrontBy way entries before mid.0 → FinishesBy way status result (end_of status entries) mid after → Tells result entries would_end before after.0
  tells all_written ends written w = let is = ends refl in tells_end is.0 is.1 written w
  -- an entry wasn't written whole, for the sink failed
  tells not_taken ends front w = record {
    whole = λ ended. absurd (not_told result (inr w.0) ended);
    broken = λ _. inl (subst (λ (t : Option (List ℕ)). TakesFront before t (told_from 0 entries)) (sym w.1) front);
    starved = λ one. absurd (omega (arith, w.0, one));
  }
  -- or memory ran out for it
  tells not_spelled ends front w = record {
    whole = λ ended. absurd (not_told result (inl w.0) ended);
    broken = λ four. absurd (omega (arith, w.0, four));
    starved = λ _. subst (λ (t : Option (List ℕ)). TakesFront before t (told_with_end entries 1)) (sym w.1) (front_of_first before mid.0 (told_from 0 entries) (end_of 1 entries) front);
  }
