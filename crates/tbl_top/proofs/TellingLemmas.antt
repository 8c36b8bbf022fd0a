-- The entries of a history, written one after the other.
use Rattle.std.proofs.Common.{◌≡◌, ℕ, ◌+◌, ◌<◌, ◌≤◌, List, [], ◌∷◌, ◌++◌, length, take, drop, get_or, Option, Some, None, sym, ap, subst, ◌∙◌, arith}
use Rattle.std.proofs.Math.Nat.{mod-eq_of_lt}
use Rattle.std.proofs.lemmas.List.{append-nil, length-take, take_more, take-append-drop}
use Rattle.std.specs.Io.KnownBytes.{append_known}
use Rattle.tbl_kinds.specs.Records.{record_limit}
use Rattle.tbl_kinds.specs.Transcript.{entry_bytes}
use Rattle.tbl_kinds.specs.declared.entry.Entry.{Entry}
use Rattle.tbl_outside.specs.Counts.{Rose}
use Rattle.tbl_outside.specs.Streams.{TakesFront}
use Rattle.tbl_outside.proofs.Streams.{append_known-nil, front_of_first, front_of_second, written_more}
use Rattle.tbl_stream.specs.Places.{place_of, told_from}
use Rattle.tbl_stream.specs.Standing.{IsWritten}
use Rattle.tbl_stream.specs.Writing.{Taken, Wrote}
use Rattle.tbl_stream.specs.declared.standing.Standing.{Standing}
use Rattle.tbl_stream.specs.declared.standing.Standing.TheVariants.{Open, Bad, TooMany, Full, BootFault, BootStopped, SinkFailed, Memory, Unwritten}
use Rattle.tbl_stream.proofs.Rounds.{told_append}
use Rattle.tbl_top.specs.Telling.{WroteAll}

-- a write of the entry at a place, after those before it
module _ (entries : List Entry) (place : ℕ) (e : Entry) (within : place < length entries) (is : e ≡ get_or entries place e) (few : length entries ≤ record_limit) (first mid after : Taken)
    (written : IsWritten 0 (take place entries) first.0 mid.0) (still : mid.1 ≡ first.1) where
  abbrev front : List Entry
  front = take place entries

  abbrev more : List Entry
  more = take (place + 1) entries

  told_more : told_from 0 more ≡ told_from 0 front ++ entry_bytes place e
  told_more =
      let at : place_of (0 + length front) ≡ place = ap place_of (omega (arith, length-take place entries)) ∙ mod-eq_of_lt (omega (arith, within, few)) in
      ap (told_from 0) (take_more entries place e within ∙ ap (λ (x : Entry). front ++ x ∷ []) (sym is)) ∙ told_append 0 front (e ∷ [])
      ∙ ap (λ (s : List ℕ). told_from 0 front ++ s) (append-nil (entry_bytes (place_of (0 + length front)) e) ∙ ap (λ n. entry_bytes n e) at)

  pub written_next : Wrote None (entry_bytes place e) mid after → IsWritten 0 more first.0 after.0
  written_next w = written_more first.0 mid.0 after.0 (told_from 0 front) (entry_bytes place e) written w.0 ∙ ap (append_known first.0) (sym told_more)

  -- a front of this entry is a front of all
  front_of_all : TakesFront mid.0 after.0 (entry_bytes place e) → TakesFront first.0 after.0 (told_from 0 entries)
  front_of_all took =
      let rest = drop (place + 1) entries in
      let all : told_from 0 more ++ told_from (0 + length more) rest ≡ told_from 0 entries = sym (told_append 0 more rest) ∙ ap (told_from 0) (take-append-drop (place + 1) entries) in
      subst (λ (s : List ℕ). TakesFront first.0 after.0 s) all
      (front_of_first first.0 after.0 (told_from 0 more) (told_from (0 + length more) rest)
      (subst (λ (s : List ℕ). TakesFront first.0 after.0 s) (sym told_more) (front_of_second first.0 mid.0 after.0 (told_from 0 front) (entry_bytes place e) written took)))

  pub stopped_at : (stop : Standing) → Wrote (Some stop) (entry_bytes place e) mid after → WroteAll (Some stop) entries first after
  stopped_at SinkFailed w = (front_of_all w.0, subst (λ n. Rose n after.1) still w.1)
  stopped_at Unwritten w = (front_of_all (record { count = 0; grown = w.0 ∙ sym (append_known-nil mid.0) }), w.1 ∙ still)
  stopped_at Open w = absurd w
  stopped_at Bad w = absurd w
  stopped_at TooMany w = absurd w
  stopped_at Full w = absurd w
  stopped_at BootFault w = absurd w
  stopped_at BootStopped w = absurd w
  stopped_at Memory w = absurd w
