-- From what is reported of a service to the session.
use Rattle.std.proofs.Common.{◌≡◌, ◌≢◌, ◌+◌, ◌<◌, ◌≤◌, ℕ, eqb, Bool, true, false, List, [], ◌∷◌, ◌++◌, length, Option, Some, refl, sym, ap, subst, ◌∙◌, arith, inl, inr, ℤ}
use Rattle.std.specs.Prelude.{◌%◌, ◌^◌}
use Rattle.std.specs.List.{AllByRecursion}
use Rattle.std.proofs.Math.Nat.{mod-eq_of_lt}
use Rattle.std.proofs.lemmas.List.{length-append, length-map}
use Rattle.std.specs.Io.KnownBytes.{append_known, prepend_known, IsAtEnd}
use Rattle.tbl_kinds.proofs.InputLaws.{are_records}
use Rattle.tbl_kinds.proofs.TranscriptLaws.{offset_is}
use Rattle.tbl_kinds.specs.Records.{Pair, IsRecord, joined, record_limit}
use Rattle.tbl_kinds.specs.Transcript.{pair_of, pairs_of, entry_bytes, entries_bytes, end_bytes, offset_of, transcript}
use Rattle.tbl_kinds.specs.declared.entry.Entry.{Entry}
use Rattle.tbl_kinds.specs.StoreSteps.{Shows}
use Rattle.cds_layout.specs.Images.{store_of}
use Rattle.tbl_core.specs.Service.{CoreView, StartCounted}
use Rattle.tbl_core.specs.declared.service.StartFault.{StartFault}
use Rattle.tbl_outside.specs.Bank.{LeavesOnly}
use Rattle.tbl_outside.specs.Streams.{TakesFront}
use Rattle.tbl_outside.specs.declared.bank.Bank.{Ghosts}
use Rattle.tbl_session.specs.Inputs.{IsBeginning, StopsReading}
use Rattle.tbl_session.specs.Openings.{Opening, IsFirst}
use Rattle.tbl_session.specs.Served.{IsServed}
use Rattle.tbl_session.specs.Session.{Ran, IsEnded, IsBooted, IsStatus, WouldEnd, Tells, Ends, Boots, Session}
use Rattle.tbl_history.proofs.Laws.{Laws}
use Rattle.tbl_history.specs.Trouble.{IsCaused}
use Rattle.tbl_stream.specs.Finishing.{FinishesAs, FinishesUnbegun}
use Rattle.tbl_stream.specs.Limits.{and_more, is_spent}
use Rattle.tbl_stream.specs.Places.{place_of, place_count, told_from, end_of, told_with_end}
use Rattle.tbl_stream.specs.Reading.{HasFailed, Stops}
use Rattle.tbl_stream.specs.Reports.{EndsAs as EndsSo, HasNoRoom, Input, IsKnown, Reports, WouldEnd as WouldEndSo}
use Rattle.tbl_stream.specs.Serving.{Lives}
use Rattle.tbl_stream.specs.Standing.{FrontBy, HasPlayedAll, IsFront, TellsBoot, TellsCause, way_of}
use Rattle.tbl_stream.specs.Writing.{Taken}
use Rattle.tbl_stream.specs.declared.standing.Standing.{Standing}
use Rattle.tbl_stream.specs.declared.standing.Standing.TheVariants.{Full}
use Rattle.tbl_stream.proofs.FailureLemmas.{played_all}
use Rattle.tbl_stream.proofs.ReadingLemmas.{prepend_nothing}
use Rattle.tbl_stream.proofs.ReportLemmas.{reports_of, unbegun, unbegun_rises}
use Rattle.tbl_stream.proofs.ServingLemmas.{served_nothing}
use Rattle.tbl_stream.proofs.StandingLemmas.{left_of, spent, unspent}
use Rattle.tbl_top.specs.InTurn.{InTurn}
use Rattle.tbl_top.specs.Reading.{HasRead}
use Rattle.tbl_top.specs.Words.{Outcome}
use Rattle.tbl_top.specs.declared.words.Word.TheVariants.{Play}
use Rattle.tbl_top.proofs.OffsetLemmas.{joined_bound}
use Rattle.tbl_top.proofs.StatusLemmas.{exact_of, ends_before}

-- ---- the numbers of a session's transcript don't go round

told_is : (place : ℕ) (entries : List Entry) → place + length entries ≤ 4294967295 → told_from place entries ≡ entries_bytes place entries
told_is place [] few = refl
told_is place (e ∷ entries) few =
    let at : place_of place ≡ place = mod-eq_of_lt (omega (arith, few)) in
    ap (λ n. entry_bytes n e ++ told_from (place + 1) entries) at ∙ ap (λ (s : List ℕ). entry_bytes place e ++ s) (told_is (place + 1) entries (omega (arith, few)))

module _ (entries : List Entry) (each : AllByRecursion IsRecord (pairs_of entries)) (few : length entries ≤ record_limit) where
  pub entries_are : told_from 0 entries ≡ entries_bytes 0 entries
  entries_are = told_is 0 entries (omega (arith, few))

  pub end_is : (status : ℕ) → end_of status entries ≡ end_bytes status (length entries) (offset_of entries)
  end_is status =
      let count : place_of (length entries) ≡ length entries = mod-eq_of_lt (omega (arith, few)) in
      let offset : offset_of entries % 2 ^ 32 ≡ offset_of entries = mod-eq_of_lt (omega (arith, offset_is entries, joined_bound (pairs_of entries) each, length-map entries pair_of, few)) in
      ap (λ n. end_bytes status n (offset_of entries % 2 ^ 32)) count ∙ ap (λ n. end_bytes status (length entries) n) offset

  pub transcript_is : (status : ℕ) → told_with_end entries status ≡ transcript entries status
  transcript_is status = ap (λ (s : List ℕ). s ++ end_of status entries) entries_are ∙ ap (λ (s : List ℕ). entries_bytes 0 entries ++ s) (end_is status)

-- what comes after so many records of a session
pub beginning : (m n : ℕ) (rest : List ℕ) → record_limit ≡ m + n → IsFront (Some m) rest → IsBeginning n rest
beginning m n rest few (inl none) = inl none
beginning m n rest few (inr short) = inr (short.0, omega (arith, few, unspent m short.1))

-- ---- the session

module _ {B C : Type 0} (plays : ℕ → List Pair → List Entry → Type 0) (g : Ghosts B) (verdict : C → List ℕ → ℤ) (o : Opening B C) (r : Ran B) (pairs : List Pair) (entries : List Entry) (input : Input) (m : ℕ)
    (left_is : input.left ≡ Some m) (few : record_limit ≡ m + length pairs) (count_is : input.count ≡ length pairs) (each : AllByRecursion IsRecord pairs) (parts : input.read ≡ joined pairs ++ input.rest) (near : length input.rest ≤ 36931)
    (records : AllByRecursion IsRecord (pairs_of entries)) (few_entries : length entries ≤ record_limit) (reports : Reports g o.bank r input entries) where
  no_room : HasNoRoom input → ⊥
  no_room (inl many) = omega (arith, many, count_is, few)
  no_room (inr long) = omega (arith, long, ap (λ (xs : List ℕ). length xs) parts, length-append (joined pairs) input.rest, joined_bound pairs each, near, few)

  open_left : is_spent input.left ≡ false → length pairs < record_limit
  open_left e = omega (arith, few, unspent m (subst (λ (l : Option ℕ). is_spent l ≡ false) left_is e))

  ends_so : (status : ℕ) → EndsSo r input status → Ends r (length pairs) input.rest status
  ends_so status ends = record {
    done = ends.done;
    cut = λ e. let is = ends.cut e in (beginning m (length pairs) input.rest few (subst (λ (l : Option ℕ). IsFront l input.rest) left_is is.0), is.1);
    bad = λ e. let is = ends.bad e in (open_left is.0, is.1);
    full = λ e. let is = ends.many e in (omega (arith, few, spent m (subst (λ (l : Option ℕ). is_spent l ≡ true) left_is is.0)), is.1);
  }

  abbrev Ending : ℕ → Type 0
  Ending n = Ends r (length pairs) input.rest n

  abbrev Booting : ℕ → Type 0
  Booting n = Boots g o.bank r entries input.read n

  would : (status : ℕ) → WouldEndSo (EndsSo r input) Booting status → WouldEnd status Ending Booting
  would status (inl one) = inl one
  would status (inr (inl (inl ended, ends))) = inr (inl (ended, ends_so status ends))
  would status (inr (inl (inr full, ends))) = absurd (no_room (ends.full full))
  would status (inr (inr booted)) = inr (inr booted)

  known_of : IsKnown r.status → IsStatus r.status
  known_of (inl (inl ended)) = inl ended
  known_of (inl (inr full)) = absurd (no_room (reports.ends.full full))
  known_of (inr other) = inr other

  told : Tells r.status entries (λ other. WouldEnd other Ending Booting) r.taken r.taken_then
  told = record {
    whole = λ ended. subst (λ (xs : List ℕ). r.taken_then ≡ append_known r.taken xs) (transcript_is entries records few_entries r.status) (reports.told.whole (elim ended [ inl e ↦ inl (inl e) | inr b ↦ inr b ]));
    broken = λ four. elim (reports.told.broken four) [
      | inl front ↦ inl (subst (λ (xs : List ℕ). TakesFront r.taken r.taken_then xs) (entries_are entries records few_entries) front)
      | inr other ↦ inr (other.0, would other.0 other.1, subst (λ (xs : List ℕ). TakesFront r.taken r.taken_then xs) (transcript_is entries records few_entries other.0) other.2)
    ];
    starved = λ one. subst (λ (xs : List ℕ). TakesFront r.taken r.taken_then xs) (transcript_is entries records few_entries 1) (reports.told.starved one);
  }

  pub session_by : StopsReading input.read → r.left ≡ prepend_known input.read r.left_then → plays r.status pairs entries → IsServed g verdict o r.bank_then entries → Session plays g verdict o r
  session_by stops came requested served =
      let ends = ends_so r.status reports.ends in
      let known = known_of reports.known in
      record {
        read = input.read;
        came = came;
        pairs = pairs;
        rest = input.rest;
        parts = parts;
        each = each;
        few = omega (arith, few);
        near = omega (arith, near);
        stops = stops;
        records = λ ended. are_records input.read pairs input.rest each (omega (arith, few)) parts (ends_before r.status pairs input.rest _ _ ended ends);
        entries = entries;
        requested = requested;
        served = served;
        known = known;
        ends = ends;
        exact = exact_of r.status (length pairs) input.rest _ _ known ends;
        boots = reports.boots;
        causes = reports.causes;
        told = told;
      }

-- ---- a session that is played in order

stops_of : (read : List ℕ) → Stops (Some record_limit) read → StopsReading read
stops_of read s =
    let left = left_of record_limit (length s.records) s.left s.few in
    record {
      records = s.records;
      beginning = s.beginning;
      last = s.last;
      parts = s.parts;
      each = s.each;
      few = omega (arith, left.2);
      begun = beginning left.0 (length s.records) s.beginning left.2 (subst (λ (l : Option ℕ). IsFront l s.beginning) left.1 s.begun);
      short = s.short;
    }

pub played : {B C : Type 0} (g : Ghosts B) (verdict : C → List ℕ → ℤ) (o : Opening B C) (r : Ran B) → Lives (Some record_limit) g verdict o r → Outcome Play g verdict o r
played g verdict o r l =
    let left = left_of record_limit (length l.entries) l.left l.few in
    let same : length l.entries ≡ length (pairs_of l.entries) = sym (length-map l.entries pair_of) in (
      session_by (InTurn r) g verdict o r (pairs_of l.entries) l.entries _ left.0 left.1 (left.2 ∙ ap (λ n. left.0 + n) same) same l.each l.parts (omega (arith, l.near)) l.each (omega (arith, left.2)) l.reports
          (stops_of l.read l.stops) l.came (refl, l.lacks, l.reads_last) l.served,
      l.failures,
    )

-- ---- a session that was read before it was played

module _ {B C : Type 0} (plays : ℕ → List Pair → List Entry → Type 0) (g : Ghosts B) (verdict : C → List ℕ → ℤ) (o : Opening B C) (core : CoreView B C) (standing : Standing) (pairs : List Pair) (kept read : List ℕ) (failed : Bool) (r : Ran B) (mid : Taken)
    (bank_is : r.bank_then ≡ core.state.store.bank) (came : r.left ≡ prepend_known read r.left_then) (records : AllByRecursion IsRecord (pairs_of core.entries)) (few : length core.entries ≤ record_limit)
    (served : IsServed g verdict o core.state.store.bank core.entries) (caused : IsCaused g o.bank core) (requested : (IsEnded r.status → HasPlayedAll standing) → plays r.status pairs core.entries)
    (has : HasRead standing pairs kept read failed (IsAtEnd r.left_then)) (cause : HasFailed failed r.unread r.unread_then) (boot : TellsBoot standing core.state.ended core.entries) (not_full : standing ≢ Full)
    (sink_up : r.unwritten ≤ mid.1) (up : mid.1 ≤ r.unwritten_then) where
  abbrev Heard : Input
  Heard = record { read = read; count = length pairs; left = Some has.left; rest = has.behind }

  pub session_of : FrontBy (way_of standing) core.entries r.taken mid.0 → TellsCause standing r.unwritten mid.1
      → FinishesAs standing failed (eqb (length kept) 0) r.status (λ status. end_of status core.entries) mid (r.taken_then, r.unwritten_then) → Session plays g verdict o r
  session_of front why ends =
      session_by plays g verdict o r pairs core.entries Heard has.left refl has.few refl has.each has.parts has.near records few
      (reports_of g o.bank core standing Heard kept failed r mid bank_is caused has.leaves has.keeps has.ended cause boot (λ is. absurd (not_full is)) sink_up up front why ends)
      has.stops came (requested (λ ended. played_all standing failed (eqb (length kept) 0) r.status (λ status. end_of status core.entries) mid (r.taken_then, r.unwritten_then) ends (inl ended)))
      (subst (λ (b : B). IsServed g verdict o b core.entries) (sym bank_is) served)

-- ---- if the service didn't begin

no_reading : StopsReading []
no_reading = record {
  records = [];
  beginning = [];
  last = [];
  parts = refl;
  each = tt;
  few = omega arith;
  begun = inl refl;
  short = omega arith;
}

pub unbegun_session : {B C : Type 0} (plays : ℕ → List Pair → List Entry → Type 0) (g : Ghosts B) (laws : Laws g) (verdict : C → List ℕ → ℤ) (o : Opening B C) (first : IsFirst o.state) (r : Ran B) → r.left_then ≡ r.left
    → (g.tells_moments → LeavesOnly g.clock g.left_since o.bank r.bank_then (λ image. Shows o.state.store (store_of image))) → plays r.status [] [] → (fault : StartFault) → StartCounted g o.bank r.bank_then fault → FinishesUnbegun fault r.status (r.taken, r.unwritten) (r.taken_then, r.unwritten_then)
    → Session plays g verdict o r
unbegun_session plays g laws verdict o first r same crash requested fault counted w =
    session_by plays g verdict o r [] [] (record { read = []; count = 0; left = Some record_limit; rest = [] }) record_limit refl (omega arith) refl tt refl (omega arith) tt (omega arith)
    (unbegun g o.bank (Some record_limit) r fault counted w) no_reading (prepend_nothing r.left ∙ ap (prepend_known []) (sym same)) requested
    (served_nothing g laws verdict o first r.bank_then crash (unbegun_rises g o.bank r.bank_then fault counted))
