-- From what a watched crew played to the report that was written.
use Rattle.std.proofs.Common.{◌≡◌, ◌≢◌, ◌≤◌, ℕ, ℤ, eqb, Bool, true, List, [], length, Option, Some, None, refl, sym, ◌∙◌, arith, inl, inr}
use Rattle.std.specs.Io.KnownBytes.{prepend_known, IsAtEnd}
use Rattle.std.specs.List.{AllByRecursion}
use Rattle.tbl_kinds.specs.Records.{Pair, IsRecord, record_limit}
use Rattle.tbl_kinds.specs.Transcript.{pairs_of}
use Rattle.tbl_kinds.specs.StoreSteps.{Shows}
use Rattle.cds_layout.specs.Images.{store_of}
use Rattle.table_watch.specs.Report.{report}
use Rattle.table_watch.specs.Watching.{watched_by, AreLooksOf}
use Rattle.table_watch.proofs.LookLaws.{all_looks}
use Rattle.table_watch.specs.declared.watch.Look.{Look}
use Rattle.tbl_outside.specs.Bank.{LeavesOnly}
use Rattle.tbl_outside.specs.Counts.{Rose}
use Rattle.tbl_outside.specs.declared.bank.Bank.{Ghosts}
use Rattle.tbl_core.specs.Service.{CoreView, StartCounted}
use Rattle.tbl_core.specs.declared.service.StepFault.TheVariants.{Memory as NoMemory, BootFault as Faulted, BootStopped as Stopped}
use Rattle.tbl_core.specs.declared.service.StartFault.{StartFault}
use Rattle.tbl_core.specs.declared.service.StartFault.TheVariants.{Memory as NoStart, BootFault as FirstFault, BootStopped as FirstStopped}
use Rattle.tbl_crew.specs.CrewView.{TellsFault}
use Rattle.tbl_crew.specs.Histories.{HavePlayed}
use Rattle.tbl_crew.specs.Scripts.{script_of}
use Rattle.tbl_crew.specs.Watching.{IsWatched}
use Rattle.tbl_crew.specs.declared.watching.WatchEnd.{WatchEnd}
use Rattle.tbl_crew.specs.declared.watching.WatchEnd.TheVariants.{Step, Memory as NoLook}
use Rattle.tbl_history.specs.Trouble.{IsCaused}
use Rattle.tbl_history.proofs.Laws.{Laws}
use Rattle.tbl_session.specs.Actors.{part}
use Rattle.tbl_session.specs.Openings.{Opening, IsFirst}
use Rattle.tbl_session.specs.Served.{IsServed}
use Rattle.tbl_session.specs.Session.{Ran, IsEnded, Session}
use Rattle.tbl_stream.specs.Finishing.{FinishesAs, FinishesBy, FinishesUnbegun, status_of, unbegun_status}
use Rattle.tbl_stream.specs.Places.{end_of}
use Rattle.tbl_stream.specs.Reading.{HasFailed}
use Rattle.tbl_stream.specs.Reports.{HasEnded, TellsFailures}
use Rattle.tbl_stream.specs.Standing.{FrontBy, HasPlayedAll, IsOfInput, TellsBoot, TellsCause, Way, all_written, not_taken, not_spelled, way_of}
use Rattle.tbl_stream.specs.Writing.{Taken}
use Rattle.tbl_top.specs.Listing.{TellsText}
use Rattle.tbl_top.specs.Reading.{HasRead}
use Rattle.tbl_top.specs.Telling.{StandsBehind, standing_behind}
use Rattle.tbl_top.specs.Watching.{ReportsAs, Watched, Watches, but_for_sink, fault_of}
use Rattle.tbl_stream.specs.declared.standing.Standing.{Standing}
use Rattle.tbl_stream.specs.declared.standing.Standing.TheVariants.{Open, Bad, TooMany, Full, BootFault, BootStopped, SinkFailed, Memory, Unwritten}
use Rattle.tbl_stream.proofs.FailureLemmas.{reads_of}
use Rattle.tbl_stream.proofs.StatusLemmas.{not_ended, not_four}
use Rattle.tbl_top.proofs.CrewLemmas.{behind_boot, behind_cause, behind_way, by_actor, none_behind, nothing_requested, read_behind, room_behind}
use Rattle.tbl_top.proofs.SessionLemmas.{session_of, unbegun_session}
use Rattle.tbl_kinds.specs.declared.entry.Entry.{Entry}
use Rattle.tbl_kinds.specs.declared.request.Request.{Request}

-- ---- what was played, whatever ended it

module _ {B C : Type 0} (g : Ghosts B) (verdict : C → List ℕ → ℤ) (o : Opening B C) (scripts : List (List Request)) (core : CoreView B C) where
  served : (end : Option WatchEnd) (looks : List Look) → IsWatched g verdict o scripts end looks core → IsServed g verdict o core.state.store.bank core.entries
  served None looks is = is.0.served
  served (Some (Step cause)) looks is = is.0.served
  served (Some NoLook) looks is = is.served

  pub have_played : (end : Option WatchEnd) (looks : List Look) → IsWatched g verdict o scripts end looks core → HavePlayed (fault_of end) scripts core.entries
  have_played None looks is = is.0.played
  have_played (Some (Step cause)) looks is = is.0.played
  have_played (Some NoLook) looks is = is.played

  caused : (end : Option WatchEnd) (looks : List Look) → IsWatched g verdict o scripts end looks core → IsCaused g o.bank core
  caused None looks is = is.0.caused
  caused (Some (Step cause)) looks is = is.0.caused
  caused (Some NoLook) looks is = is.caused

  pub few_played : (end : Option WatchEnd) (looks : List Look) → IsWatched g verdict o scripts end looks core → length core.entries ≤ record_limit
  few_played None looks is = is.0.few
  few_played (Some (Step cause)) looks is = is.0.few
  few_played (Some NoLook) looks is = is.few

  tells_fault : (end : Option WatchEnd) (looks : List Look) → IsWatched g verdict o scripts end looks core → TellsFault (fault_of end) core
  tells_fault None looks is = is.0.ended
  tells_fault (Some (Step cause)) looks is = is.0.ended
  tells_fault (Some NoLook) looks is = is.live

-- the looks of the report: those of the watch, unless something ended the crew
abbrev looks_told : Option WatchEnd → List Look → List Look → List Look
looks_told None watched all = watched
looks_told (Some why) watched all = all

module _ {B C : Type 0} (g : Ghosts B) (verdict : C → List ℕ → ℤ) (o : Opening B C) (scripts : List (List Request)) (core : CoreView B C) where
  looks_are : (end : Option WatchEnd) (looks : List Look) → IsWatched g verdict o scripts end looks core → AreLooksOf g.tells o.state core.entries (looks_told end looks (watched_by o.state core.entries))
  looks_are None looks is = is.1
  looks_are (Some why) looks is = all_looks g.tells o.state core.entries

-- what ended a crew leaves no report
fault_status : (why : WatchEnd) (read : Standing) (failed whole : Bool) → (status_of (standing_behind (fault_of (Some why)) read) failed whole ≢ 0) × (status_of (standing_behind (fault_of (Some why)) read) failed whole ≢ 4)
fault_status (Step NoMemory) read failed whole = (λ e. omega (arith, e), λ e. omega (arith, e))
fault_status (Step Faulted) read failed whole = (λ e. omega (arith, e), λ e. omega (arith, e))
fault_status (Step Stopped) read failed whole = (λ e. omega (arith, e), λ e. omega (arith, e))
fault_status NoLook read failed whole = (λ e. omega (arith, e), λ e. omega (arith, e))

-- nor after a status with which nothing was to be written
no_report : (status result : ℕ) → ReportsAs status result → (status ≢ 0) → (status ≢ 4) → (result ≢ 0) × (result ≢ 4)
no_report status result (inl same) not_zero not_four = (λ e. not_zero (sym same ∙ e), λ e. not_four (sym same ∙ e))
no_report status result (inr broken) not_zero not_four = absurd (not_zero broken.0)

text_told : (end : Option WatchEnd) (watched all : List Look) (read : Standing) (failed whole : Bool) (result : ℕ) (before after : Taken) → ReportsAs (status_of (standing_behind (fault_of end) read) failed whole) result
    → TellsText result (report watched) before after → TellsText result (report (looks_told end watched all)) before after
text_told None watched all read failed whole result before after ends told = told
text_told (Some why) watched all read failed whole result before after ends told =
    let status = fault_status why read failed whole in
    let no = no_report _ result ends status.0 status.1 in
    record { whole = λ zero. absurd (no.0 zero); broken = λ four. absurd (no.1 four); silent = told.silent; calm = told.calm }

-- ---- with a sink that doesn't show what it took

untold : (way : Way) (entries : List Entry) → FrontBy way entries None None
untold all_written entries = refl
untold not_taken entries = record { count = 0; grown = refl }
untold not_spelled entries = record { count = 0; grown = refl }

-- the end record, or what was to be written in its place
finishes : (way : Way) (status result : ℕ) (bytes : List ℕ) (faults faults_then : ℕ) → way ≡ all_written → result ≡ status → faults_then ≡ faults → FinishesBy way status result bytes (None, faults) (None, faults_then)
finishes all_written status result bytes faults faults_then all is still = inl (is, refl, still)
finishes not_taken status result bytes faults faults_then all is still = absurd cc
finishes not_spelled status result bytes faults faults_then all is still = absurd cc

-- the sink failed
breaks : (way : Way) (status result : ℕ) (bytes : List ℕ) (faults faults_then : ℕ) → way ≡ all_written → result ≡ 4 → Rose faults faults_then → FinishesBy way status result bytes (None, faults) (None, faults_then)
breaks all_written status result bytes faults faults_then all four rose = inr (four, record { count = 0; grown = refl }, rose)
breaks not_taken status result bytes faults faults_then all four rose = absurd cc
breaks not_spelled status result bytes faults faults_then all four rose = absurd cc

-- ---- the session

module _ {B C : Type 0} (g : Ghosts B) (verdict : C → List ℕ → ℤ) (o : Opening B C) (scripts : List (List Request)) (core : CoreView B C) (end : Option WatchEnd) (looks : List Look)
    (is : IsWatched g verdict o scripts end looks core) (read : Standing) (pairs : List Pair) (kept bytes : List ℕ) (failed : Bool) (r : Ran B)
    (bank_is : r.bank_then ≡ core.state.store.bank) (came : r.left ≡ prepend_known bytes r.left_then) (same : (actor : ℕ) → script_of scripts actor ≡ part actor pairs)
    (has : HasRead read pairs kept bytes failed (IsAtEnd r.left_then)) (input : IsOfInput read) (cause : HasFailed failed r.unread r.unread_then) (up : r.unwritten ≤ r.unwritten_then)
    (records : AllByRecursion IsRecord (pairs_of core.entries)) (few : length core.entries ≤ record_limit) where
  abbrev Looks : List Look
  Looks = looks_told end looks (watched_by o.state core.entries)

  abbrev Stands : Standing
  Stands = standing_behind (fault_of end) read

  abbrev status_at : Standing → ℕ
  status_at s = status_of s failed (eqb (length kept) 0)

  abbrev End : ℕ → List ℕ
  End status = end_of status core.entries

  session_at : (s : Standing) → StandsBehind (fault_of end) read s → TellsBoot s core.state.ended core.entries → TellsCause s r.unwritten r.unwritten
      → FinishesAs s failed (eqb (length kept) 0) r.status End (None, r.unwritten) (None, r.unwritten_then) → Session (Watched g o Looks) g verdict o (but_for_sink r)
  session_at s behind boot why ending =
      session_of (Watched g o Looks) g verdict o core s pairs kept bytes failed (but_for_sink r) (None, r.unwritten) bank_is came records few
      (served g verdict o scripts core end looks is) (caused g verdict o scripts core end looks is)
      (λ all. (
        by_actor r.status (fault_of end) scripts pairs core.entries same (λ ended. none_behind (fault_of end) read s behind (all ended)) (have_played g verdict o scripts core end looks is),
        looks_are g verdict o scripts core end looks is,
      ))
      (read_behind read pairs kept bytes failed (IsAtEnd r.left_then) has (fault_of end) s behind)
      cause boot (room_behind (fault_of end) read s input behind) (omega arith) up (untold (way_of s) core.entries) why ending

  stands_way : way_of Stands ≡ all_written
  stands_way = behind_way (fault_of end) read input

  session_stands : FinishesAs Stands failed (eqb (length kept) 0) r.status End (None, r.unwritten) (None, r.unwritten_then) → Session (Watched g o Looks) g verdict o (but_for_sink r)
  session_stands = session_at Stands (inl refl) (behind_boot (fault_of end) read core input (tells_fault g verdict o scripts core end looks is)) (behind_cause (fault_of end) read r.unwritten r.unwritten input refl)

  session_by : ReportsAs (status_at Stands) r.status → (r.status ≡ 4 → Rose r.unwritten r.unwritten_then) → (r.status ≢ 4 → r.unwritten_then ≡ r.unwritten) → Session (Watched g o Looks) g verdict o (but_for_sink r)
  session_by (inl status) rose calm =
      session_stands (finishes (way_of Stands) (status_at Stands) r.status (End (status_at Stands)) r.unwritten r.unwritten_then stands_way status (calm (λ four. not_four Stands failed (eqb (length kept) 0) stands_way (sym status ∙ four))))
  session_by (inr (zero, inl one)) rose calm = session_at Unwritten (inr tt) tt refl (one, refl, calm (λ four. omega (arith, one, four)))
  session_by (inr (zero, inr four)) rose calm = session_stands (breaks (way_of Stands) (status_at Stands) r.status (End (status_at Stands)) r.unwritten r.unwritten_then stands_way four (rose four))

  pub watches : ReportsAs (status_at Stands) r.status → TellsText r.status (report looks) (r.taken, r.unwritten) (r.taken_then, r.unwritten_then) → Watches g verdict o r
  watches ends told = record {
    looks = Looks;
    session = session_by ends (λ four. (told.broken four).1) told.calm;
    told = text_told end looks (watched_by o.state core.entries) read failed (eqb (length kept) 0) r.status (r.taken, r.unwritten) (r.taken_then, r.unwritten_then) ends told;
  }

-- a read that failed is reported by it, and a write
reads_told : {B : Type 0} (standing : Standing) (failed whole : Bool) (r : Ran B) → way_of standing ≡ all_written → HasFailed failed r.unread r.unread_then → (failed ≡ true → HasPlayedAll standing → standing ≡ Open)
    → ReportsAs (status_of standing failed whole) r.status → HasEnded r.status → (r.status ≢ 3) → r.unread_then ≡ r.unread
reads_told standing failed whole r way cause cut (inl status) ended other =
    reads_of standing failed whole r.status (λ _. []) r.unread r.unread_then (None, 0) (None, 0) cause cut (finishes (way_of standing) (status_of standing failed whole) r.status [] 0 0 way status refl) ended other
reads_told standing failed whole r way cause cut (inr (zero, inl one)) ended other = absurd (not_ended r.status (inl one) ended)
reads_told standing failed whole r way cause cut (inr (zero, inr four)) ended other = absurd (not_ended r.status (inr four) ended)

pub watch_failures : {B : Type 0} (end : Option WatchEnd) (read : Standing) (pairs : List Pair) (kept bytes text : List ℕ) (failed : Bool) (at_end : Type 0) (r : Ran B) → IsOfInput read → HasRead read pairs kept bytes failed at_end → HasFailed failed r.unread r.unread_then
    → ReportsAs (status_of (standing_behind (fault_of end) read) failed (eqb (length kept) 0)) r.status → TellsText r.status text (r.taken, r.unwritten) (r.taken_then, r.unwritten_then) → TellsFailures r
watch_failures end read pairs kept bytes text failed at_end r input has cause ends told =
    let stands = standing_behind (fault_of end) read in
    record {
      reads = reads_told stands failed (eqb (length kept) 0) r (behind_way (fault_of end) read input) cause (read_behind read pairs kept bytes failed at_end has (fault_of end) stands (inl refl)).cut ends;
      writes = told.calm;
    }

-- ---- if the service didn't begin

unbegun_finishes : (fault : StartFault) (result faults faults_then : ℕ) → result ≡ unbegun_status fault → faults_then ≡ faults → FinishesUnbegun fault result (None, faults) (None, faults_then)
unbegun_finishes NoStart result faults faults_then is still = (is, refl, still)
unbegun_finishes FirstFault result faults faults_then is still = inl (is, refl, still)
unbegun_finishes FirstStopped result faults faults_then is still = inl (is, refl, still)

unbegun_silent : (fault : StartFault) → (unbegun_status fault ≢ 0) × (unbegun_status fault ≢ 4)
unbegun_silent NoStart = (λ e. omega (arith, e), λ e. omega (arith, e))
unbegun_silent FirstFault = (λ e. omega (arith, e), λ e. omega (arith, e))
unbegun_silent FirstStopped = (λ e. omega (arith, e), λ e. omega (arith, e))

pub unwatched : {B C : Type 0} (g : Ghosts B) (laws : Laws g) (verdict : C → List ℕ → ℤ) (o : Opening B C) (first : IsFirst o.state) (r : Ran B) → r.left_then ≡ r.left
    → (g.tells_moments → LeavesOnly g.clock g.left_since o.bank r.bank_then (λ image. Shows o.state.store (store_of image))) → r.taken_then ≡ r.taken → r.unwritten_then ≡ r.unwritten
    → (fault : StartFault) → StartCounted g o.bank r.bank_then fault → r.status ≡ unbegun_status fault → Watches g verdict o r
unwatched g laws verdict o first r same crash nothing still fault counted status =
    let none = watched_by o.state [] in
    let no = unbegun_silent fault in
    record {
      looks = none;
      session = unbegun_session (Watched g o none) g laws verdict o first (but_for_sink r) same crash (nothing_requested r.status, all_looks g.tells o.state []) fault counted (unbegun_finishes fault r.status r.unwritten r.unwritten_then status still);
      told = record { whole = λ zero. absurd (no.0 (sym status ∙ zero)); broken = λ four. absurd (no.1 (sym status ∙ four)); silent = inr (inr nothing); calm = λ _. still };
    }
