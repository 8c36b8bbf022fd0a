-- How a read or a write that failed is reported.
use Rattle.std.proofs.Common.{◌≡◌, ◌≢◌, ℕ, Bool, true, false, List, [], refl, subst, ◌∙◌, inl, inr}
use Rattle.tbl_core.specs.declared.service.StartFault.{StartFault}
use Rattle.tbl_core.specs.declared.service.StartFault.TheVariants.{Memory as NoMemory, BootFault as FirstFault, BootStopped as FirstStopped}
use Rattle.tbl_kinds.specs.Transcript.{end_bytes}
use Rattle.tbl_kinds.specs.declared.entry.Entry.{Entry}
use Rattle.tbl_outside.specs.Counts.{Rose}
use Rattle.tbl_outside.proofs.Streams.{front_of_second}
use Rattle.tbl_session.specs.Session.{Ran}
use Rattle.tbl_stream.specs.Finishing.{status_of, WritesEnd, FinishesAs, FinishesBy, FinishesUnbegun}
use Rattle.tbl_stream.specs.Places.{told_from, end_of}
use Rattle.tbl_stream.specs.Reading.{HasFailed}
use Rattle.tbl_stream.specs.Reports.{HasEnded, ReadsLast, TellsFailures}
use Rattle.tbl_stream.specs.Standing.{CauseBy, HasPlayedAll, IsWritten, TellsCause, TellsWritten, Way, all_written, not_taken, not_spelled, way_of}
use Rattle.tbl_stream.specs.Writing.{Taken}
use Rattle.tbl_stream.specs.declared.standing.Standing.{Standing}
use Rattle.tbl_stream.specs.declared.standing.Standing.TheVariants.{Open}
use Rattle.tbl_stream.proofs.StatusLemmas.{ended_standing, not_ended}

pub failed_rose : (failed : Bool) (before after : ℕ) → HasFailed failed before after → failed ≡ true → Rose before after
failed_rose true before after rose is = rose
failed_rose false before after still is = absurd cc

-- ---- reads

ended_by : (way : Way) (status result : ℕ) (bytes : List ℕ) (before after : Taken) → FinishesBy way status result bytes before after → HasEnded result → HasEnded status
ended_by all_written status result bytes before after (inl w) ended = subst HasEnded w.0 ended
ended_by all_written status result bytes before after (inr w) ended = absurd (not_ended result (inr w.0) ended)
ended_by not_taken status result bytes before after w ended = absurd (not_ended result (inr w.0) ended)
ended_by not_spelled status result bytes before after w ended = absurd (not_ended result (inl w.0) ended)

-- an end of the input is reported only if all was played
pub played_all : (standing : Standing) (failed whole : Bool) (result : ℕ) (end : ℕ → List ℕ) (before after : Taken) → FinishesAs standing failed whole result end before after → HasEnded result → HasPlayedAll standing
played_all standing failed whole result end before after w ended =
    let status = status_of standing failed whole in ended_standing standing failed whole (ended_by (way_of standing) status result (end status) before after w ended)

-- after a read that failed the end record has 3, unless the sink failed inside it
reads_open : (result : ℕ) (bytes : List ℕ) (before after : Taken) → WritesEnd 3 result bytes before after → HasEnded result → (result ≢ 3) → ⊥
reads_open result bytes before after (inl w) ended other = other w.0
reads_open result bytes before after (inr w) ended other = not_ended result (inr w.0) ended

pub reads_of : (standing : Standing) (failed whole : Bool) (result : ℕ) (end : ℕ → List ℕ) (unread unread_then : ℕ) (before after : Taken) → HasFailed failed unread unread_then → (failed ≡ true → HasPlayedAll standing → standing ≡ Open)
    → FinishesAs standing failed whole result end before after → HasEnded result → (result ≢ 3) → unread_then ≡ unread
reads_of standing false whole result end unread unread_then before after still cut w ended other = still
reads_of standing true whole result end unread unread_then before after rose cut w ended other =
    let is = cut refl (played_all standing true whole result end before after w ended) in
    absurd (reads_open result (end 3) before after (subst (λ (s : Standing). FinishesAs s true whole result end before after) is w) ended other)

last_open : {B : Type 0} (r : Ran B) (entries : List Entry) (mid : Taken) → IsWritten 0 entries r.taken mid.0 → WritesEnd 3 r.status (end_of 3 entries) mid (r.taken_then, r.unwritten_then) → ReadsLast r entries
last_open r entries mid written (inl w) = inr (inl w.0)
last_open r entries mid written (inr w) = inr (inr (w.0, front_of_second r.taken mid.0 r.taken_then (told_from 0 entries) (end_of 3 entries) written w.1))

pub last_read : {B : Type 0} (standing : Standing) (failed whole : Bool) (entries : List Entry) (r : Ran B) (mid : Taken) → HasFailed failed r.unread r.unread_then → (failed ≡ true → standing ≡ Open) → TellsWritten standing 0 entries r.taken mid.0
    → FinishesAs standing failed whole r.status (λ status. end_of status entries) mid (r.taken_then, r.unwritten_then) → ReadsLast r entries
last_read standing false whole entries r mid still cut written w = inl still
last_read standing true whole entries r mid rose cut written w =
    last_open r entries mid (subst (λ (s : Standing). TellsWritten s 0 entries r.taken mid.0) (cut refl) written)
    (subst (λ (s : Standing). FinishesAs s true whole r.status (λ status. end_of status entries) mid (r.taken_then, r.unwritten_then)) (cut refl) w)

-- ---- writes

writes_of : (way : Way) (status result : ℕ) (bytes : List ℕ) (unwritten : ℕ) (mid after : Taken) → CauseBy way unwritten mid.1 → FinishesBy way status result bytes mid after → (result ≢ 4) → after.1 ≡ unwritten
writes_of all_written status result bytes unwritten mid after still (inl w) other = w.2 ∙ still
writes_of all_written status result bytes unwritten mid after still (inr w) other = absurd (other w.0)
writes_of not_taken status result bytes unwritten mid after rose w other = absurd (other w.0)
writes_of not_spelled status result bytes unwritten mid after still w other = w.2 ∙ still

pub failures_of : {B : Type 0} (standing : Standing) (failed whole : Bool) (end : ℕ → List ℕ) (r : Ran B) (mid : Taken) → HasFailed failed r.unread r.unread_then → (failed ≡ true → HasPlayedAll standing → standing ≡ Open) → TellsCause standing r.unwritten mid.1
    → FinishesAs standing failed whole r.status end mid (r.taken_then, r.unwritten_then) → TellsFailures r
failures_of standing failed whole end r mid cause cut why w = record {
  reads = reads_of standing failed whole r.status end r.unread r.unread_then mid (r.taken_then, r.unwritten_then) cause cut w;
  writes = let status = status_of standing failed whole in writes_of (way_of standing) status r.status (end status) r.unwritten mid (r.taken_then, r.unwritten_then) why w;
}

-- if the service didn't begin
unbegun_writes : (fault : StartFault) (result : ℕ) (before after : Taken) → FinishesUnbegun fault result before after → (result ≢ 4) → after.1 ≡ before.1
unbegun_writes NoMemory result before after w other = w.2
unbegun_writes FirstFault result before after w other = writes_of all_written 7 result (end_bytes 7 0 0) before.1 before after refl w other
unbegun_writes FirstStopped result before after w other = writes_of all_written 8 result (end_bytes 8 0 0) before.1 before after refl w other

pub unbegun_failures : {B : Type 0} (fault : StartFault) (r : Ran B) → r.unread_then ≡ r.unread → FinishesUnbegun fault r.status (r.taken, r.unwritten) (r.taken_then, r.unwritten_then) → TellsFailures r
unbegun_failures fault r still w = record {
  reads = λ _ _. still;
  writes = unbegun_writes fault r.status (r.taken, r.unwritten) (r.taken_then, r.unwritten_then) w;
}
