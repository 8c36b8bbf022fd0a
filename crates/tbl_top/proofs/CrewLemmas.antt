-- From what a crew played to the session that was reported.
use Rattle.std.proofs.Common.{◌≡◌, ◌≢◌, ℕ, List, [], length, Bool, false, Option, Some, None, refl, sym, subst, ◌∙◌, inl, inr}
use Rattle.std.proofs.lemmas.List.{append-nil}
use Rattle.tbl_kinds.specs.Records.{Pair}
use Rattle.tbl_kinds.specs.Transcript.{pairs_of}
use Rattle.tbl_core.specs.Service.{CoreView}
use Rattle.tbl_core.specs.declared.service.StepFault.{StepFault}
use Rattle.tbl_core.specs.declared.service.StepFault.TheVariants.{Memory as NoMemory, BootFault as Faulted, BootStopped as Stopped}
use Rattle.tbl_crew.specs.Histories.{HasPlayed, HavePlayed}
use Rattle.tbl_crew.specs.CrewView.{TellsFault}
use Rattle.tbl_session.specs.Actors.{part}
use Rattle.tbl_crew.specs.Scripts.{script_of}
use Rattle.tbl_session.specs.Orders.{RequestedBy, ByActor}
use Rattle.tbl_session.specs.Session.{IsEnded}
use Rattle.tbl_stream.specs.Standing.{CauseBy, FrontBy, HasPlayedAll, IsOfInput, IsWritten, Leaves, TellsBoot, TellsCause, Way, all_written, way_of}
use Rattle.tbl_stream.specs.Writing.{Taken}
use Rattle.tbl_stream.specs.declared.standing.Standing.{Standing}
use Rattle.tbl_stream.specs.declared.standing.Standing.TheVariants.{Open, Bad, TooMany, Full, BootFault, BootStopped, SinkFailed, Memory, Unwritten}
use Rattle.tbl_stream.proofs.StandingLemmas.{by_quiet}
use Rattle.tbl_top.specs.Reading.{HasRead}
use Rattle.tbl_top.specs.Telling.{IsCut, StandsBehind, TellsCrew, WroteAll, standing_behind}
use Rattle.tbl_kinds.specs.declared.entry.Entry.{Entry}
use Rattle.tbl_kinds.specs.declared.request.Request.{Request}

-- if nothing was read nobody requested anything
pub nothing_requested : (status : ℕ) → ByActor status [] []
nothing_requested status = record {
  each = λ actor. record { left = []; parts = refl; whole = λ _. refl };
  actors = tt;
}

-- ---- what each actor requested

requested_by : (status : ℕ) (fault : Option StepFault) (own script requested : List Request) → script ≡ own → (IsEnded status → fault ≡ None) → HasPlayed fault script requested → RequestedBy status own requested
requested_by status None own script requested same none played = record { left = []; parts = sym same ∙ sym played ∙ sym (append-nil requested); whole = λ _. refl }
requested_by status (Some fault) own script requested same none played = record { left = played.0; parts = sym same ∙ played.1; whole = λ ended. absurd (let e = none ended in cc) }

pub by_actor : (status : ℕ) (fault : Option StepFault) (scripts : List (List Request)) (pairs : List Pair) (entries : List Entry) → ((actor : ℕ) → script_of scripts actor ≡ part actor pairs) → (IsEnded status → fault ≡ None) → HavePlayed fault scripts entries → ByActor status pairs entries
by_actor status fault scripts pairs entries same none played = record {
  each = λ actor. requested_by status fault (part actor pairs) (script_of scripts actor) (part actor (pairs_of entries)) (same actor) none (played.parts actor);
  actors = played.actors;
}

-- ---- the standing of the session

by_cut : (P : Standing → Type 0) (standing : Standing) → IsCut standing → P SinkFailed → P Unwritten → P standing
by_cut P SinkFailed is a b = a
by_cut P Unwritten is a b = b
by_cut P Open is a b = absurd is
by_cut P Bad is a b = absurd is
by_cut P TooMany is a b = absurd is
by_cut P Full is a b = absurd is
by_cut P BootFault is a b = absurd is
by_cut P BootStopped is a b = absurd is
by_cut P Memory is a b = absurd is

-- what was read stays what it was if a fault or a stop has precedence over it
module _ (read : Standing) (pairs : List Pair) (kept fed : List ℕ) (failed : Bool) (at_end : Type 0) (h : HasRead read pairs kept fed failed at_end) where
  over : (standing : Standing) → Leaves standing (Some h.left) h.behind → (standing ≢ Open) → ¬ HasPlayedAll standing → HasRead standing pairs kept fed failed at_end
  over standing leaves closed left = record {
    behind = h.behind;
    parts = h.parts;
    near = h.near;
    each = h.each;
    left = h.left;
    few = h.few;
    leaves = leaves;
    keeps = λ is. absurd (closed is);
    ended = λ is. absurd (closed is);
    cut = λ _ all. absurd (left all);
    stops = h.stops;
  }

  behind_fault : (fault : Option StepFault) → HasRead (standing_behind fault read) pairs kept fed failed at_end
  behind_fault None = h
  behind_fault (Some NoMemory) = over Memory tt (λ e. cc) (λ all. all)
  behind_fault (Some Faulted) = over BootFault tt (λ e. cc) (λ all. all)
  behind_fault (Some Stopped) = over BootStopped tt (λ e. cc) (λ all. all)

  pub read_behind : (fault : Option StepFault) (standing : Standing) → StandsBehind fault read standing → HasRead standing pairs kept fed failed at_end
  read_behind fault standing (inl is) = subst (λ (s : Standing). HasRead s pairs kept fed failed at_end) (sym is) (behind_fault fault)
  read_behind fault standing (inr stop) = by_cut (λ (s : Standing). HasRead s pairs kept fed failed at_end) standing stop (over SinkFailed tt (λ e. cc) (λ all. all)) (over Unwritten tt (λ e. cc) (λ all. all))

-- if all was played no step answered a fault
fault_none : (fault : Option StepFault) (read : Standing) → HasPlayedAll (standing_behind fault read) → fault ≡ None
fault_none None read all = refl
fault_none (Some NoMemory) read all = absurd all
fault_none (Some Faulted) read all = absurd all
fault_none (Some Stopped) read all = absurd all

pub none_behind : (fault : Option StepFault) (read standing : Standing) → StandsBehind fault read standing → HasPlayedAll standing → fault ≡ None
none_behind fault read standing (inl is) all = fault_none fault read (subst HasPlayedAll is all)
none_behind fault read standing (inr stop) all = absurd (by_cut (λ (s : Standing). HasPlayedAll s → ⊥) standing stop (λ all. all) (λ all. all) all)

-- a session isn't full
fault_room : (fault : Option StepFault) (read : Standing) → IsOfInput read → standing_behind fault read ≢ Full
fault_room None read is = is.1
fault_room (Some NoMemory) read is = λ e. cc
fault_room (Some Faulted) read is = λ e. cc
fault_room (Some Stopped) read is = λ e. cc

pub room_behind : (fault : Option StepFault) (read standing : Standing) → IsOfInput read → StandsBehind fault read standing → standing ≢ Full
room_behind fault read standing of (inl is) = λ e. fault_room fault read of (sym is ∙ e)
room_behind fault read standing of (inr stop) = by_cut (λ (s : Standing). s ≢ Full) standing stop (λ e. cc) (λ e. cc)

-- ---- what is reported of it

pub behind_boot : {B C : Type 0} (fault : Option StepFault) (read : Standing) (core : CoreView B C) → IsOfInput read → TellsFault fault core → TellsBoot (standing_behind fault read) core.state.ended core.entries
behind_boot None read core is told = by_quiet (λ (s : Standing). TellsBoot s core.state.ended core.entries) read is.0 told told told told told
behind_boot (Some NoMemory) read core is told = told
behind_boot (Some Faulted) read core is told = told
behind_boot (Some Stopped) read core is told = told

pub behind_way : (fault : Option StepFault) (read : Standing) → IsOfInput read → way_of (standing_behind fault read) ≡ all_written
behind_way None read is = by_quiet (λ (s : Standing). way_of s ≡ all_written) read is.0 refl refl refl refl refl
behind_way (Some NoMemory) read is = refl
behind_way (Some Faulted) read is = refl
behind_way (Some Stopped) read is = refl

pub behind_cause : (fault : Option StepFault) (read : Standing) (a b : ℕ) → IsOfInput read → b ≡ a → TellsCause (standing_behind fault read) a b
behind_cause fault read a b is still = subst (λ (w : Way). CauseBy w a b) (sym (behind_way fault read is)) still

behind_front : (fault : Option StepFault) (read : Standing) (entries : List Entry) (before taken : Option (List ℕ)) → IsOfInput read → IsWritten 0 entries before taken → FrontBy (way_of (standing_behind fault read)) entries before taken
behind_front fault read entries before taken is written = subst (λ (w : Way). FrontBy w entries before taken) (sym (behind_way fault read is)) written

pub told_behind : {B C : Type 0} (fault : Option StepFault) (read : Standing) (core : CoreView B C) (before after : Taken) → IsOfInput read → TellsFault fault core → WroteAll None core.entries before after
    → TellsCrew fault read (standing_behind fault read) core before after
told_behind fault read core before after is told w = record {
  behind = inl refl;
  front = behind_front fault read core.entries before.0 after.0 is w.0;
  boot = behind_boot fault read core is told;
  cause = behind_cause fault read before.1 after.1 is w.1;
}

pub told_cut : {B C : Type 0} (fault : Option StepFault) (read stop : Standing) (core : CoreView B C) (before after : Taken) → WroteAll (Some stop) core.entries before after → TellsCrew fault read stop core before after
told_cut fault read SinkFailed core before after w = record { behind = inr tt; front = w.0; boot = tt; cause = w.1 }
told_cut fault read Unwritten core before after w = record { behind = inr tt; front = w.0; boot = tt; cause = w.1 }
told_cut fault read Open core before after w = absurd w
told_cut fault read Bad core before after w = absurd w
told_cut fault read TooMany core before after w = absurd w
told_cut fault read Full core before after w = absurd w
told_cut fault read BootFault core before after w = absurd w
told_cut fault read BootStopped core before after w = absurd w
told_cut fault read Memory core before after w = absurd w
